-- Where a function fits the fields of a scope, it fits the slots.
use Rattle.std.proofs.Common.{◌≡◌, ℕ, List, [], true, Option, Some, None, sym, ap, subst, ◌∙◌, ◌⊎◌, inl, inr, arith}
use Rattle.std.specs.Prelude.{is_some, option_and_then, unwrap_or, IfSome, if◌then◌else◌}
use Rattle.std.specs.Map.{keys_of}
use Rattle.mig_model.specs.declared.kind.Kind.{Kind}
use Rattle.mig_model.specs.declared.presence.Presence.{Presence}
use Rattle.mig_model.specs.declared.rest.Rest.{Rest}
use Rattle.mig_model.specs.Plain.{Plain}
use Rattle.mig_model.specs.Kinds.{kind_of}
use Rattle.mig_model.specs.Template.{Template, leaf, sum, Field, same_kind}
use Rattle.mig_model.specs.Leaf.{LeafFn, leaf_out}
use Rattle.mig_value.specs.Typed.{Typed, atom, left, right}
use Rattle.mig_model.proofs.SameNames.{same_kind_is, same_kind_itself}
use Rattle.mig_slots.specs.Fitting.{FitsAtom, OneFitsSide}
use Rattle.mig_model.specs.Names.{under}
use Rattle.mig_field.specs.FieldFn.{FieldOp, map_leaf, unnest, unify}
use Rattle.mig_field.specs.NewRecord.{Scoped, FieldType, inner_fields, unnest_slot, leaf_after, leaf_of_both, common_kind, with_template, new_fields}
use Rattle.mig_field.specs.Act.{inner_names, left_kind}
use Rattle.mig_action.specs.Moves.{Moving}
use Rattle.mig_action.proofs.Stands.{Stands}
use Rattle.mig_action.proofs.Values.{mapped, then_some, both_kinds}
use Rattle.mig_action.proofs.Ops.{at-field}
use Rattle.mig_func.specs.Ready.{IsReady, fields_within}

abbrev pub Whatever : Typed → Type 0
Whatever v = Unit {0}

abbrev pub Anything : List ℕ → Typed → Type 0
Anything n v = Unit {0}

leaf_ready : (f : LeafFn) (q : Presence) (V W : Template) → leaf_after f V ≡ Some W → (v : Typed) → Stands Whatever Anything (Some (q, V)) (Some v) → FitsAtom f v
leaf_ready f q (leaf k) W h (atom t) s =
    let m = mapped (λ j. leaf j) (leaf_out f k) W h in
    ap is_some (ap (leaf_out f) s ∙ m.1)
leaf_ready f q (leaf k) W h v s = absurd s
leaf_ready f q V W h v s = cc

side_ready : (f g : LeafFn) (q : Presence) (a b : Kind) (W : Template) → leaf_of_both f g (sum (leaf a) (leaf b)) ≡ Some W → (v : Typed) → Stands Whatever Anything (Some (q, sum (leaf a) (leaf b))) (Some v) → OneFitsSide f g a v
side_ready f g q a b W h v s = by v s
  where
    both : (j : Kind) × (leaf_out f a ≡ Some j) × (leaf_out g b ≡ Some j)
    both =
        let m = mapped (λ j. leaf j) (common_kind (leaf_out f a) (leaf_out g b)) W h in
        let k = both_kinds Whatever Anything (leaf_out f a) (leaf_out g b) m.0 m.1 in
        (m.0, k.0, k.1)

    one : (t : Plain) → (kind_of t ≡ a) ⊎ (kind_of t ≡ b) → is_some (leaf_out (if same_kind (kind_of t) a then f else g) (kind_of t)) ≡ true
    one t e = let k = both in grind (arith, k, same_kind_is (kind_of t) a, same_kind_itself a)

    by : (u : Typed) → Stands Whatever Anything (Some (q, sum (leaf a) (leaf b))) (Some u) → OneFitsSide f g a u
    by (left (atom t)) k = one t (inl k)
    by (right (atom t)) k = one t (inr k)
    by u k = absurd k

module _ (s : Scoped) (m : Moving) (stand : (n : List ℕ) → Stands Whatever Anything (under n s.fields) (under n m.slots)) where
  at_old : (x : List ℕ) (old : FieldType) → under x s.fields ≡ Some old → Stands Whatever Anything (Some old) (under x m.slots)
  at_old x old e = subst (λ F. Stands Whatever Anything F (under x m.slots)) e (stand x)

  map_ready : (x : List ℕ) (f : LeafFn) (gs : List Field) (r : Rest) → new_fields (map_leaf x f) r s ≡ Some gs → IsReady (map_leaf x f) s.fields m
  map_ready x f gs r h =
      let a = at-field x (with_template (leaf_after f)) s.fields gs h in
      let b = mapped (λ (W : Template). (a.old.0, W)) (leaf_after f a.old.1) a.new a.becomes in
      by a.old.0 a.old.1 b.0 b.1 (under x m.slots) (at_old x a.old a.there)
    where
      by : (q : Presence) (V W : Template) → leaf_after f V ≡ Some W → (S : Option Typed) → Stands Whatever Anything (Some (q, V)) S → IfSome S (FitsAtom f)
      by q V W k None l = tt
      by q V W k (Some v) l = leaf_ready f q V W k v l

  unify_ready : (x : List ℕ) (f g : LeafFn) (gs : List Field) (r : Rest) → new_fields (unify x f g) r s ≡ Some gs → IsReady (unify x f g) s.fields m
  unify_ready x f g gs r h =
      let a = at-field x (with_template (leaf_of_both f g)) s.fields gs h in
      let b = mapped (λ (W : Template). (a.old.0, W)) (leaf_of_both f g a.old.1) a.new a.becomes in
      subst (λ F. IfSome (under x m.slots) (OneFitsSide f g (left_kind F))) (sym a.there) (by a.old.0 a.old.1 b.0 b.1 (under x m.slots) (at_old x a.old a.there))
    where
      by : (q : Presence) (V W : Template) → leaf_of_both f g V ≡ Some W → (S : Option Typed) → Stands Whatever Anything (Some (q, V)) S → IfSome S (OneFitsSide f g (left_kind (Some (q, V))))
      by q (sum (leaf a) (leaf b)) W k None l = tt
      by q (sum (leaf a) (leaf b)) W k (Some v) l = side_ready f g q a b W k v l
      by q V W k S l = cc

  unnest_ready : (y : List ℕ) (gs : List Field) (r : Rest) → new_fields (unnest y) r s ≡ Some gs → IsReady (unnest y) s.fields m
  unnest_ready y gs r h =
      let a = then_some (λ (f : FieldType). option_and_then (unnest_slot y s f.0) (inner_fields f.1)) (under y s.fields) gs h in
      let b = then_some (unnest_slot y s a.0.0) (inner_fields a.0.1) gs a.2 in
      ap is_some (ap fields_within a.1 ∙ b.1)

  pub ready : (op : FieldOp) (gs : List Field) (r : Rest) → new_fields op r s ≡ Some gs → IsReady op s.fields m
  ready (map_leaf x f) gs r h = map_ready x f gs r h
  ready (unify x f g) gs r h = unify_ready x f g gs r h
  ready (unnest y) gs r h = unnest_ready y gs r h
  ready op gs r h = tt

-- the names that the record under a field declares
pub names_within : (s : Option FieldType) (fs : List Field) → fields_within s ≡ Some fs → inner_names s ≡ keys_of fs
names_within None fs h = cc
names_within (Some s) fs h = ap (λ o. keys_of (unwrap_or o [])) h
