-- Each function on the fields of a scope: what it does to the slots is what it does to the map, and the new slots are those of the new fields.
use Rattle.std.proofs.Common.{◌≡◌, ℕ, List, Bool, true, false, Option, Some, None, refl, sym, ap, subst, ◌∙◌, inl, inr, arith}
use Rattle.std.specs.Prelude.{not, ◌&&◌, is_some, option_map, option_and_then, if◌then◌else◌}
use Rattle.mig_model.specs.declared.kind.Kind.{Kind}
use Rattle.mig_model.specs.declared.presence.Presence.TheVariants.{Must, May}
use Rattle.mig_model.specs.Plain as plain
use Rattle.mig_model.specs.Plain.{Plain, no_tree, tree}
use Rattle.mig_model.specs.Names.{Ascends, same_name, under, has, without, put, bring, moved, changed}
use Rattle.mig_model.specs.Template.{Template, leaf, list, sum, Field, is_must, rec, Fields, field_list, no_choice, is_open}
use Rattle.mig_model.specs.Inhabits.{Entries}
use Rattle.mig_model.specs.Leaf.{LeafFn, leaf_value}
use Rattle.mig_value.specs.Typed.{Typed, no_item, item, out}
use Rattle.mig_value.specs.Typed as typed
use Rattle.mig_value.specs.Fit.{ValueFits}
use Rattle.mig_field.specs.FieldFn.{Fill, fill_template, fill_tree, rename, add, learn, default, map_leaf, wrap, unify, FieldOp, drop, forget, maybe, nest, unnest}
use Rattle.mig_field.specs.NewRecord.{Scoped, FieldType, is_free, filled, lessened, learned, can_be_learned, leaf_after, leaf_of_both, with_template, at_field, inner_fields, unnest_slot, new_fields}
use Rattle.mig_field.specs.SameTemplate.{same_template}
use Rattle.mig_field.specs.Act.{edit, is_learned, left_kind, unified}
use Rattle.mig_action.specs.Moves.{Moving, move, fill_value, at_leaf, at_side, learned_value}
use Rattle.mig_model.proofs.Edits.{put_without, bring_without, under-without, ascends-put, ascends-without, ascends-bring}
use Rattle.mig_model.proofs.Options.{none-there}
use Rattle.mig_action.proofs.Stands.{Stands, IsRest}
use Rattle.mig_action.proofs.Settings.{Setting, Mapped, first-none, own_tree, free_tree}
use Rattle.mig_action.proofs.OneName.{Settled, at_one, dropped, retyped, kept, given, brought, forgotten}
use Rattle.mig_field.proofs.Same.{same_is}
use Rattle.mig_action.proofs.Values.{so, mapped, then_some, fill_fits, fill_out, Learned, learned_tree, learned_stands, leaf_stands, leaf_same, sum_stands, sum_same}
use Rattle.mig_model.proofs.Bools.{split_and}
use Rattle.mig_model.proofs.SameNames.{same_name_is}
use Rattle.mig_model.specs.declared.presence.Presence.{Presence}
use Rattle.mig_model.specs.declared.rest.Rest.{Rest}
use Rattle.mig_model.specs.TemplateKept as template_kept
use Rattle.mig_value.specs.Kept as value_kept
use Rattle.mig_action.proofs.Several.{nests, unnests}
use Rattle.mig_model.specs.Fields.{if_so}

-- a free name
pub record IsFree (s : Scoped) (x : List ℕ) : Type 0 where
  pub absent : under x s.fields ≡ None
  pub free : s.taken x ≡ false

pub is-free : (s : Scoped) (x : List ℕ) → is_free s x ≡ true → IsFree s x
is-free s x h = record { absent = none-there (under x s.fields) (grind arith); free = grind arith }

-- one field gets another presence or template
pub record FieldAt (x : List ℕ) (f : FieldType → Option FieldType) (fs gs : List Field) : Type 0 where
  pub old : FieldType
  pub new : FieldType
  pub there : under x fs ≡ Some old
  pub becomes : f old ≡ Some new
  pub gives : put x new fs ≡ gs

pub at-field : (x : List ℕ) (f : FieldType → Option FieldType) (fs gs : List Field) → at_field x f fs ≡ Some gs → FieldAt x f fs gs
at-field x f fs gs h =
    let a = then_some (λ s. option_map (λ t. put x t fs) (f s)) (under x fs) gs h in
    let b = mapped (λ t. put x t fs) (f a.0) gs a.2 in
    record { old = a.0; new = b.0; there = a.1; becomes = b.1; gives = b.2 }

module _ (U : Typed → Type 0) (P : List ℕ → Typed → Type 0) (opened : Bool) (away : List ℕ → Bool) (elsewhere : List ℕ → Option Plain) where
  module _ (s : Scoped) (m : Moving) (es : Entries) (t : Setting U P opened away s m) (d : Mapped away elsewhere m es) where
    pub renames : (x y : List ℕ) → has x s.fields ≡ true → IsFree s y → Settled U P opened away elsewhere s (moved x y s.fields) (move (rename x y) s.fields m) (moved x y es)
    renames x y h f =
        let one = dropped U P opened away elsewhere s m es t d x h in
        let fs = without x s.fields in
        let ss = without x m.slots in
        let ts = without x es in
        let r = at_one U P opened away elsewhere (record s { fields = fs }) (record { slots = ss; rest = m.rest }) ts one.setting one.map y
        (moved x y s.fields) (move (rename x y) s.fields m) (moved x y es) (under x s.fields) (under x m.slots) None (under x es) (record {
          fields_ascend = ascends-bring y (under x s.fields) (without y fs) (ascends-without y fs one.setting.fields_ascend);
          slots_ascend = ascends-bring y (under x m.slots) (without y ss) (ascends-without y ss one.setting.slots_ascend);
          rest_ascend = ascends-without y m.rest t.rest_ascend;
          map_ascends = ascends-bring y (under x es) (without y ts) (ascends-without y ts one.map.ascend);
          fields_are = λ n. bring_without y (under x s.fields) fs n one.setting.fields_ascend;
          slots_are = λ n. bring_without y (under x m.slots) ss n one.setting.slots_ascend;
          rest_is = λ n. under-without y m.rest n t.rest_ascend;
          map_is = λ n. bring_without y (under x es) ts n one.map.ascend;
          tree = own_tree U P opened away s m t elsewhere es d x h ∙ sym (first-none (option_map out (under x m.slots)));
          stand = t.stand x;
          rests = none (under x s.fields);
          free = f.free;
        }) in
        record { setting = r.setting; map = r.map }
      where
        none : (F : Option FieldType) → IsRest U F false opened None
        none F = tt

    pub adds : (x : List ℕ) (c : Fill) → IsFree s x → Settled U P opened away elsewhere s (put x (Must, fill_template c) s.fields) (move (add x c) s.fields m) (put x (fill_tree c) (without x es))
    adds x c f =
        brought U P opened away elsewhere s m es t d x f.absent f.free (Must, fill_template c) (Some (fill_value c)) (put x (fill_tree c) (without x es))
        (fill_fits U P c)
        (ascends-put x (fill_tree c) (without x es) (ascends-without x es d.ascend))
        (λ n. grind (arith, put_without x (fill_tree c) es n d.ascend, fill_out c))

    pub learns : (x : List ℕ) (k : Option Kind) → IsFree s x → can_be_learned k ≡ true → Settled U P opened away elsewhere s (put x (May, learned k) s.fields) (move (learn x k) s.fields m) (edit (learn x k) s.fields es)
    learns x k f c =
        subst (λ T. Is (if is_learned k T then es else without x es)) (sym there) (by (learned_tree k c (under x m.rest)))
      where
        o : Option Typed
        o = option_and_then (learned_value k) (under x m.rest)

        there : under x es ≡ option_map out (under x m.rest)
        there = free_tree U P opened away s m t elsewhere es d x f.absent f.free

        Is : Entries → Type 0
        Is ts = Settled U P opened away elsewhere s (put x (May, learned k) s.fields) (record { slots = bring x o m.slots; rest = without x m.rest }) ts

        become : (ts : Entries) → Ascends ts → ((n : List ℕ) → under n ts ≡ (if same_name n x then option_map out o else under n es)) → Is ts
        become ts a at =
            brought U P opened away elsewhere s m es t d x f.absent f.free (May, learned k) o ts
            (learned_stands U P k (under x s.fields) (away x) opened (under x m.rest) (t.rests x)) a at

        by : Learned k (under x m.rest) → Is (if is_learned k (option_map out (under x m.rest)) then es else without x es)
        by (inl r) = subst (λ b. Is (if b then es else without x es)) (sym r.0) (become es d.ascend (λ n. let e = r.1 in grind (arith, e, there, same_name_is n x)))
        by (inr r) = subst (λ b. Is (if b then es else without x es)) (sym r.0) (become (without x es) (ascends-without x es d.ascend) (λ n. let e = r.1 in grind (arith, e, under-without x es n d.ascend)))

    -- ---- one field in its place
    module _ (x : List ℕ) (old new : FieldType) (there : under x s.fields ≡ Some old) where
      h : has x s.fields ≡ true
      h = ap is_some there

      stands_old : Stands U P (Some old) (under x m.slots)
      stands_old = subst (λ F. Stands U P F (under x m.slots)) there (t.stand x)

      fits_old : (v : Typed) → under x m.slots ≡ Some v → ValueFits U P old.1 v
      fits_old v e = subst (Stands U P (Some old)) e stands_old

      pub fills : (c : Fill) → filled c old ≡ Some new → Settled U P opened away elsewhere s (put x new s.fields) (move (default x c) s.fields m) (edit (default x c) s.fields es)
      fills c e =
          let a = so (not (is_must old.0) && same_template old.1 (fill_template c)) (Must, old.1) new e in
          let b = split_and (not (is_must old.0)) (same_template old.1 (fill_template c)) a.0 in
          let V : old.1 ≡ fill_template c = same_is old.1 (fill_template c) b.1 in
          by a.1 V (under x m.slots) refl (under x es) (own_tree U P opened away s m t elsewhere es d x h)
        where
          Is : Bool → Bool → Type 0
          Is b c' = Settled U P opened away elsewhere s (put x new s.fields) (record { slots = (if b then m.slots else put x (fill_value c) m.slots); rest = m.rest }) (if c' then es else put x (fill_tree c) es)

          by : (Must, old.1) ≡ new → old.1 ≡ fill_template c → (S : Option Typed) → under x m.slots ≡ S → (T : Option Plain) → T ≡ option_map out (under x m.slots) → Is (is_some (under x m.slots)) (is_some T)
          by n V None k T l =
              subst (λ b. Is b (is_some T)) (sym (ap is_some k))
              (subst (Is false) (sym (ap is_some (l ∙ ap (option_map out) k)))
              (given U P opened away elsewhere s m es t d x h new (fill_value c) (fill_tree c) (subst (λ (W : Template). ValueFits U P W (fill_value c)) (sym V ∙ ap (λ (z : FieldType). z.1) n) (fill_fits U P c)) (fill_out c)))
          by n V (Some v) k T l =
              subst (λ b. Is b (is_some T)) (sym (ap is_some k))
              (subst (Is true) (sym (ap is_some (l ∙ ap (option_map out) k)))
              (kept U P opened away elsewhere s m es t d x h new (subst (Stands U P (Some new)) (sym k) (subst (λ (z : FieldType). ValueFits U P z.1 v) n (fits_old v k)))))

      pub lessens : lessened old ≡ Some new → Settled U P opened away elsewhere s (put x new s.fields) m es
      lessens e =
          let a = so (is_must old.0) (May, old.1) new e in
          kept U P opened away elsewhere s m es t d x h new (by a.1 (under x m.slots) stands_old)
        where
          by : (May, old.1) ≡ new → (S : Option Typed) → Stands U P (Some old) S → Stands U P (Some new) S
          by n None k = grind arith
          by n (Some v) k = subst (λ (z : FieldType). ValueFits U P z.1 v) n k

      pub maps : (f : LeafFn) → with_template (leaf_after f) old ≡ Some new → Settled U P opened away elsewhere s (put x new s.fields) (move (map_leaf x f) s.fields m) (edit (map_leaf x f) s.fields es)
      maps f e =
          let a = mapped (λ (W : Template). (old.0, W)) (leaf_after f old.1) new e in
          retyped U P opened away elsewhere s m es t d x h new (at_leaf (leaf_value f)) (leaf_value f)
          (subst (λ (z : FieldType). Stands U P (Some z) (option_map (at_leaf (leaf_value f)) (under x m.slots))) a.2 (leaf_stands U P f old.0 old.1 a.0 a.1 (under x m.slots) stands_old))
          (λ v k. leaf_same U P f old.1 a.0 a.1 v (fits_old v k))

      pub wraps : with_template (λ V. Some (list V)) old ≡ Some new → Settled U P opened away elsewhere s (put x new s.fields) (move (wrap x) s.fields m) (edit (wrap x) s.fields es)
      wraps e =
          let n : (old.0, list old.1) ≡ new = cc in
          retyped U P opened away elsewhere s m es t d x h new (λ v. typed.list (item v no_item)) (λ u. plain.list (tree u no_tree))
          (subst (λ (z : FieldType). Stands U P (Some z) (option_map (λ v. typed.list (item v no_item)) (under x m.slots))) n (by (under x m.slots) stands_old))
          (λ v k. refl)
        where
          by : (S : Option Typed) → Stands U P (Some old) S → Stands U P (Some (old.0, list old.1)) (option_map (λ v. typed.list (item v no_item)) S)
          by None k = k
          by (Some v) k = (k, tt)

      pub unifies : (f g : LeafFn) → with_template (leaf_of_both f g) old ≡ Some new → Settled U P opened away elsewhere s (put x new s.fields) (move (unify x f g) s.fields m) (edit (unify x f g) s.fields es)
      unifies f g e =
          let a = mapped (λ (W : Template). (old.0, W)) (leaf_of_both f g old.1) new e in
          by old.1 refl a.0 a.1 a.2
        where
          Is : Kind → Type 0
          Is k = Settled U P opened away elsewhere s (put x new s.fields) (record { slots = changed x (at_side (unified f g k)) m.slots; rest = m.rest }) (changed x (unified f g k) es)

          by : (V : Template) → old.1 ≡ V → (W : Template) → leaf_of_both f g V ≡ Some W → (old.0, W) ≡ new → Is (left_kind (under x s.fields))
          by (sum (leaf a) (leaf b)) k W l n =
              let o : old ≡ (old.0, sum (leaf a) (leaf b)) = λ i. (old.0, k i) in
              subst Is (sym (ap left_kind (there ∙ ap Some o)))
              (retyped U P opened away elsewhere s m es t d x h new (at_side (unified f g a)) (unified f g a)
              (subst (λ (z : FieldType). Stands U P (Some z) (option_map (at_side (unified f g a)) (under x m.slots))) n (sum_stands U P f g old.0 a b W l (under x m.slots) (subst (λ (z : FieldType). Stands U P (Some z) (under x m.slots)) o stands_old)))
              (λ v q. sum_same U P f g a b v (subst (λ (X : Template). ValueFits U P X v) k (fits_old v q))))
          by V k W l n = cc

-- ---- every function
-- what is kept inside the fields and the values of a scope
pub record Inside (U : Typed → Type 0) (s : Scoped) (m : Moving) : Type 0 where
  pub templates : (x : List ℕ) (f : FieldType) → under x s.fields ≡ Some f → template_kept.TemplateKept f.1
  pub values : (x : List ℕ) (v : Typed) → under x m.slots ≡ Some v → value_kept.ValueKept v
  pub any : (x : List ℕ) (v : Typed) → under x m.slots ≡ Some v → U v

module _ (U : Typed → Type 0) (P : List ℕ → Typed → Type 0) (opened : Bool) (away : List ℕ → Bool) (elsewhere : List ℕ → Option Plain) (s : Scoped) (m : Moving) (es : Entries)
    (t : Setting U P opened away s m) (d : Mapped away elsewhere m es) (r : Rest) (o : is_open r ≡ true → opened ≡ true) (i : Inside U s m) where
  abbrev Is : List Field → FieldOp → Type 0
  Is gs op = Settled U P opened away elsewhere s gs (move op s.fields m) (edit op s.fields es)

  made : (b : Bool) (fs gs : List Field) (op : FieldOp) → if_so b fs ≡ Some gs → (b ≡ true → Is fs op) → Is gs op
  made b fs gs op h f = let a = so b fs gs h in subst (λ l. Is l op) a.1 (f a.0)

  made_at : (x : List ℕ) (f : FieldType → Option FieldType) (gs : List Field) (op : FieldOp) → at_field x f s.fields ≡ Some gs → ((a : FieldAt x f s.fields gs) → Is (put x a.new s.fields) op) → Is gs op
  made_at x f gs op h g = let a = at-field x f s.fields gs h in subst (λ l. Is l op) a.gives (g a)

  pub op_settled : (op : FieldOp) (gs : List Field) → new_fields op r s ≡ Some gs → Is gs op
  op_settled (rename x y) gs h = made _ _ gs (rename x y) h (λ b. renames U P opened away elsewhere s m es t d x y (grind (arith, b)) (is-free s y (grind (arith, b))))
  op_settled (drop x) gs h = made _ _ gs (drop x) h (dropped U P opened away elsewhere s m es t d x)
  op_settled (add x c) gs h = made _ _ gs (add x c) h (λ b. adds U P opened away elsewhere s m es t d x c (is-free s x (grind (arith, b))))
  op_settled (learn x k) gs h = made _ _ gs (learn x k) h (λ b. learns U P opened away elsewhere s m es t d x k (is-free s x (grind (arith, b))) (grind (arith, b)))
  op_settled (forget x) gs h = made _ _ gs (forget x) h (λ b. forgotten U P opened away elsewhere s m es t d x (grind (arith, b)) (o (grind (arith, b))) (i.any x))
  op_settled (default x c) gs h = made_at x (filled c) gs (default x c) h (λ f. fills U P opened away elsewhere s m es t d x f.old f.new f.there c f.becomes)
  op_settled (maybe x) gs h = made_at x lessened gs (maybe x) h (λ f. lessens U P opened away elsewhere s m es t d x f.old f.new f.there f.becomes)
  op_settled (map_leaf x g) gs h = made_at x (with_template (leaf_after g)) gs (map_leaf x g) h (λ f. maps U P opened away elsewhere s m es t d x f.old f.new f.there g f.becomes)
  op_settled (wrap x) gs h = made_at x (with_template (λ V. Some (list V))) gs (wrap x) h (λ f. wraps U P opened away elsewhere s m es t d x f.old f.new f.there f.becomes)
  op_settled (unify x g k) gs h = made_at x (with_template (leaf_of_both g k)) gs (unify x g k) h (λ f. unifies U P opened away elsewhere s m es t d x f.old f.new f.there g k f.becomes)
  op_settled (nest xs y) gs h = made _ _ gs (nest xs y) h (nests U P opened away elsewhere s m es t d xs y)
  op_settled (unnest y) gs h =
      let a = then_some (λ (f : FieldType). option_and_then (unnest_slot y s f.0) (inner_fields f.1)) (under y s.fields) gs h in
      by a.0.0 a.0.1 a.1 a.2
    where
      at : (q : Presence) (gf : Fields) (p : Rest) → under y s.fields ≡ Some (q, rec gf no_choice p) → unnest_slot y s q (field_list gf) ≡ Some gs → Is gs (unnest y)
      at q gf p e k =
          made _ _ gs (unnest y) k (unnests U P opened away elsewhere s m es t d y q gf p e ((i.templates y (q, rec gf no_choice p) e).0.fields) (i.values y))

      by : (q : Presence) (V : Template) → under y s.fields ≡ Some (q, V) → option_and_then (unnest_slot y s q) (inner_fields V) ≡ Some gs → Is gs (unnest y)
      by q (rec gf no_choice p) e k = at q gf p e k
      by q V e k = cc
  op_settled op gs h = cc
