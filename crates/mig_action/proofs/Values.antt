-- What becomes of single values: constants, leaves that are learned, functions on leaves.
use Rattle.std.proofs.Common.{◌≡◌, Bool, true, false, Option, Some, None, refl, sym, ap, subst, ◌∙◌, ◌⊎◌, inl, inr, ℕ, List, arith}
use Rattle.std.specs.Prelude.{is_some, option_map, option_and_then}
use Rattle.mig_model.specs.declared.kind.Kind.{Kind}
use Rattle.mig_model.specs.declared.presence.Presence.{Presence}
use Rattle.mig_model.specs.declared.presence.Presence.TheVariants.{May}
use Rattle.mig_model.specs.Plain.{Plain}
use Rattle.mig_model.specs.Kinds.{kind_of}
use Rattle.mig_model.specs.Template.{Template, leaf, sum, same_kind, is_leaf}
use Rattle.mig_model.specs.Fields.{if_so}
use Rattle.mig_model.specs.Leaf.{LeafFn, leaf_out, leaf_value}
use Rattle.mig_leaf.proofs.KindOut.{value_has_kind, const_has_kind}
use Rattle.mig_value.specs.Typed.{Typed, atom, left, right, point, out}
use Rattle.mig_value.specs.Leaf.{leaf_of}
use Rattle.mig_value.specs.Fit.{ValueFits}
use Rattle.mig_model.proofs.SameNames.{same_kind_is, same_kind_itself}
use Rattle.mig_field.specs.FieldFn.{Fill, constant, empty_list, fill_template, fill_tree}
use Rattle.mig_field.specs.NewRecord.{learned, can_be_learned, leaf_after, leaf_of_both, common_kind}
use Rattle.mig_field.specs.Act.{is_learned, unified}
use Rattle.mig_action.specs.Moves.{fill_value, at_leaf, at_side, leaf_of_kind, learned_value}
use Rattle.mig_action.proofs.Stands.{Stands, IsRest}

-- ---- if_so
pub so : {A : Type 0} (b : Bool) (a c : A) → if_so b a ≡ Some c → (b ≡ true) × (a ≡ c)
so b a c h = grind arith

pub mapped : {A B : Type 0} (f : A → B) (o : Option A) (b : B) → option_map f o ≡ Some b → (a : A) × (o ≡ Some a) × (f a ≡ b)
mapped f None b h = cc
mapped f (Some a) b h = (a, refl, cc)

pub then_some : {A B : Type 0} (f : A → Option B) (o : Option A) (b : B) → option_and_then f o ≡ Some b → (a : A) × (o ≡ Some a) × (f a ≡ Some b)
then_some f None b h = cc
then_some f (Some a) b h = (a, refl, h)

pub none_then : {A B : Type 0} (o : Option A) (r : B) → option_and_then (λ s. None) o ≡ Some r → ⊥
none_then o r h = grind arith

-- ---- fills

pub fill_fits : (U : Typed → Type 0) (P : List ℕ → Typed → Type 0) (c : Fill) → ValueFits U P (fill_template c) (fill_value c)
fill_fits U P (constant c) = const_has_kind c
fill_fits U P (empty_list V) = tt

pub fill_out : (c : Fill) → fill_tree c ≡ out (fill_value c)
fill_out (constant c) = refl
fill_out (empty_list V) = refl

-- ---- learned leaves
pub leaf_some : (v : Typed) (u : Plain) → leaf_of v ≡ Some u → out v ≡ u
leaf_some (atom t) u h = grind arith
leaf_some (left v) u h = leaf_some v u h
leaf_some (right v) u h = leaf_some v u h
leaf_some (point n v) u h = leaf_some v u h
leaf_some v u h = cc

pub leaf_none : (v : Typed) → leaf_of v ≡ None → is_leaf (kind_of (out v)) ≡ false
leaf_none (atom t) h = grind arith
leaf_none (left v) h = leaf_none v h
leaf_none (right v) h = leaf_none v h
leaf_none (point n v) h = leaf_none v h
leaf_none v h = refl

-- what is learned of a value is the tree that was there, or nothing and the tree has another kind
abbrev pub Learned : Option Kind → Option Typed → Type 0
Learned k R = let o = option_and_then (learned_value k) R in ((is_learned k (option_map out R) ≡ true) × (option_map out o ≡ option_map out R)) ⊎ ((is_learned k (option_map out R) ≡ false) × (o ≡ None))

pub learned_tree : (k : Option Kind) → can_be_learned k ≡ true → (R : Option Typed) → Learned k R
learned_tree None h None = inl (refl, refl)
learned_tree None h (Some v) = inl (refl, refl)
learned_tree (Some j) h None = inr (refl, refl)
learned_tree (Some j) h (Some v) = let a = leaf_some v in grind (arith, a, leaf_none v, same_kind_is (kind_of (out v)) j)

module _ (U : Typed → Type 0) (P : List ℕ → Typed → Type 0) where
  pub learned_stands : (k : Option Kind) (F : Option (Presence × Template)) (a b : Bool) (R : Option Typed) → IsRest U F a b R → Stands U P (Some (May, learned k)) (option_and_then (learned_value k) R)
  learned_stands k F a b None h = refl
  learned_stands None F a b (Some v) h = h.3
  learned_stands (Some j) F a b (Some v) h = by (leaf_of v)
    where
      at : (u : Plain) (c : Bool) → same_kind (kind_of u) j ≡ c → Stands U P (Some (May, leaf j)) (if_so c (atom u))
      at u true e = same_kind_is (kind_of u) j e
      at u false e = refl

      by : (l : Option Plain) → Stands U P (Some (May, leaf j)) (leaf_of_kind j l)
      by None = refl
      by (Some u) = at u (same_kind (kind_of u) j) refl

  -- ---- functions on leaves
  -- the value of a leaf of a kind that the function fits
  pub leaf_kind_out : (f : LeafFn) (t : Plain) (k j : Kind) → kind_of t ≡ k → leaf_out f k ≡ Some j → kind_of (leaf_value f t) ≡ j
  leaf_kind_out f t k j e h =
      let g : leaf_out f (kind_of t) ≡ Some j = ap (leaf_out f) e ∙ h in
      let v : leaf_out f (kind_of t) ≡ Some (kind_of (leaf_value f t)) = value_has_kind f t (ap is_some g) in
      cc

  pub leaf_stands : (f : LeafFn) (q : Presence) (V W : Template) → leaf_after f V ≡ Some W → (S : Option Typed) → Stands U P (Some (q, V)) S → Stands U P (Some (q, W)) (option_map (at_leaf (leaf_value f)) S)
  leaf_stands f q (leaf k) W h None s = s
  leaf_stands f q (leaf k) W h (Some (atom t)) s =
      let m = mapped (λ j. leaf j) (leaf_out f k) W h in
      subst (λ X. ValueFits U P X (atom (leaf_value f t))) m.2 (leaf_kind_out f t k m.0 s m.1)
  leaf_stands f q (leaf k) W h (Some v) s = absurd s
  leaf_stands f q V W h S s = cc

  pub leaf_same : (f : LeafFn) (V W : Template) → leaf_after f V ≡ Some W → (v : Typed) → ValueFits U P V v → out (at_leaf (leaf_value f) v) ≡ leaf_value f (out v)
  leaf_same f (leaf k) W h (atom t) s = refl
  leaf_same f (leaf k) W h v s = absurd s
  leaf_same f V W h v s = cc

  pub both_kinds : (i j : Option Kind) (k : Kind) → common_kind i j ≡ Some k → (i ≡ Some k) × (j ≡ Some k)
  both_kinds (Some a) (Some b) k h = let s = so (same_kind a b) a k h in (ap Some s.1, ap Some (sym (same_kind_is a b s.0) ∙ s.1))
  both_kinds i j k h = cc

  -- whichever of the two functions is taken, the kind is the same
  unified_kind : (f g : LeafFn) (a b j : Kind) (t : Plain) → leaf_out f a ≡ Some j → leaf_out g b ≡ Some j → (kind_of t ≡ a) ⊎ (kind_of t ≡ b) → kind_of (unified f g a t) ≡ j
  unified_kind f g a b j t h k e = grind (arith, leaf_kind_out f t a j, leaf_kind_out g t b j, same_kind_is (kind_of t) a, same_kind_itself a)

  sum_fits : (f g : LeafFn) (a b : Kind) (W : Template) → leaf_of_both f g (sum (leaf a) (leaf b)) ≡ Some W → (t : Plain) → (kind_of t ≡ a) ⊎ (kind_of t ≡ b) → ValueFits U P W (atom (unified f g a t))
  sum_fits f g a b W h t e =
      let m = mapped (λ j. leaf j) (common_kind (leaf_out f a) (leaf_out g b)) W h in
      let ks = both_kinds (leaf_out f a) (leaf_out g b) m.0 m.1 in
      subst (λ X. ValueFits U P X (atom (unified f g a t))) m.2 (unified_kind f g a b m.0 t ks.0 ks.1 e)

  pub sum_stands : (f g : LeafFn) (q : Presence) (a b : Kind) (W : Template) → leaf_of_both f g (sum (leaf a) (leaf b)) ≡ Some W → (S : Option Typed)
      → Stands U P (Some (q, sum (leaf a) (leaf b))) S → Stands U P (Some (q, W)) (option_map (at_side (unified f g a)) S)
  sum_stands f g q a b W h None s = s
  sum_stands f g q a b W h (Some (left (atom t))) s = sum_fits f g a b W h t (inl s)
  sum_stands f g q a b W h (Some (right (atom t))) s = sum_fits f g a b W h t (inr s)
  sum_stands f g q a b W h (Some v) s = absurd s

  pub sum_same : (f g : LeafFn) (a b : Kind) (v : Typed) → ValueFits U P (sum (leaf a) (leaf b)) v → out (at_side (unified f g a) v) ≡ unified f g a (out v)
  sum_same f g a b (left (atom t)) s = refl
  sum_same f g a b (right (atom t)) s = refl
  sum_same f g a b v s = absurd s
