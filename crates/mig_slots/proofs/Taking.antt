-- A value that is taken out of its slot, and the fields' values taken one after another.
use Rattle.std.proofs.Common.{◌≡◌, ℕ, zero, suc, List, [], ◌∷◌, ◌++◌, false, true, Option, Some, None, Ok, map, drop, refl, sym, ap, subst, ◌∙◌, append-nil, arith}
use Rattle.std.specs.Prelude.{IsTrue}
use Rattle.std.specs.Map.{keys_of}
use Rattle.std.specs.List.Sorted.{IsStrictlySortedBy}
use Rattle.std.specs.declared.cmp.Ordering.TheVariants.{Equal}
use Rattle.std.proofs.lemmas.Map.Lookups.{exact_bytes}
use Rattle.std.proofs.lemmas.List.{append_assoc}
use Rattle.std_collections.specs.Layout.BTreeMap.{seek}
use Rattle.std_collections.proofs.Seek.{AnswersAt, seek-Ok}
use Rattle.mig_model.specs.Names.{by_bytes, Ascends, same_name, is_among, under, put, bring, others}
use Rattle.mig_model.specs.Template.{Field}
use Rattle.mig_model.proofs.SameNames.{same_name_flips, same_name_itself}
use Rattle.mig_template.specs.View.{field_of}
use Rattle.mig_template.specs.declared.fields.Field as template
use Rattle.mig_value.specs.Places.{value_at, with_value_at}
use Rattle.mig_value.specs.Typed.{Typed, Slot}
use Rattle.mig_value.specs.View.{slot_of}
use Rattle.mig_value.specs.declared.slots.Slot as code
use Rattle.mig_field.specs.NewRecord.{FieldType}
use Rattle.mig_field.specs.Act.{by_field}
use Rattle.mig_model.proofs.Edits.{Above, ascends-head, ascends-tail}
use Rattle.mig_slots.specs.Behind.{with_behind}
use Rattle.mig_slots.proofs.Changes.{value_here}

-- ---- a value at a place
module _ (x : List ℕ) (u : Typed) where
  under_elsewhere : (es : List Slot) (i : ℕ) → AnswersAt (by_bytes x) es i Equal → (n : List ℕ) → same_name n x ≡ false → under n (with_value_at i u es) ≡ under n es
  under_elsewhere [] i a n h = refl
  under_elsewhere (e ∷ es) zero a n h = let is = exact_bytes x e.0 a in grind (arith, is, h)
  under_elsewhere (e ∷ es) (suc i) a n h = grind (arith, under_elsewhere es i a n h)

  others_stay : (es : List Slot) (i : ℕ) → AnswersAt (by_bytes x) es i Equal → (xs : List (List ℕ)) → is_among xs x ≡ true → others xs (with_value_at i u es) ≡ others xs es
  others_stay [] i a xs h = refl
  others_stay (e ∷ es) zero a xs h = let is = exact_bytes x e.0 a in grind (arith, is, h)
  others_stay (e ∷ es) (suc i) a xs h = grind (arith, others_stay es i a xs h)

keys_stay : (u : Typed) (es : List Slot) (i : ℕ) → keys_of (with_value_at i u es) ≡ keys_of es
keys_stay u [] i = refl
keys_stay u (e ∷ es) zero = refl
keys_stay u (e ∷ es) (suc i) = ap (λ l. e.0 ∷ l) (keys_stay u es i)

pub still_ascends : (u : Typed) (es fs : List Slot) (i : ℕ) → fs ≡ with_value_at i u es → Ascends es → Ascends fs
still_ascends u es fs i is s = subst (λ ks. IsStrictlySortedBy by_bytes ks) (sym (ap keys_of is ∙ keys_stay u es i)) s

module _ (x : List ℕ) (xs ys : List code.Slot) (i : ℕ) (same : ys ≡ xs) (at : Ok i ≡ seek (by_bytes x) (map slot_of ys)) where
  place : seek (by_bytes x) (map slot_of xs) ≡ Ok i
  place = sym (at ∙ ap (λ (l : List code.Slot). seek (by_bytes x) (map slot_of l)) same)

  pub taken_there : (v : Typed) → v ≡ value_at i (map slot_of xs) → Some v ≡ under x (map slot_of xs)
  taken_there v is = let r = seek-Ok (by_bytes x) (map slot_of xs) i place in ap Some is ∙ sym (value_here x (map slot_of xs) i r.0 r.1 r.2)

  pub elsewhere_there : (u : Typed) (ts : List Slot) → ts ≡ with_value_at i u (map slot_of xs) → (n : List ℕ) → same_name n x ≡ false → under n ts ≡ under n (map slot_of xs)
  elsewhere_there u ts is n h = ap (under n) is ∙ under_elsewhere x u (map slot_of xs) i (seek-Ok (by_bytes x) (map slot_of xs) i place).2 n h

  pub others_there : (u : Typed) (ts : List Slot) → ts ≡ with_value_at i u (map slot_of xs) → (ns : List (List ℕ)) → IsTrue (is_among ns x) → others ns ts ≡ others ns (map slot_of xs)
  others_there u ts is ns h = ap (others ns) is ∙ others_stay x u (map slot_of xs) i (seek-Ok (by_bytes x) (map slot_of xs) i place).2 ns (grind (arith, h))

-- ---- field by field
-- each field's value behind the one before it
abbrev pub collected : (FieldType → Option Typed → Option Typed) → List Field → List Slot → List Slot
collected g [] es = []
collected g (f ∷ fs) es = with_behind f.0 (g f.1 (under f.0 es)) [] ++ collected g fs es

module _ (g : FieldType → Option Typed → Option Typed) where
  put_first : (x : List ℕ) (v : Typed) (es : List Slot) → Above x es → put x v es ≡ (x, v) ∷ es
  put_first x v [] h = refl
  put_first x v (e ∷ es) h = grind (arith, h.0)

  above_collected : (x : List ℕ) (fs : List Field) (es : List Slot) → Above x fs → Above x (collected g fs es)
  above_collected x [] es h = tt
  above_collected x (f ∷ fs) es h = by (g f.1 (under f.0 es)) (above_collected x fs es h.1)
    where
      by : (o : Option Typed) → Above x (collected g fs es) → Above x (with_behind f.0 o [] ++ collected g fs es)
      by None rest = rest
      by (Some v) rest = (h.0, rest)

  pub collected_is : (fs : List Field) (es : List Slot) → Ascends fs → by_field g fs es ≡ collected g fs es
  collected_is [] es s = refl
  collected_is (f ∷ fs) es s = ap (bring f.0 (g f.1 (under f.0 es))) (collected_is fs es (ascends-tail f fs s)) ∙ by (g f.1 (under f.0 es))
    where
      by : (o : Option Typed) → bring f.0 o (collected g fs es) ≡ with_behind f.0 o [] ++ collected g fs es
      by None = refl
      by (Some v) = put_first f.0 v (collected g fs es) (above_collected f.0 fs es (ascends-head f fs s))

  -- what stands elsewhere only is as it was
  same_collected : (x : List ℕ) (fs : List Field) (es ds : List Slot) → Above x fs → ((n : List ℕ) → same_name n x ≡ false → under n ds ≡ under n es) → collected g fs ds ≡ collected g fs es
  same_collected x [] es ds h a = refl
  same_collected x (f ∷ fs) es ds h a = (λ i. with_behind f.0 (g f.1 (a f.0 other i)) [] ++ same_collected x fs es ds h.1 a i)
    where
      other : same_name f.0 x ≡ false
      other = grind (arith, h.0, same_name_flips f.0 x)

  behind_is : (x : List ℕ) (o : Option Typed) (ss : List Slot) → with_behind x o ss ≡ ss ++ with_behind x o []
  behind_is x None ss = sym (append-nil ss)
  behind_is x (Some v) ss = refl

  -- one field more
  pub one_more : (f : Field) (fs : List Field) (all es ds ls ms : List Slot) (o : Option Typed) → Ascends (f ∷ fs) → ls ++ collected g (f ∷ fs) es ≡ all → ms ≡ with_behind f.0 o ls → o ≡ g f.1 (under f.0 es) → ((n : List ℕ) → same_name n f.0 ≡ false → under n ds ≡ under n es)
      → ms ++ collected g fs ds ≡ all
  one_more f fs all es ds ls ms o s h m is a =
      (λ i. (m ∙ behind_is f.0 o ls) i ++ same_collected f.0 fs es ds (ascends-head f fs s) a i)
      ∙ append_assoc ls (with_behind f.0 o []) (collected g fs es)
      ∙ ap (λ p. ls ++ (with_behind f.0 p [] ++ collected g fs es)) is
      ∙ h

-- ---- the field in hand, and those behind it
pub ascends_drop : (xs : List template.Field) (i : ℕ) → Ascends (map field_of xs) → Ascends (map field_of (drop i xs))
ascends_drop xs zero s = s
ascends_drop [] (suc i) s = s
ascends_drop (x ∷ xs) (suc i) s = ascends_drop xs i (ascends-tail (field_of x) (map field_of xs) s)

pub among_at : (xs : List template.Field) (i : ℕ) (f : template.Field) (ys : List template.Field) → drop i xs ≡ f ∷ ys → is_among (keys_of (map field_of xs)) f.name ≡ true
among_at xs zero f ys h = subst (λ (l : List template.Field). is_among (keys_of (map field_of l)) f.name ≡ true) (sym h) (grind (arith, same_name_itself f.name))
among_at [] (suc i) f ys h = cc
among_at (x ∷ xs) (suc i) f ys h = let a = among_at xs i f ys h in grind (arith, a)
