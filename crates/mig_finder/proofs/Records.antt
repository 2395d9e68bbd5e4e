-- What the optic to a field finds in a record value of the template.
use Rattle.std.proofs.Common.{◌≡◌, ◌∙◌, refl, sym, ap, subst, ℕ, List, ◌∷◌, ◌++◌, Bool, true, false, Option, Some, None, MatchBool}
use Rattle.std.specs.Prelude.{not, ◌||◌, is_some, option_to_list, if◌then◌else◌}
use Rattle.std.specs.List.{AllByRecursion, list_any}
use Rattle.std.specs.Map.{keys_of}
use Rattle.std.specs.Option.{option_or}
use Rattle.std.proofs.lemmas.Bool.{MatchBool-at_true, MatchBool-at_false}
use Rattle.mig_model.specs.declared.presence.Presence.{Presence}
use Rattle.mig_model.specs.declared.presence.Presence.TheVariants.{Must, May}
use Rattle.mig_model.specs.Names.{has_twice, under, same_name, is_among}
use Rattle.mig_model.specs.Inhabits.{has_musts}
use Rattle.mig_model.specs.Template.{Template, Fields, no_field, field, field_list, Cases, no_case, case, case_list, is_must}
use Rattle.mig_model.specs.Record.{has_twice_in}
use Rattle.mig_value.specs.Typed.{Typed, rec, Slots, no_slot, slot, Tag, out, out_slots}
use Rattle.mig_value.specs.Fit.{ValueFits, FieldsFit, CasesFit, EachSlot}
use Rattle.mig_path.specs.Fields.{value_under, value_in}
use Rattle.mig_finder.specs.Places.{to_field}
use Rattle.mig_finder.specs.Law.{Finds}
use Rattle.mig_finder.proofs.Names.{other_name, so_if}
use Rattle.mig_model.proofs.Bools.{split_and, split_or, left_or, right_or}
use Rattle.mig_model.proofs.SameNames.{same_name_is, same_name_itself}
use Rattle.mig_template.proofs.Names.{apart_from_others}

abbrev pub names : Fields → List (List ℕ)
names fs = keys_of (field_list fs)

abbrev pub literals : Cases → List (List ℕ)
literals cs = keys_of (case_list cs)

-- ---- each field
abbrev pub EachField : (List ℕ → Presence → Template → Type 0) → Fields → Type 0
EachField Q no_field = Unit {0}
EachField Q (field y p V fs) = Q y p V × EachField Q fs

pub by_name : (R : List ℕ → Type 0) (fs : Fields) → ((y : List ℕ) → is_among (names fs) y ≡ true → R y) → EachField (λ y p V. R y) fs
by_name R no_field f = tt
by_name R (field y p V fs) f = (f y (left_or (same_name y y) (is_among (names fs) y) (same_name_itself y)), by_name R fs (λ z a. f z (right_or (same_name z y) (is_among (names fs) z) a)))

pub from_three : (A B C D : List ℕ → Presence → Template → Type 0) → ((y : List ℕ) (p : Presence) (V : Template) → A y p V → B y p V → C y p V → D y p V) → (fs : Fields) → EachField A fs → EachField B fs → EachField C fs → EachField D fs
from_three A B C D f no_field a b c = tt
from_three A B C D f (field y p V fs) a b c = (f y p V a.0 b.0 c.0, from_three A B C D f fs a.1 b.1 c.1)

-- ---- slots
has_value : (x : List ℕ) (ss : Slots) → is_some (under x (out_slots ss)) ≡ is_some (value_in x ss)
has_value x no_slot = refl
has_value x (slot n v ss) = by (same_name x n) (has_value x ss)
  where
    by : (b : Bool) → is_some (under x (out_slots ss)) ≡ is_some (value_in x ss) → is_some (if b then Some (out v) else under x (out_slots ss)) ≡ is_some (if b then Some v else value_in x ss)
    by true h = refl
    by false h = h

musts_there : (ss : Slots) (fs : Fields) → has_musts fs (out_slots ss) ≡ true → EachField (λ y p V. is_must p ≡ true → is_some (value_in y ss) ≡ true) fs
musts_there ss no_field h = tt
musts_there ss (field y p V fs) h =
    let both = split_and (not (is_must p) || is_some (under y (out_slots ss))) (has_musts fs (out_slots ss)) h in
    (λ m. sym (has_value y ss) ∙ so_if (is_must p) (is_some (under y (out_slots ss))) both.0 m, musts_there ss fs both.1)

value_of_slot : (Q : List ℕ → Typed → Type 0) (x : List ℕ) (w : Typed) (ss : Slots) → EachSlot Q ss → value_in x ss ≡ Some w → Q x w
value_of_slot Q x w no_slot e h = absurd cc
value_of_slot Q x w (slot n v ss) e h = by (same_name x n) refl h (value_of_slot Q x w ss e.1)
  where
    by : (b : Bool) → same_name x n ≡ b → (if b then Some v else value_in x ss) ≡ Some w → (value_in x ss ≡ Some w → Q x w) → Q x w
    by true i k rest = let is : v ≡ w = cc in subst (λ (m : List ℕ). Q m w) (sym (same_name_is x n i)) (subst (λ (u : Typed). Q n u) is e.0)
    by false i k rest = rest k

no_value : (Q : List ℕ → Typed → Type 0) (x : List ℕ) (ss : Slots) → EachSlot Q ss → ((n : List ℕ) (w : Typed) → Q n w → same_name x n ≡ false) → value_in x ss ≡ None
no_value Q x no_slot e f = refl
no_value Q x (slot n v ss) e f = ap (λ (b : Bool). if b then Some v else value_in x ss) (f n v e.0) ∙ no_value Q x ss e.1 f

or_none : (o : Option Typed) → option_or o None ≡ o
or_none None = refl
or_none (Some v) = refl

module _ (U : Typed → Type 0) (P : List ℕ → Typed → Type 0) where
  -- ---- names
  pub name_of_field : (fs : Fields) (n : List ℕ) (w : Typed) → FieldsFit U P fs n w → is_among (names fs) n ≡ true
  name_of_field no_field n w h = absurd h
  name_of_field (field y p V fs) n w h = by (same_name n y) h (name_of_field fs n w)
    where
      by : (b : Bool) → MatchBool b (ValueFits U P V w) (FieldsFit U P fs n w) → (FieldsFit U P fs n w → is_among (names fs) n ≡ true) → (b || is_among (names fs) n) ≡ true
      by true k rest = refl
      by false k rest = rest k

  name_of_case : (others : List (List ℕ)) (l : List ℕ) (cs : Cases) (n : List ℕ) (w : Typed) → list_any (has_twice_in others) (case_list cs) ≡ false → CasesFit U P l cs n w → is_among others n ≡ false
  name_of_case others l no_case n w d h = absurd h
  name_of_case others l (case m ds cs) n w d h = by (same_name l m) h (name_of_case others l cs n w both.1)
    where
      both : (has_twice (names ds ++ others) ≡ false) × (list_any (has_twice_in others) (case_list cs) ≡ false)
      both = split_or (has_twice (names ds ++ others)) (list_any (has_twice_in others) (case_list cs)) d

      by : (b : Bool) → MatchBool b (FieldsFit U P ds n w) (CasesFit U P l cs n w) → (CasesFit U P l cs n w → is_among others n ≡ false) → is_among others n ≡ false
      by true k rest = apart_from_others (names ds) others n both.0 (name_of_field ds n w k)
      by false k rest = rest k

  -- where no name stands twice, a value under a field's name is one of that field's template
  own_template : (G : List ℕ → Typed → Type 0) (fs : Fields) → has_twice (names fs) ≡ false → ((y : List ℕ) (w : Typed) → is_among (names fs) y ≡ true → G y w → FieldsFit U P fs y w) → EachField (λ y p V. (w : Typed) → G y w → ValueFits U P V w) fs
  own_template G no_field d f = tt
  own_template G (field y p V fs) d f =
      let both = split_or (is_among (names fs) y) (has_twice (names fs)) d in (
        λ w g. MatchBool-at_true (ValueFits U P V w) (FieldsFit U P fs y w) (same_name_itself y) (f y w (left_or (same_name y y) (is_among (names fs) y) (same_name_itself y)) g),
        own_template G fs both.1
            (λ z w a g. MatchBool-at_false (ValueFits U P V w) (FieldsFit U P fs z w) (other_name z y (names fs) a both.0) (f z w (right_or (same_name z y) (is_among (names fs) z) a) g)),
      )

  -- ---- what the optic to a field finds
  abbrev pub FieldFinds : Typed → List ℕ → Presence → Template → Type 0
  FieldFinds v y p V = Finds U P v (to_field y p, V)

  module _ (ss : Slots) (tag : Option Tag) (cs rs : Slots) where
    fit_there : (V : Template) (o : Option Typed) → ((w : Typed) → o ≡ Some w → ValueFits U P V w) → AllByRecursion (ValueFits U P V) (option_to_list o)
    fit_there V None f = tt
    fit_there V (Some w) f = (f w refl, tt)

    finds_under : (y : List ℕ) (p : Presence) (V : Template) (o : Option Typed) → value_under y (rec ss tag cs rs) ≡ o → (is_must p ≡ true → is_some o ≡ true) → ((w : Typed) → o ≡ Some w → ValueFits U P V w) → FieldFinds (rec ss tag cs rs) y p V
    finds_under y Must V o e m f = record { takes = ap (λ (q : Option Typed). is_some q) e ∙ m refl; fit = subst (λ (q : Option Typed). AllByRecursion (ValueFits U P V) (option_to_list q)) (sym e) (fit_there V o f) }
    finds_under y May V o e m f = record { takes = tt; fit = subst (λ (q : Option Typed). AllByRecursion (ValueFits U P V) (option_to_list q)) (sym e) (fit_there V o f) }

    -- where the values under the names of fields are those in some slots
    finds_each : (zs : Slots) (fs : Fields) → has_twice (names fs) ≡ false → has_musts fs (out_slots zs) ≡ true → EachSlot (FieldsFit U P fs) zs → ((y : List ℕ) → is_among (names fs) y ≡ true → value_under y (rec ss tag cs rs) ≡ value_in y zs) → EachField (FieldFinds (rec ss tag cs rs)) fs
    finds_each zs fs d m e u =
        from_three (λ y p V. value_under y (rec ss tag cs rs) ≡ value_in y zs) (λ y p V. is_must p ≡ true → is_some (value_in y zs) ≡ true) (λ y p V. (w : Typed) → FieldsFit U P fs y w → ValueFits U P V w) (FieldFinds (rec ss tag cs rs))
        (λ y p V a b c. finds_under y p V (value_in y zs) a b (λ w h. c w (value_of_slot (FieldsFit U P fs) y w zs e h))) fs (by_name (λ y. value_under y (rec ss tag cs rs) ≡ value_in y zs) fs u) (musts_there zs fs m)
        (own_template (FieldsFit U P fs) fs d (λ y w a g. g))

    -- each common field, where the names in the other slots are none of theirs
    pub finds_common : (fs : Fields) → has_twice (names fs) ≡ false → has_musts fs (out_slots ss) ≡ true → EachSlot (FieldsFit U P fs) ss → EachSlot (λ n w. is_among (names fs) n ≡ false) cs → EachField (FieldFinds (rec ss tag cs rs)) fs
    finds_common fs d m e apart =
        finds_each ss fs d m e (λ y a. ap (λ (o : Option Typed). option_or (value_in y ss) o) (no_value (λ n w. is_among (names fs) n ≡ false) y cs apart (λ n w k. other_name y n (names fs) a k)) ∙ or_none (value_in y ss))

    -- each field of the case, where the names in the slots of common fields are none of theirs
    pub finds_cased : (ds : Fields) → has_twice (names ds) ≡ false → has_musts ds (out_slots cs) ≡ true → EachSlot (FieldsFit U P ds) cs → EachSlot (λ n w. is_among (names ds) n ≡ false) ss → EachField (FieldFinds (rec ss tag cs rs)) ds
    finds_cased ds d m e apart =
        finds_each cs ds d m e (λ y a. ap (λ (o : Option Typed). option_or o (value_in y cs)) (no_value (λ n w. is_among (names ds) n ≡ false) y ss apart (λ n w k. other_name y n (names ds) a k)))

  -- a name of a field of a case is none of the other names
  pub name_of_choice : (fs : Fields) (tg : List ℕ) (cs : Cases) (t : Tag) (n : List ℕ) (w : Typed) → list_any (has_twice_in (tg ∷ names fs)) (case_list cs) ≡ false → CasesFit U P t.1 cs n w → is_among (names fs) n ≡ false
  name_of_choice fs tg cs t n w d h = (split_or (same_name n tg) (is_among (names fs) n) (name_of_case (tg ∷ names fs) t.1 cs n w d h)).1
