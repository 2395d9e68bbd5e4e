-- The law of places, by induction over the template.
use Rattle.std.proofs.Common.{◌≡◌, ◌∙◌, refl, sym, ap, ℕ, List, [], ◌∷◌, ◌++◌, Bool, true, false, Option, Some, None, MatchBool}
use Rattle.std.specs.Prelude.{◌||◌, if◌then◌else◌}
use Rattle.std.specs.List.{AllByRecursion, flat_map, list_any}
use Rattle.mig_model.proofs.Ascending.{flips}
use Rattle.mig_model.specs.declared.presence.Presence.{Presence}
use Rattle.mig_model.specs.Names.{has_twice, same_name, is_among}
use Rattle.mig_model.specs.Inhabits.{has_musts}
use Rattle.mig_model.specs.Template as template
use Rattle.mig_model.specs.Template.{Template, Fields, no_field, field, field_list, Choice, no_choice, choice, Cases, no_case, case, case_list}
use Rattle.mig_model.specs.TemplateKept.{TemplateKept, FieldsKept, ChoiceKept, CasesKept}
use Rattle.mig_model.specs.Record.{has_twice_in, cases_in, is_twice_named}
use Rattle.mig_value.specs.Typed.{Typed, list, left, right, rec, Items, no_item, item, items, Slots, Tag, out_slots}
use Rattle.mig_value.specs.Fit.{ValueFits, FieldsFit, CasesFit, EachItem, EachSlot, TagFits, has_case_musts, has_cased_musts, ChoiceFits}
use Rattle.mig_path.specs.declared.side.Side.TheVariants.{Left, Right}
use Rattle.mig_path.specs.Path.{Path, case_of, each, side, foci, Takes}
use Rattle.mig_finder.specs.Places.{Place, behind, to_field, places, field_places, choice_places, case_places}
use Rattle.mig_finder.specs.Law.{Finds, PlacesFit}
use Rattle.mig_finder.proofs.Records.{names, literals, EachField, FieldFinds, finds_common, finds_cased, name_of_field, name_of_choice}
use Rattle.mig_model.proofs.Bools.{split_and, split_or, right_or}
use Rattle.mig_model.proofs.SameNames.{same_name_is}
use Rattle.mig_template.proofs.Names.{apart_from_first, first_once}
use Rattle.mig_value.proofs.Views.{weaker_slots}

-- ---- lists
all_append : {A : Type 0} (Q : A → Type 0) (xs ys : List A) → AllByRecursion Q xs → AllByRecursion Q ys → AllByRecursion Q (xs ++ ys)
all_append Q [] ys h k = k
all_append Q (x ∷ xs) ys h k = (h.0, all_append Q xs ys h.1 k)

pub all_weaker : {A : Type 0} (Q R : A → Type 0) → ((x : A) → Q x → R x) → (xs : List A) → AllByRecursion Q xs → AllByRecursion R xs
all_weaker Q R f [] h = tt
all_weaker Q R f (x ∷ xs) h = (f x h.0, all_weaker Q R f xs h.1)

all_flat : {A B : Type 0} (Q : B → Type 0) (f : A → List B) (xs : List A) → AllByRecursion (λ x. AllByRecursion Q (f x)) xs → AllByRecursion Q (flat_map f xs)
all_flat Q f [] h = tt
all_flat Q f (x ∷ xs) h = all_append Q (f x) (flat_map f xs) h.0 (all_flat Q f xs h.1)

pub all_items : (Q R : Typed → Type 0) → ((v : Typed) → Q v → R v) → (vs : Items) → EachItem Q vs → AllByRecursion R (items vs)
all_items Q R f no_item h = tt
all_items Q R f (item v vs) h = (f v h.0, all_items Q R f vs h.1)

-- the names of a record with a choice are apart
pub all_distinct : (fs : Fields) (tg : List ℕ) (cs : Cases) (k : Bool) → is_twice_named (field_list fs) (cases_in (choice tg cs k)) ≡ false
    → ((is_among (names fs) tg ≡ false) × (has_twice (names fs) ≡ false)) × ((list_any (has_twice_in (tg ∷ names fs)) (case_list cs) ≡ false) × (has_twice (literals cs) ≡ false))
all_distinct fs tg cs k d =
    let first = split_or (has_twice (tg ∷ names fs)) (list_any (has_twice_in (tg ∷ names fs)) (case_list cs) || has_twice (literals cs)) d in
    (split_or (is_among (names fs) tg) (has_twice (names fs)) first.0, split_or (list_any (has_twice_in (tg ∷ names fs)) (case_list cs)) (has_twice (literals cs)) first.1)

pub distinct_fields : (fs : Fields) (c : Choice) → is_twice_named (field_list fs) (cases_in c) ≡ false → has_twice (names fs) ≡ false
distinct_fields fs no_choice d = d
distinct_fields fs (choice tg cs k) d = (all_distinct fs tg cs k d).0.1

-- what is asked of a value where its tag is the literal, that the optic to the case finds
pub at_literal : (Z : Typed → Type 0) (v : Typed) (a b : Bool) → a ≡ b → (b ≡ true → Z v) → AllByRecursion Z (if a then v ∷ [] else [])
at_literal Z v true b e f = (f (sym e), tt)
at_literal Z v false b e f = tt

module _ (U : Typed → Type 0) (P : List ℕ → Typed → Type 0) (x : List ℕ) where
  abbrev AllFind : Typed → List Place → Type 0
  AllFind v ps = AllByRecursion (Finds U P v) ps

  -- places behind an optic, where those are places of what it finds
  behind_fit : (o : Path) (v : Typed) (ps : List Place) → Takes o v → AllByRecursion (λ w. AllFind w ps) (foci o v) → AllFind v (behind o ps)
  behind_fit o v [] t h = tt
  behind_fit o v (p ∷ ps) t h = (
    record {
      takes = (t, all_weaker (λ w. AllFind w (p ∷ ps)) (Takes p.0) (λ w k. k.0.takes) (foci o v) h);
      fit = all_flat (ValueFits U P p.1) (foci p.0) (foci o v) (all_weaker (λ w. AllFind w (p ∷ ps)) (λ w. AllByRecursion (ValueFits U P p.1) (foci p.0 w)) (λ w k. k.0.fit) (foci o v) h);
    },
    behind_fit o v ps t (all_weaker (λ w. AllFind w (p ∷ ps)) (λ w. AllFind w ps) (λ w k. k.1) (foci o v) h),
  )

  -- the places of one field
  field_fit : (b : Bool) (v : Typed) (y : List ℕ) (p : Presence) (V : Template) → FieldFinds U P v y p V → ((w : Typed) → ValueFits U P V w → AllFind w (places x V)) → AllFind v (if b then (to_field y p, V) ∷ [] else behind (to_field y p) (places x V))
  field_fit true v y p V h f = (h, tt)
  field_fit false v y p V h f = behind_fit (to_field y p) v (places x V) h.takes (all_weaker (ValueFits U P V) (λ w. AllFind w (places x V)) f (foci (to_field y p) v) h.fit)

  module _ (ss : Slots) (t : Tag) (zs rs : Slots) where
    abbrev whole : Typed
    whole = rec ss (Some t) zs rs

    -- the places of one case: of all there are, where it has the literal, and else of nothing
    case_fit : (m : List ℕ) (ds : Fields) → (b : Bool) → same_name m t.1 ≡ b → (b ≡ true → AllFind whole (field_places x ds)) → AllFind whole (behind (case_of m) (field_places x ds))
    case_fit m ds b e f =
        behind_fit (case_of m) whole (field_places x ds) refl (at_literal (λ w. AllFind w (field_places x ds)) whole (same_name m t.1) b e f)

    -- cases of which none has the literal
    other_cases : (cs : Cases) → is_among (literals cs) t.1 ≡ false → AllFind whole (case_places x cs)
    other_cases no_case h = tt
    other_cases (case m ds cs) h =
        let both = split_or (same_name t.1 m) (is_among (literals cs) t.1) h in
        all_append (Finds U P whole) (behind (case_of m) (field_places x ds)) (case_places x cs) (case_fit m ds false (flips m t.1 ∙ both.0) (λ e. absurd cc)) (other_cases cs both.1)

    -- the first case and the others
    cases_fit : (m : List ℕ) (ds : Fields) (cs : Cases) (b : Bool) → same_name t.1 m ≡ b → has_twice (m ∷ literals cs) ≡ false → (EachSlot (FieldsFit U P ds) zs → has_musts ds (out_slots zs) ≡ true → AllFind whole (field_places x ds)) → (EachSlot (CasesFit U P t.1 cs) zs → has_case_musts t.1 cs (out_slots zs) ≡ true → AllFind whole (case_places x cs)) → EachSlot (λ n w. MatchBool b (FieldsFit U P ds n w) (CasesFit U P t.1 cs n w)) zs → (if b then has_musts ds (out_slots zs) else has_case_musts t.1 cs (out_slots zs)) ≡ true → AllFind whole (case_places x (case m ds cs))
    cases_fit m ds cs true e d f g h k =
        let none : is_among (literals cs) t.1 ≡ false = ap (is_among (literals cs)) (same_name_is t.1 m e) ∙ (split_or (is_among (literals cs) m) (has_twice (literals cs)) d).0 in
        all_append (Finds U P whole) (behind (case_of m) (field_places x ds)) (case_places x cs) (case_fit m ds true (flips m t.1 ∙ e) (λ i. f h k)) (other_cases cs none)
    cases_fit m ds cs false e d f g h k =
        all_append (Finds U P whole) (behind (case_of m) (field_places x ds)) (case_places x cs) (case_fit m ds false (flips m t.1 ∙ e) (λ i. absurd cc)) (g h k)

  mutual
    fit : (V : Template) (v : Typed) → TemplateKept V → ValueFits U P V v → AllFind v (places x V)
    fit (template.leaf k) v kept h = tt
    fit template.any v kept h = tt
    fit (template.point n) v kept h = tt
    fit (template.list V) (list vs) kept h = behind_fit each (list vs) (places x V) tt (all_items (ValueFits U P V) (λ w. AllFind w (places x V)) (λ w k. fit V w kept k) vs h)
    fit (template.sum V W) (left v) kept h =
        all_append (Finds U P (left v)) (behind (side Left) (places x V)) (behind (side Right) (places x W)) (behind_fit (side Left) (left v) (places x V) tt (fit V v kept.0 h, tt)) (behind_fit (side Right) (left v) (places x W) tt tt)
    fit (template.sum V W) (right v) kept h =
        all_append (Finds U P (right v)) (behind (side Left) (places x V)) (behind (side Right) (places x W)) (behind_fit (side Left) (right v) (places x V) tt tt) (behind_fit (side Right) (right v) (places x W) tt (fit W v kept.1 h, tt))
    fit (template.rec fs c r) (rec ss tag zs rs) kept h =
        let musts = split_and (has_musts fs (out_slots ss)) (has_cased_musts c tag (out_slots zs)) h.1 in
        fit_choice c fs ss tag zs rs kept.1.1 kept.0.distinct h.0 musts.1 h.2 h.3
        (λ apart. fit_fields fs (rec ss tag zs rs) kept.1.0 (finds_common U P ss tag zs rs fs (distinct_fields fs c kept.0.distinct) musts.0 h.2 apart))
    fit _ v kept h = absurd h

    -- the places of the fields of a record value, where each field's optic finds what it is to
    fit_fields : (fs : Fields) (v : Typed) → FieldsKept fs → EachField (FieldFinds U P v) fs → AllFind v (field_places x fs)
    fit_fields no_field v kept h = tt
    fit_fields (field y p V fs) v kept h =
        all_append (Finds U P v) (if same_name x y then (to_field y p, V) ∷ [] else behind (to_field y p) (places x V)) (field_places x fs) (field_fit (same_name x y) v y p V h.0 (λ w k. fit V w kept.0 k)) (fit_fields fs v kept.1 h.1)

    fit_choice : (c : Choice) (fs : Fields) (ss : Slots) (tag : Option Tag) (zs rs : Slots) → ChoiceKept c → is_twice_named (field_list fs) (cases_in c) ≡ false → TagFits c tag → has_cased_musts c tag (out_slots zs) ≡ true → EachSlot (FieldsFit U P fs) ss → EachSlot (ChoiceFits U P c tag) zs → (EachSlot (λ n w. is_among (names fs) n ≡ false) zs → AllFind (rec ss tag zs rs) (field_places x fs)) → AllFind (rec ss tag zs rs) (field_places x fs ++ choice_places x c)
    fit_choice no_choice fs ss tag zs rs kept d t m e h f =
        all_append (Finds U P (rec ss tag zs rs)) (field_places x fs) [] (f (weaker_slots (λ n w. ⊥) (λ n w. is_among (names fs) n ≡ false) (λ n w k. absurd k) zs h)) tt
    fit_choice (choice tg cs k) fs ss None zs rs kept d t m e h f = absurd t
    fit_choice (choice tg cs k) fs ss (Some t) zs rs kept d tag_fits m e h f =
        let distinct = (all_distinct fs tg cs k d).1 in
        all_append (Finds U P (rec ss (Some t) zs rs)) (field_places x fs) (case_places x cs)
        (f (weaker_slots (CasesFit U P t.1 cs) (λ n w. is_among (names fs) n ≡ false) (λ n w k. name_of_choice U P fs tg cs t n w distinct.0 k) zs h))
        (fit_cases cs (tg ∷ names fs) ss t zs rs kept distinct.0 distinct.1 (weaker_slots (FieldsFit U P fs) (λ n w. is_among (tg ∷ names fs) n ≡ true) (λ n w k. right_or (same_name n tg) (is_among (names fs) n) (name_of_field U P fs n w k)) ss e) h m)

    fit_cases : (cs : Cases) (others : List (List ℕ)) (ss : Slots) (t : Tag) (zs rs : Slots) → CasesKept cs → list_any (has_twice_in others) (case_list cs) ≡ false → has_twice (literals cs) ≡ false → EachSlot (λ n w. is_among others n ≡ true) ss → EachSlot (CasesFit U P t.1 cs) zs → has_case_musts t.1 cs (out_slots zs) ≡ true → AllFind (rec ss (Some t) zs rs) (case_places x cs)
    fit_cases no_case others ss t zs rs kept d l e h m = tt
    fit_cases (case l ds cs) others ss t zs rs kept d once e h m =
        let both = split_or (has_twice (names ds ++ others)) (list_any (has_twice_in others) (case_list cs)) d in
        cases_fit ss t zs rs l ds cs (same_name t.1 l) refl once
        (λ a b. fit_fields ds (rec ss (Some t) zs rs) kept.0
        (finds_cased U P ss (Some t) zs rs ds (first_once (names ds) others both.0) b a
        (weaker_slots (λ n w. is_among others n ≡ true) (λ n w. is_among (names ds) n ≡ false) (λ n w k. apart_from_first (names ds) others n both.0 k) ss e)))
        (λ a b. fit_cases cs others ss t zs rs kept.1 both.1 (split_or (is_among (literals cs) l) (has_twice (literals cs)) once).1 e a b) h m

-- each place's optic takes every value of the template, and finds values of the place's template
pub places_fit : (U : Typed → Type 0) (P : List ℕ → Typed → Type 0) → PlacesFit U P
places_fit U P x V v kept h = fit U P x V v kept h
