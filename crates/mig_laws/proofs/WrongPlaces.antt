-- First wrong places: they depend on the trees at points alone, and the number of points that are allowed plays no part.
use Rattle.std.proofs.Common.{◌≡◌, refl, ap, ap₂, ℕ, zero, suc, ◌<◌, arith, List, [], ◌∷◌, true, Option}
use Rattle.std.specs.Prelude.{option_map}
use Rattle.mig_model.specs.declared.form.Form.{Form}
use Rattle.mig_model.specs.declared.rest.Rest.{Rest}
use Rattle.mig_model.specs.Plain as plain
use Rattle.mig_model.specs.Plain.{Plain, items, entries}
use Rattle.mig_model.specs.Kinds.{kind_of}
use Rattle.mig_model.specs.Template.{Template, leaf, any, list, point, rec, sum, Fields, no_field, field, Choice, no_choice, choice, Cases, no_case, case, has_kind}
use Rattle.mig_model.specs.Names.{same_name}
use Rattle.mig_model.specs.Inhabits.{Entries, EachItem, EachEntry, has_tag, depth}
use Rattle.mig_model.specs.Place.{Place, index, or_else, wrong_item, within_list, within_map, at_name, wrong_entry, wrong_map, wrong, wrong_fields, wrong_choice, wrong_cases, place_within}
use Rattle.mig_laws.specs.Sides.{is_guarded}
use Rattle.mig_laws.proofs.Tests.{if_agree}
use Rattle.mig_laws.proofs.Parts.{PartsHave, PassesDown, Near, near, at_point, at_sides, depth_down, near_below}

module _ (R : Plain → Type 0) where
  item_agree : (w v : Plain → Option Place) → ((t : Plain) → R t → w t ≡ v t) → (i : ℕ) (ts : List Plain) → EachItem R ts → wrong_item w i ts ≡ wrong_item v i ts
  item_agree w v e i [] r = refl
  item_agree w v e i (t ∷ ts) r = ap₂ (λ a b. or_else (option_map (λ p. index i ∷ p) a) b) (e t r.0) (item_agree w v e (suc i) ts r.1)

  entry_agree : (w v : List ℕ → Plain → Option Place) → ((n : List ℕ) (t : Plain) → R t → w n t ≡ v n t) → (es : Entries) → EachEntry (λ n. R) es → wrong_entry w es ≡ wrong_entry v es
  entry_agree w v f [] r = refl
  entry_agree w v f (e ∷ es) r = ap₂ (at_name e.0) (f e.0 e.1 r.0) (entry_agree w v f es r.1)

  within_list_agree : (w v : List Plain → Option Place) → ((ts : List Plain) → EachItem R ts → w ts ≡ v ts) → (t : Plain) → PartsHave R t → within_list w t ≡ within_list v t
  within_list_agree w v e (plain.list ts) r = e (items ts) r
  within_list_agree w v e t r = refl

  within_map_agree : (w v : Entries → Option Place) → ((es : Entries) → EachEntry (λ n. R) es → w es ≡ v es) → (t : Plain) → PartsHave R t → within_map w t ≡ within_map v t
  within_map_agree w v e (plain.map ps) r = e (entries ps) r
  within_map_agree w v e t r = refl

-- the first wrong place of a map's pairs in a record
abbrev pub wrong_record : Form → (List ℕ → Plain → Option Place) → Fields → Choice → Rest → Entries → Option Place
wrong_record form w fs c o es = wrong_map fs c es (wrong_entry (wrong_choice form w c (wrong_fields form w fs) o es) es)

-- places that agree at trees with a property that passes down
module _ (form : Form) (R : Plain → Type 0) (down : PassesDown R) where
  abbrev pub Agree : (List ℕ → Plain → Option Place) → (List ℕ → Plain → Option Place) → Type 0
  Agree w v = (n : List ℕ) (t : Plain) → R t → w n t ≡ v n t

  mutual
    pub wrong_agree : (w v : List ℕ → Plain → Option Place) → Agree w v → (V : Template) (t : Plain) → Near R V t → wrong form w V t ≡ wrong form v V t
    wrong_agree w v e (leaf k) t r = refl
    wrong_agree w v e any t r = refl
    wrong_agree w v e (list V) t r = within_list_agree R _ _ (item_agree R _ _ (λ u q. wrong_agree w v e V u (near R down V u q)) 0) t r.parts
    wrong_agree w v e (point n) t r = e n t (at_point R n t r)
    wrong_agree w v e (rec fs c o) t r =
        within_map_agree R (wrong_record form w fs c o) (wrong_record form v fs c o)
        (λ es q. ap (wrong_map fs c es) (entry_agree R _ _ (choice_agree w v e c (wrong_fields form w fs) (wrong_fields form v fs) (fields_agree w v e fs) o es) es q)) t r.parts
    wrong_agree w v e (sum V W) t r =
        let both = at_sides R V W t r in
        if_agree (has_kind form V (kind_of t)) (wrong_agree w v e V t both.0) (if_agree (has_kind form W (kind_of t)) (wrong_agree w v e W t both.1) refl)

    fields_agree : (w v : List ℕ → Plain → Option Place) → Agree w v → (fs : Fields) (a b : List ℕ → Plain → Option Place) → Agree a b → Agree (wrong_fields form w fs a) (wrong_fields form v fs b)
    fields_agree w v e no_field a b g n t r = g n t r
    fields_agree w v e (field x p V fs) a b g n t r = if_agree (same_name n x) (wrong_agree w v e V t (near R down V t r)) (fields_agree w v e fs a b g n t r)

    choice_agree : (w v : List ℕ → Plain → Option Place) → Agree w v → (c : Choice) (k l : (List ℕ → Plain → Option Place) → List ℕ → Plain → Option Place)
        → ((a b : List ℕ → Plain → Option Place) → Agree a b → Agree (k a) (l b)) → (o : Rest) (es : Entries) → Agree (wrong_choice form w c k o es) (wrong_choice form v c l o es)
    choice_agree w v e no_choice k l g o es n t r = g _ _ (λ m u _. refl) n t r
    choice_agree w v e (choice tag cs kept) k l g o es n t r = if_agree (same_name n tag) refl (g _ _ (cases_agree w v e tag cs o es) n t r)

    cases_agree : (w v : List ℕ → Plain → Option Place) → Agree w v → (tag : List ℕ) (cs : Cases) (o : Rest) (es : Entries) → Agree (wrong_cases form w tag cs o es) (wrong_cases form v tag cs o es)
    cases_agree w v e tag no_case o es n t r = refl
    cases_agree w v e tag (case l fs cs) o es n t r = if_agree (has_tag tag l es) (fields_agree w v e fs _ _ (λ m u _. refl) n t r) (cases_agree w v e tag cs o es n t r)

module _ (form : Form) (body : List ℕ → Template) (guarded : (n : List ℕ) → is_guarded (body n) ≡ true) where
  -- more points than levels change nothing
  place_enough : (j k : ℕ) (n : List ℕ) (t : Plain) → depth t < j → depth t < k → place_within form body j n t ≡ place_within form body k n t
  place_enough zero k n t lj lk = absurd (omega arith)
  place_enough (suc j) zero n t lj lk = absurd (omega arith)
  place_enough (suc j) (suc k) n t lj lk =
      wrong_agree form (λ u. depth u < depth t) (depth_down (depth t)) (place_within form body j) (place_within form body k)
      (λ m u lt. place_enough j k m u (omega arith) (omega arith)) (body n) t (near_below (body n) t (guarded n))

  pub place_unfold : (n : List ℕ) (t : Plain) → place_within form body (suc (depth t)) n t ≡ wrong form (λ m u. place_within form body (suc (depth u)) m u) (body n) t
  place_unfold n t =
      wrong_agree form (λ u. depth u < depth t) (depth_down (depth t)) (place_within form body (depth t)) (λ m u. place_within form body (suc (depth u)) m u)
      (λ m u lt. place_enough (depth t) (suc (depth u)) m u lt (omega arith)) (body n) t (near_below (body n) t (guarded n))
