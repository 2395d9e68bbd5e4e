-- Counted nodes of trees: they depend on the trees at points alone, and how many points are allowed plays no part.
use Rattle.std.proofs.Common.{◌≡◌, refl, ap, ap₂, ℕ, zero, suc, ◌+◌, ◌<◌, arith, List, [], ◌∷◌, true}
use Rattle.mig_model.specs.declared.form.Form.{Form}
use Rattle.mig_model.specs.Plain as plain
use Rattle.mig_model.specs.Plain.{Plain, items, entries}
use Rattle.mig_model.specs.Kinds.{kind_of}
use Rattle.mig_model.specs.Template.{Template, leaf, any, list, point, rec, sum, Fields, no_field, field, Choice, no_choice, choice, Cases, no_case, case, has_kind}
use Rattle.mig_model.specs.Names.{same_name}
use Rattle.mig_model.specs.Inhabits.{Entries, EachItem, EachEntry, has_tag, depth}
use Rattle.mig_model.specs.Family.{Family, body, IsFormed}
use Rattle.mig_laws.specs.Sides.{is_guarded}
use Rattle.mig_laws.proofs.Tests.{if_agree}
use Rattle.mig_laws.proofs.Parts.{PartsHave, PassesDown, Near, near, at_point, at_sides, depth_down, near_below}
use Rattle.mig_laws.proofs.Formed.{body_guarded}
use Rattle.mig_value.specs.Nodes.{Test, count, sum_items, sum_list, sum_entries, sum_map, tally, tally_fields, tally_choice, tally_cases, tree_nodes_within, tree_nodes}
use Rattle.mig_codec.specs.Reading.{part_nodes}

-- what is counted at the trees at points
abbrev pub Count : Type 0
Count = List ℕ → Plain → ℕ

module _ (R : Plain → Type 0) where
  items_agree : (h g : Plain → ℕ) → ((t : Plain) → R t → h t ≡ g t) → (ts : List Plain) → EachItem R ts → sum_items h ts ≡ sum_items g ts
  items_agree h g e [] r = refl
  items_agree h g e (t ∷ ts) r = ap₂ ◌+◌ (e t r.0) (items_agree h g e ts r.1)

  entries_agree : (h g : Count) → ((n : List ℕ) (t : Plain) → R t → h n t ≡ g n t) → (es : Entries) → EachEntry (λ n. R) es → sum_entries h es ≡ sum_entries g es
  entries_agree h g f [] r = refl
  entries_agree h g f (e ∷ es) r = ap₂ ◌+◌ (f e.0 e.1 r.0) (entries_agree h g f es r.1)

  list_agree : (h g : Plain → ℕ) → ((t : Plain) → R t → h t ≡ g t) → (t : Plain) → PartsHave R t → sum_list h t ≡ sum_list g t
  list_agree h g e (plain.list ts) r = items_agree h g e (items ts) r
  list_agree h g e t r = refl

  map_agree : (h g : Entries → ℕ) → ((es : Entries) → EachEntry (λ n. R) es → h es ≡ g es) → (t : Plain) → PartsHave R t → sum_map h t ≡ sum_map g t
  map_agree h g e (plain.map ps) r = e (entries ps) r
  map_agree h g e t r = refl

-- the counted nodes of a map's pairs in a record
abbrev pub record_tally : Form → Count → Fields → Choice → Entries → ℕ
record_tally form h fs c es = sum_entries (tally_choice form h c (tally_fields form h fs) es) es

-- counts that agree at trees with a property that passes down
module _ (form : Form) (R : Plain → Type 0) (down : PassesDown R) where
  abbrev Agree : Count → Count → Type 0
  Agree h g = (n : List ℕ) (t : Plain) → R t → h n t ≡ g n t

  mutual
    tally_agree : (h g : Count) → Agree h g → (V : Template) (t : Plain) → Near R V t → tally form h V t ≡ tally form g V t
    tally_agree h g e (leaf k) t r = refl
    tally_agree h g e any t r = refl
    tally_agree h g e (list V) t r = list_agree R _ _ (λ u q. tally_agree h g e V u (near R down V u q)) t r.parts
    tally_agree h g e (point n) t r = e n t (at_point R n t r)
    tally_agree h g e (rec fs c o) t r =
        map_agree R (record_tally form h fs c) (record_tally form g fs c)
        (λ es q. entries_agree R _ _ (choice_agree h g e c (tally_fields form h fs) (tally_fields form g fs) (fields_agree h g e fs) es) es q) t r.parts
    tally_agree h g e (sum V W) t r =
        let both = at_sides R V W t r in
        if_agree (has_kind form V (kind_of t)) (tally_agree h g e V t both.0) (if_agree (has_kind form W (kind_of t)) (tally_agree h g e W t both.1) refl)

    fields_agree : (h g : Count) → Agree h g → (fs : Fields) (a b : Count) → Agree a b → Agree (tally_fields form h fs a) (tally_fields form g fs b)
    fields_agree h g e no_field a b f n t r = f n t r
    fields_agree h g e (field x p V fs) a b f n t r = if_agree (same_name n x) (tally_agree h g e V t (near R down V t r)) (fields_agree h g e fs a b f n t r)

    choice_agree : (h g : Count) → Agree h g → (c : Choice) (k l : Count → Count) → ((a b : Count) → Agree a b → Agree (k a) (l b)) → (es : Entries)
        → Agree (tally_choice form h c k es) (tally_choice form g c l es)
    choice_agree h g e no_choice k l f es n t r = f _ _ (λ m u _. refl) n t r
    choice_agree h g e (choice tag cs kept) k l f es n t r = if_agree (same_name n tag) refl (f _ _ (cases_agree h g e tag cs es) n t r)

    cases_agree : (h g : Count) → Agree h g → (tag : List ℕ) (cs : Cases) (es : Entries) → Agree (tally_cases form h tag cs es) (tally_cases form g tag cs es)
    cases_agree h g e tag no_case es n t r = refl
    cases_agree h g e tag (case l fs cs) es n t r = if_agree (has_tag tag l es) (fields_agree h g e fs _ _ (λ m u _. refl) n t r) (cases_agree h g e tag cs es n t r)

module _ (form : Form) (bodies : List ℕ → Template) (p : Test) (guarded : (n : List ℕ) → is_guarded (bodies n) ≡ true) where
  -- a point counts by its name, and what is below it
  abbrev within : ℕ → Count
  within k m u = count (p m) + tree_nodes_within form bodies p k m u

  abbrev whole : Count
  whole m u = count (p m) + tree_nodes_within form bodies p (suc (depth u)) m u

  -- more points than levels change nothing
  nodes_enough : (j k : ℕ) (n : List ℕ) (t : Plain) → depth t < j → depth t < k → tree_nodes_within form bodies p j n t ≡ tree_nodes_within form bodies p k n t
  nodes_enough zero k n t lj lk = absurd (omega arith)
  nodes_enough (suc j) zero n t lj lk = absurd (omega arith)
  nodes_enough (suc j) (suc k) n t lj lk =
      tally_agree form (λ u. depth u < depth t) (depth_down (depth t)) (within j) (within k)
      (λ m u lt. ap (λ i. count (p m) + i) (nodes_enough j k m u (omega arith) (omega arith))) (bodies n) t (near_below (bodies n) t (guarded n))

  nodes_unfold : (n : List ℕ) (t : Plain) → tree_nodes_within form bodies p (suc (depth t)) n t ≡ tally form whole (bodies n) t
  nodes_unfold n t =
      tally_agree form (λ u. depth u < depth t) (depth_down (depth t)) (within (depth t)) whole
      (λ m u lt. ap (λ i. count (p m) + i) (nodes_enough (depth t) (suc (depth u)) m u lt (omega arith))) (bodies n) t (near_below (bodies n) t (guarded n))

-- the counted nodes of a tree of a named type are those at its body
pub body_nodes : (f : Family) → IsFormed f → (p : Test) (n : List ℕ) (t : Plain) → tree_nodes f p n t ≡ part_nodes f p (body f n) t
body_nodes f formed p n t = nodes_unfold f.form (body f) p (body_guarded f formed) n t
