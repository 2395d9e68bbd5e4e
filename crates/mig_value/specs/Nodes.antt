-- Counted nodes: those whose name passes a test, in a value and in a plain tree of a named type.
use Rattle.std.specs.Prelude.{ℕ, zero, suc, ◌+◌, List, [], ◌∷◌, Bool, true, if◌then◌else◌}
use Rattle.mig_model.specs.declared.form.Form.{Form}
use Rattle.mig_model.specs.Plain as plain
use Rattle.mig_model.specs.Plain.{Plain, items, entries}
use Rattle.mig_model.specs.Kinds.{kind_of}
use Rattle.mig_model.specs.Inhabits.{Entries, has_tag, depth}
use Rattle.mig_model.specs.Template as template
use Rattle.mig_model.specs.Template.{Template, Fields, no_field, field, Choice, no_choice, choice, Cases, no_case, case, has_kind}
use Rattle.mig_model.specs.Names.{same_name}
use Rattle.mig_model.specs.Family.{Family, body}
use Rattle.mig_value.specs.Typed.{Typed, atom, list, left, right, rec, point, Items, no_item, item, Slots, no_slot, slot}

-- a test of names
abbrev pub Test : Type 0
Test = List ℕ → Bool

abbrev pub every : Test
every n = true

abbrev pub count : Bool → ℕ
count b = if b then 1 else 0

-- how many nodes of a value, at all depths, have a name that passes
abbrev mutual
  pub nodes : Test → Typed → ℕ
  nodes p (atom t) = 0
  nodes p (list vs) = nodes_in_items p vs
  nodes p (left v) = nodes p v
  nodes p (right v) = nodes p v
  nodes p (rec fs tag cs rs) = nodes_in_slots p fs + (nodes_in_slots p cs + nodes_in_slots p rs)
  nodes p (point n v) = count (p n) + nodes p v

  pub nodes_in_items : Test → Items → ℕ
  nodes_in_items p no_item = 0
  nodes_in_items p (item v vs) = nodes p v + nodes_in_items p vs

  pub nodes_in_slots : Test → Slots → ℕ
  nodes_in_slots p no_slot = 0
  nodes_in_slots p (slot n v ss) = nodes p v + nodes_in_slots p ss

abbrev pub sum_items : (Plain → ℕ) → List Plain → ℕ
sum_items h [] = 0
sum_items h (t ∷ ts) = h t + sum_items h ts

abbrev pub sum_list : (Plain → ℕ) → Plain → ℕ
sum_list h (plain.list ts) = sum_items h (items ts)
sum_list h t = 0

abbrev pub sum_entries : (List ℕ → Plain → ℕ) → Entries → ℕ
sum_entries h [] = 0
sum_entries h (e ∷ es) = h e.0 e.1 + sum_entries h es

abbrev pub sum_map : (Entries → ℕ) → Plain → ℕ
sum_map h (plain.map ps) = h (entries ps)
sum_map h t = 0

-- the sum of h over the trees that stand at points of the template
abbrev mutual
  pub tally : Form → (List ℕ → Plain → ℕ) → Template → Plain → ℕ
  tally form h (template.leaf k) t = 0
  tally form h template.any t = 0
  tally form h (template.list V) t = sum_list (tally form h V) t
  tally form h (template.point n) t = h n t
  tally form h (template.rec fs c r) t = sum_map (λ es. sum_entries (tally_choice form h c (tally_fields form h fs) es) es) t
  tally form h (template.sum V W) t = if has_kind form V (kind_of t) then tally form h V t else (if has_kind form W (kind_of t) then tally form h W t else 0)

  -- at the tree of the name n, which is a common field's or one of the others
  pub tally_fields : Form → (List ℕ → Plain → ℕ) → Fields → (List ℕ → Plain → ℕ) → List ℕ → Plain → ℕ
  tally_fields form h no_field others n t = others n t
  tally_fields form h (field x p V fs) others n t = if same_name n x then tally form h V t else tally_fields form h fs others n t

  pub tally_choice : Form → (List ℕ → Plain → ℕ) → Choice → ((List ℕ → Plain → ℕ) → List ℕ → Plain → ℕ) → Entries → List ℕ → Plain → ℕ
  tally_choice form h no_choice common es n t = common (λ m u. 0) n t
  tally_choice form h (choice tag cs kept) common es n t = if same_name n tag then 0 else common (tally_cases form h tag cs es) n t

  -- at the fields of the case that the map's tag names
  pub tally_cases : Form → (List ℕ → Plain → ℕ) → List ℕ → Cases → Entries → List ℕ → Plain → ℕ
  tally_cases form h tag no_case es n t = 0
  tally_cases form h tag (case l fs cs) es n t = if has_tag tag l es then tally_fields form h fs (λ m u. 0) n t else tally_cases form h tag cs es n t

abbrev pub tree_nodes_within : Form → (List ℕ → Template) → Test → ℕ → List ℕ → Plain → ℕ
tree_nodes_within form bodies p zero n t = 0
tree_nodes_within form bodies p (suc k) n t = tally form (λ m u. count (p m) + tree_nodes_within form bodies p k m u) (bodies n) t

-- how many trees stand at points whose name passes, from the tree at the body of the named type n down; the tree itself doesn't count
abbrev pub tree_nodes : Family → Test → List ℕ → Plain → ℕ
tree_nodes f p n t = tree_nodes_within f.form (body f) p (suc (depth t)) n t
