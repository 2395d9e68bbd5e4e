-- Which nodes of a value stand at points of a template.
use Rattle.std.specs.Prelude.{ℕ, List, [], ◌∷◌, ◌++◌, Option, Some, if◌then◌else◌}
use Rattle.mig_model.specs.Template as template
use Rattle.mig_model.specs.Template.{Template, Fields, no_field, field, Choice, no_choice, choice, Cases, no_case, case}
use Rattle.mig_model.specs.Names.{same_name}
use Rattle.mig_value.specs.Typed.{Typed, list, left, right, rec, point, Items, no_item, item, Slots, no_slot, slot, Tag}
use Rattle.mig_value.specs.Parts.{NodeParts}

-- the nodes in the items of a list, in the side of a sum, in the slots of a record
abbrev pub of_items : (Typed → List NodeParts) → Items → List NodeParts
of_items f no_item = []
of_items f (item v vs) = f v ++ of_items f vs

abbrev pub of_list : (Typed → List NodeParts) → Typed → List NodeParts
of_list f (list vs) = of_items f vs
of_list f v = []

abbrev pub of_side : (Typed → List NodeParts) → (Typed → List NodeParts) → Typed → List NodeParts
of_side f g (left v) = f v
of_side f g (right v) = g v
of_side f g v = []

abbrev pub of_slots : (List ℕ → Typed → List NodeParts) → Slots → List NodeParts
of_slots f no_slot = []
of_slots f (slot n v ss) = f n v ++ of_slots f ss

abbrev pub of_record : (List ℕ → Typed → List NodeParts) → (Option Tag → List ℕ → Typed → List NodeParts) → Typed → List NodeParts
of_record f g (rec fs tag cs rs) = of_slots f fs ++ of_slots (g tag) cs
of_record f g v = []

abbrev pub of_node : Typed → List NodeParts
of_node (point n v) = (n, v) ∷ []
of_node v = []

-- the nodes that stand at points of the template; those inside them, at `any` and at unknown names don't count
abbrev mutual
  pub nodes_at : Template → Typed → List NodeParts
  nodes_at (template.leaf k) v = []
  nodes_at template.any v = []
  nodes_at (template.list V) v = of_list (nodes_at V) v
  nodes_at (template.point n) v = of_node v
  nodes_at (template.rec fs c r) v = of_record (nodes_in_fields fs) (nodes_in_choice c) v
  nodes_at (template.sum V W) v = of_side (nodes_at V) (nodes_at W) v

  pub nodes_in_fields : Fields → List ℕ → Typed → List NodeParts
  nodes_in_fields no_field n v = []
  nodes_in_fields (field x p V fs) n v = if same_name n x then nodes_at V v else nodes_in_fields fs n v

  pub nodes_in_choice : Choice → Option Tag → List ℕ → Typed → List NodeParts
  nodes_in_choice (choice tag cs kept) (Some t) n v = nodes_in_cases t.1 cs n v
  nodes_in_choice c t n v = []

  pub nodes_in_cases : List ℕ → Cases → List ℕ → Typed → List NodeParts
  nodes_in_cases l no_case n v = []
  nodes_in_cases l (case m fs cs) n v = if same_name l m then nodes_in_fields fs n v else nodes_in_cases l cs n v
