-- What a typed reader answers.
use Rattle.std.specs.Prelude.{◌≡◌, ◌≤◌, ℕ, ◌+◌, List, [], ◌∷◌, reverse, false, Option, Some, None, option_map, Result, Ok, Err}
use Rattle.mig_model.specs.Plain.{Plain, trees_of}
use Rattle.mig_model.specs.Family.{Family, body, any_inside, has_point_side}
use Rattle.mig_model.specs.Inhabits.{Inhabits}
use Rattle.mig_model.specs.Place.{Place, named, wrong, wrong_item, place}
use Rattle.mig_model.specs.Template.{Template, point}
use Rattle.mig_template.specs.Size.{template_size}
use Rattle.mig_tree.specs.Place.{place_of}
use Rattle.mig_value.specs.Typed.{Typed, out, out_items, items_of}
use Rattle.mig_value.specs.Nodes.{Test, count, nodes, nodes_in_items, sum_items, tally, tree_nodes}
use Rattle.mig_value.specs.Parts.{NodeParts}
use Rattle.mig_value.specs.Fit.{EachItem, ValueFits, FitAsRead, IsAtomOf}
use Rattle.mig_value.specs.View.{typed_of}
use Rattle.mig_value.specs.declared.value.Value.{Value}
use Rattle.mig_value.specs.declared.values.Values.{Values}
use Rattle.mig_value.specs.declared.node.Node.{Node}
use Rattle.mig_codec.specs.declared.stop.Stop.{Stop}
use Rattle.mig_codec.specs.declared.stop.Stop.TheVariants as T
use Rattle.mig_codec.specs.declared.fault.ReadFault.{ReadFault}
use Rattle.mig_codec.specs.declared.fault.ReadFault.TheVariants as fault

-- the first wrong place of a tree at a part of a body
abbrev pub wrong_part : Family → Template → Plain → Option Place
wrong_part f V t = wrong f.form (place f) V t

-- how many trees stand at points whose name passes, in a tree at a part of a body
abbrev pub part_nodes : Family → Test → Template → Plain → ℕ
part_nodes f p V t = tally f.form (λ m u. count (p m) + tree_nodes f p m u) V t

-- for each test of names the value has as many nodes whose name passes as the tree has by the family
abbrev pub HasNodesOf : Family → List ℕ → Plain → Typed → Type 0
HasNodesOf f n t v = (p : Test) → nodes p v ≡ tree_nodes f p n t

-- the value is one of the template, and its nodes are ones of their types
abbrev pub IsTyped : Family → Template → Typed → Type 0
IsTyped f V v = ValueFits (IsAtomOf f.form) (FitAsRead f.form (body f)) V v

-- the steps that were met, innermost first, lead to the place; want of memory says nothing
abbrev pub StopsAt : Stop → Option Place → Type 0
StopsAt (T.Wrong steps) o = o ≡ Some (place_of (reverse steps.items))
StopsAt T.Memory o = Unit {0}

-- the tree was read as the value
pub record IsRead (f : Family) (V : Template) (t : Plain) (v : Typed) : Type 0 where
  pub right : wrong_part f V t ≡ None
  pub typed : IsTyped f V v
  pub tree : out v ≡ t
  pub counted : (p : Test) → nodes p v ≡ part_nodes f p V t

abbrev pub Reads : Family → Template → Plain → Result Value Stop → Type 0
Reads f V t (Ok v) = IsRead f V t (typed_of v)
Reads f V t (Err stop) = StopsAt stop (wrong_part f V t)

-- the same under a name of a map
abbrev pub ReadsUnder : Family → Template → List ℕ → Plain → Result Value Stop → Type 0
ReadsUnder f V n t (Ok v) = IsRead f V t (typed_of v)
ReadsUnder f V n t (Err stop) = StopsAt stop (option_map (λ p. named n ∷ p) (wrong_part f V t))

-- the items were read as the values
pub record AreRead (f : Family) (V : Template) (ts : List Plain) (vs : List Typed) : Type 0 where
  pub right : wrong_item (wrong_part f V) 0 ts ≡ None
  pub typed : EachItem (IsTyped f V) (items_of vs)
  pub trees : out_items (items_of vs) ≡ trees_of ts
  pub counted : (p : Test) → nodes_in_items p (items_of vs) ≡ sum_items (part_nodes f p V) ts

abbrev pub ReadsItems : Family → Template → List Plain → Result Values Stop → Type 0
ReadsItems f V ts (Ok vs) = AreRead f V ts vs
ReadsItems f V ts (Err stop) = StopsAt stop (wrong_item (wrong_part f V) 0 ts)

-- the tree was read as the node
pub record IsNodeRead (f : Family) (n : List ℕ) (t : Plain) (v : NodeParts) : Type 0 where
  pub right : wrong_part f (point n) t ≡ None
  pub name : v.0 ≡ n
  pub typed : FitAsRead f.form (body f) n v.1
  pub tree : out v.1 ≡ t
  pub counted : (p : Test) → nodes p v.1 ≡ tree_nodes f p n t

abbrev pub ReadsNode : Family → List ℕ → Plain → Result Node Stop → Type 0
ReadsNode f n t (Ok v) = IsNodeRead f n t v
ReadsNode f n t (Err stop) = StopsAt stop (wrong_part f (point n) t)

-- the fault's place; want of memory says nothing
abbrev pub FaultAt : ReadFault → Option Place → Type 0
FaultAt (fault.Unfit p) o = o ≡ Some p
FaultAt fault.Memory o = Unit {0}

-- the place is the first wrong one, and the tree is none of the named type; want of memory says nothing
abbrev pub IsUnfit : ReadFault → Family → List ℕ → Plain → Type 0
IsUnfit (fault.Unfit p) f n t = (place f n t ≡ Some p) × (Inhabits f.form (body f) n t → ⊥)
IsUnfit fault.Memory f n t = Unit {0}

-- the size of all bodies together
abbrev pub types_size : List (List ℕ × Template) → ℕ
types_size [] = 1
types_size (t ∷ ts) = template_size t.1 + types_size ts

abbrev pub family_size : Family → ℕ
family_size f = types_size f.types

-- a part of a body: no larger than all bodies together, and without a point as a side of a sum
pub record IsPart (f : Family) (V : Template) : Type 0 where
  pub size : template_size V ≤ family_size f
  pub guarded : any_inside has_point_side V ≡ false
