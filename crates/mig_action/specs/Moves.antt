-- What a field function does to the parts of a record value.
use Rattle.std.specs.Prelude.{ℕ, List, [], Bool, false, Option, Some, None, option_and_then, unwrap_or, if◌then◌else◌}
use Rattle.std.specs.Option.{option_or}
use Rattle.std.specs.Map.{keys_of}
use Rattle.mig_model.specs.declared.kind.Kind.{Kind}
use Rattle.mig_model.specs.Plain.{Plain}
use Rattle.mig_model.specs.Kinds.{kind_of}
use Rattle.mig_model.specs.declared.rest.Rest.{Rest}
use Rattle.mig_model.specs.Template.{leaf, Field, same_kind, is_must, is_open}
use Rattle.mig_model.specs.Const.{const_tree}
use Rattle.mig_model.specs.Names.{same_name, under, has, without, put, bring, put_all, moved, those, others, changed}
use Rattle.mig_model.specs.Fields.{if_so}
use Rattle.mig_model.specs.Leaf.{leaf_value}
use Rattle.mig_model.specs.Record as template
use Rattle.mig_model.specs.Record.{found_case}
use Rattle.mig_value.specs.Typed.{Typed, atom, list, left, right, rec, Slot, Tag, no_item, item, no_slot, slots, slots_of}
use Rattle.mig_value.specs.Parts.{RecordParts}
use Rattle.mig_value.specs.Leaf.{leaf_of}
use Rattle.mig_field.specs.FieldFn.{Scope, common, in_case, Fill, constant, empty_list, fill_tree, zero, FieldOp, rename, drop, add, learn, forget, default, maybe, map_leaf, nest, unnest, wrap, unify, retag, add_case, FieldFn}
use Rattle.mig_field.specs.NewRecord.{FieldType, fields_of_case}
use Rattle.mig_field.specs.Act.{inner_names, left_kind, unified, by_field}

abbrev pub fill_value : Fill → Typed
fill_value (constant c) = atom (fill_tree (constant c))
fill_value (empty_list V) = list no_item

-- something done to the tree of an atom; any other value stays
abbrev pub at_leaf : (Plain → Plain) → Typed → Typed
at_leaf f (atom t) = atom (f t)
at_leaf f v = v

-- something done to the leaf in a side, which is then no side any more
abbrev pub at_side : (Plain → Plain) → Typed → Typed
at_side f (left v) = at_leaf f v
at_side f (right v) = at_leaf f v
at_side f v = v

-- a leaf of the kind
abbrev pub leaf_of_kind : Kind → Option Plain → Option Typed
leaf_of_kind k None = None
leaf_of_kind k (Some t) = if_so (same_kind (kind_of t) k) (atom t)

-- what is learned of an unknown field: a leaf of the kind, or the value as it is
abbrev pub learned_value : Option Kind → Typed → Option Typed
learned_value None v = Some v
learned_value (Some k) v = leaf_of_kind k (leaf_of v)

-- the value of a record that has these fields alone
abbrev pub open_record : List Slot → Typed
open_record ss = rec (slots_of ss) None no_slot no_slot

-- the fields that are there in a record value
abbrev pub inner_slots : Option Typed → List Slot
inner_slots (Some (rec fs tag cs rs)) = slots fs
inner_slots o = []

-- the slots of a scope, and the unknown ones
pub record Moving : Type 0 where
  pub slots : List Slot
  pub rest : List Slot

abbrev pub move : FieldOp → List Field → Moving → Moving
move (rename x y) fs m = record { slots = moved x y m.slots; rest = without y m.rest }
move (drop x) fs m = record { slots = without x m.slots; rest = m.rest }
move (add x c) fs m = record { slots = put x (fill_value c) m.slots; rest = without x m.rest }
move (learn x k) fs m = record { slots = bring x (option_and_then (learned_value k) (under x m.rest)) m.slots; rest = without x m.rest }
move (forget x) fs m = record { slots = without x m.slots; rest = bring x (under x m.slots) m.rest }
move (default x c) fs m = record { slots = (if has x m.slots then m.slots else put x (fill_value c) m.slots); rest = m.rest }
move (maybe x) fs m = m
move (map_leaf x f) fs m = record { slots = changed x (at_leaf (leaf_value f)) m.slots; rest = m.rest }
move (nest xs y) fs m = record { slots = put y (open_record (those xs m.slots)) (others xs m.slots); rest = without y m.rest }
move (unnest y) fs m = record { slots = put_all (inner_slots (under y m.slots)) (without y m.slots); rest = others (inner_names (under y fs)) m.rest }
move (wrap x) fs m = record { slots = changed x (λ v. list (item v no_item)) m.slots; rest = m.rest }
move (unify x f g) fs m = record { slots = changed x (at_side (unified f g (left_kind (under x fs)))) m.slots; rest = m.rest }
move (retag a b) fs m = m
move (add_case b gs) fs m = m

abbrev pub with_moving : RecordParts → Moving → RecordParts
with_moving v m = record v { fields = m.slots; rest = m.rest }

abbrev pub with_moving_case : RecordParts → Moving → RecordParts
with_moving_case v m = record v { cased = m.slots; rest = m.rest }

-- what a field has once it is settled
abbrev pub settled_value : FieldType → Option Typed → Option Typed
settled_value (p, leaf k) o = option_or (option_and_then (learned_value (Some k)) o) (if_so (is_must p) (atom (const_tree (zero k))))
settled_value s o = o

-- a record value that was kept is given these fields, which are taken from the unknown ones
abbrev pub settle_case : List Field → Rest → RecordParts → RecordParts
settle_case fs r v = record v { cased = by_field settled_value fs v.rest; rest = (if is_open r then others (keys_of fs) v.rest else []) }

-- the tag that is a becomes b, and a value that was kept with the tag b is settled
abbrev pub retag_value : List ℕ → List ℕ → template.RecordParts → Option template.Cases → Option Tag → RecordParts → RecordParts
retag_value a b p (Some c) (Some t) v = if same_name t.1 a then record v { tag = Some (t.0, b) } else (if same_name t.1 b then settle_case (fields_of_case a c) p.rest v else v)
retag_value a b p c t v = v

abbrev pub is_of_case : List ℕ → Option Tag → Bool
is_of_case l None = false
is_of_case l (Some t) = same_name t.1 l

-- in a case, a record of another case stays
abbrev pub apply_by : FieldOp → Scope → template.RecordParts → RecordParts → RecordParts
apply_by (retag a b) scope p v = retag_value a b p p.choice v.tag v
apply_by (add_case b fs) scope p v = if is_of_case b v.tag then settle_case fs p.rest v else v
apply_by op common p v = with_moving v (move op p.fields (record { slots = v.fields; rest = v.rest }))
apply_by op (in_case l) p v = if is_of_case l v.tag then with_moving_case v (move op (unwrap_or (found_case l p.choice) []) (record { slots = v.cased; rest = v.rest })) else v

-- what the function does to the parts of a record value of the record
abbrev pub apply : FieldFn → template.RecordParts → RecordParts → RecordParts
apply f p v = apply_by f.op f.scope p v
