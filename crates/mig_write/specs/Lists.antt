-- Counted nodes of lists of values and of a record, and the pairs of a record's map.
use Rattle.std.specs.Prelude.{◌≡◌, ℕ, ◌+◌, List, ◌++◌, map}
use Rattle.mig_model.specs.Plain.{Plain}
use Rattle.mig_value.specs.Typed.{Typed, Slot, items_of, slots_of, out_slots, tag_pair}
use Rattle.mig_value.specs.Nodes.{Test, nodes_in_items, nodes_in_slots}
use Rattle.mig_value.specs.Parts.{RecordParts}
use Rattle.mig_value.specs.View.{slot_of}
use Rattle.mig_value.specs.declared.slots.Slot as code
use Rattle.mig_tree.specs.View.{entry_of}
use Rattle.mig_tree.specs.declared.entries.Entry.{Entry}

abbrev pub item_nodes : Test → List Typed → ℕ
item_nodes p vs = nodes_in_items p (items_of vs)

abbrev pub slot_nodes : Test → List Slot → ℕ
slot_nodes p ss = nodes_in_slots p (slots_of ss)

abbrev pub record_nodes : Test → RecordParts → ℕ
record_nodes p r = slot_nodes p r.fields + (slot_nodes p r.cased + slot_nodes p r.rest)

-- the pairs of a record's map, list by list
abbrev pub pairs_in : RecordParts → List (List ℕ × Plain)
pairs_in r = out_slots (slots_of r.fields) ++ (tag_pair r.tag ++ (out_slots (slots_of r.cased) ++ out_slots (slots_of r.rest)))

-- the pairs of the slots stand behind those that were there
abbrev pub AddsSlots : List Entry → List code.Slot → List Entry → Type 0
AddsSlots before ss after = map entry_of after ≡ map entry_of before ++ out_slots (slots_of (map slot_of ss))
