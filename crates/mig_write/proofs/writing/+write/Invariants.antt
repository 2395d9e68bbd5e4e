use Rattle.std.proofs.Common.{◌≡◌, ◌+◌, ◌*◌, ◌++◌, map}
use Rattle.mig_model.specs.Plain.{trees_of}
use Rattle.mig_model.specs.Keeps.{ItemsKeep}
use Rattle.mig_tree.specs.View.{plain_of, entry_of}
use Rattle.mig_value.specs.Typed.{out_items, out_slots, items_of, slots_of, typed_size, item_list_size, slot_list_size}
use Rattle.mig_value.specs.Parts.{record_size}
use Rattle.mig_value.specs.View.{typed_of, slot_of}
use Rattle.mig_value.specs.Nodes.{every}
use Rattle.mig_write.specs.Lists.{item_nodes, slot_nodes}
use Rattle.mig_write.proofs.writing.+write.Given as goal

abbrev pub invariant-write_items-loop-value : goal.invariant-write_items-loop-value
invariant-write_items-loop-value g l =
    (trees_of (map plain_of l.list.items) ≡ out_items (items_of (map typed_of l.yielded))) × (l.steps ≡ l.fn.steps + item_nodes every (map typed_of l.yielded)) × ItemsKeep (map plain_of l.list.items)

abbrev pub invariant-write_slots-loop-slot : goal.invariant-write_slots-loop-slot
invariant-write_slots-loop-slot g l =
    (map entry_of l.list.items ≡ map entry_of l.fn.list.items ++ out_slots (slots_of (map slot_of l.yielded))) × (l.steps ≡ l.fn.steps + slot_nodes every (map slot_of l.yielded))

abbrev pub decreases-write : goal.decreases-write
decreases-write g l = 4 * typed_size (typed_of l.value)

abbrev pub decreases-write_items : goal.decreases-write_items
decreases-write_items g l = 4 * item_list_size (map typed_of l.values.items) + 1

abbrev pub decreases-write_slots : goal.decreases-write_slots
decreases-write_slots g l = 4 * slot_list_size (map slot_of l.slots.items) + 1

abbrev pub decreases-write_parts : goal.decreases-write_parts
decreases-write_parts g l = 4 * record_size l.parts + 2

abbrev pub decreases-write_record : goal.decreases-write_record
decreases-write_record g l = 4 * record_size l.parts + 3
