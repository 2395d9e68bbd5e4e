use Rattle.std.proofs.Common.{◌+◌, ◌*◌, map}
use Rattle.mig_model.specs.Template as model
use Rattle.mig_model.specs.Record.{record_of}
use Rattle.mig_template.specs.View.{template_of}
use Rattle.mig_tree.specs.View.{plain_of, entry_of}
use Rattle.mig_value.specs.View.{typed_of}
use Rattle.mig_codec.specs.Parted.{pieces_of}
use Rattle.mig_row.specs.RowView.{row_view}
use Rattle.mig_codec.proofs.Gathered.{GatheredItems, Gathered}
use Rattle.mig_codec.proofs.Measures.{work, tree_work, items_work, entries_work}
use Rattle.mig_codec.proofs.reading.+read.Given as goal

abbrev pub invariant-read_items-loop-item : goal.invariant-read_items-loop-item
invariant-read_items-loop-item l = GatheredItems l.family (template_of l.part) (map plain_of l.yielded) (map typed_of l.values.items)

abbrev pub invariant-read_row-loop-entry : goal.invariant-read_row-loop-entry
invariant-read_row-loop-entry l = Gathered l.family (row_view l.row) (map entry_of l.yielded) (pieces_of l.pieces)

abbrev pub decreases-read_part : goal.decreases-read_part
decreases-read_part l = 8 * work l.family.now (template_of l.template.now) (plain_of l.tree) + 7

abbrev pub decreases-read_list : goal.decreases-read_list
decreases-read_list l = 8 * work l.family.now (model.list (template_of l.part.now)) (plain_of l.tree) + 6

abbrev pub decreases-read_sum : goal.decreases-read_sum
decreases-read_sum l = 8 * work l.family.now (model.sum (template_of l.left.now) (template_of l.right.now)) (plain_of l.tree) + 6

abbrev pub decreases-read_node : goal.decreases-read_node
decreases-read_node l = 8 * work l.family.now (model.point l.name.now) (plain_of l.tree) + 6

abbrev pub decreases-read_map : goal.decreases-read_map
decreases-read_map l = 8 * work l.family.now (record_of l.schema.now) (plain_of l.tree) + 6

abbrev pub decreases-read_items : goal.decreases-read_items
decreases-read_items l = 8 * items_work l.family.now l.items + 5

abbrev pub decreases-read_row : goal.decreases-read_row
decreases-read_row l = 8 * entries_work l.family.now l.entries + 5

abbrev pub decreases-read_entry : goal.decreases-read_entry
decreases-read_entry l = 8 * tree_work l.family.now (plain_of l.entry.tree) + 2

abbrev pub decreases-read_under : goal.decreases-read_under
decreases-read_under l = 8 * work l.family.now (template_of l.template.now) (plain_of l.tree) + 8
