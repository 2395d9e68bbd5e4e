use Rattle.std.proofs.Common.{arith}
use Rattle.mig_tree.proofs.Places.{item_smaller, entry_smaller}
use Rattle.mig_json.proofs.Parts.{item_json, entry_json}
use Rattle.mig_json.proofs.writing.+writing.Goals as goal

pub write_items-write_tree-requires : goal.write_items-write_tree-requires
write_items-write_tree-requires t c =
    let xs = c.args.trees.now in (
      omega (arith, item_smaller xs c.loop-tree.tree-index c.tree-item.result c.loop-tree-test.true c.tree-item.is),
      item_json xs c.loop-tree.tree-index c.tree-item.result c.loop-tree-test.true c.tree-item.is c.loop-tree.invariant.1,
    )

pub write_members-write_tree-requires : goal.write_members-write_tree-requires
write_members-write_tree-requires t c =
    let xs = c.args.entries.now in (
      omega (arith, entry_smaller xs c.loop-entry.entry-index c.entry-item.result c.loop-entry-test.true c.entry-item.is),
      entry_json xs c.loop-entry.entry-index c.entry-item.result c.loop-entry-test.true c.entry-item.is c.loop-entry.invariant.1,
    )
