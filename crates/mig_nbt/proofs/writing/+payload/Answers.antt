use Rattle.std.proofs.Common.{append_assoc, arith}
use Rattle.std.proofs.lemmas.Grind.{common_steps}
use Rattle.mig_tree.proofs.Places.{item_smaller, entry_smaller}
use Rattle.mig_nbt.proofs.Written.{list_fits, list_written, item_spelled, entry_spelled}
use Rattle.mig_nbt.proofs.writing.+payload.Goals as goal

pub write_payload-overflow_cast-trees : goal.write_payload-overflow_cast-trees
write_payload-overflow_cast-trees t c = omega (arith, list_fits c.args.tree.now c.in-List.items c.as_slice-trees.result.now c.in-List.is c.as_slice-trees.ensures.items c.requires)

pub write_payload-returns-in_ok-extend_from_slice-in-List : goal.write_payload-returns-in_ok-extend_from_slice-in-List
write_payload-returns-in_ok-extend_from_slice-in-List t c =
    let e = list_written c.args.tree.now c.in-List.items c.as_slice-trees.result.now c.in-List.is c.as_slice-trees.ensures.items in
    rw e (grind (arith, common_steps, append_assoc))

pub write_payloads-write_payload-requires : goal.write_payloads-write_payload-requires
write_payloads-write_payload-requires t c =
    let xs = c.args.trees.now in (
      omega (arith, item_smaller xs c.loop-tree.tree-index c.tree-item.result c.loop-tree-test.true c.tree-item.is),
      item_spelled xs c.loop-tree.tree-index c.tree-item.result c.loop-tree-test.true c.tree-item.is c.loop-tree.invariant.1,
    )

pub write_tags-write_payload-requires : goal.write_tags-write_payload-requires
write_tags-write_payload-requires t c =
    let xs = c.args.entries.now in (
      omega (arith, entry_smaller xs c.loop-entry.entry-index c.entry-item.result c.loop-entry-test.true c.entry-item.is),
      entry_spelled xs c.loop-entry.entry-index c.entry-item.result c.loop-entry-test.true c.entry-item.is c.loop-entry.invariant.1,
    )
