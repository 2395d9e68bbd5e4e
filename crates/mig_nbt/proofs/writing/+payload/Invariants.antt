use Rattle.std.proofs.Common.{◌≡◌, ◌+◌, ◌*◌, ◌++◌, map, drop}
use Rattle.mig_model.specs.Plain.{size, items_size, entries_size, trees_of, pairs_of}
use Rattle.mig_tree.specs.View.{plain_of, entry_of}
use Rattle.mig_nbt.specs.Writing.{payloads, tags, AreSpelled, ArePairsSpelled}
use Rattle.mig_nbt.proofs.writing.+payload.Given as goal

abbrev pub decreases-write_payload : goal.decreases-write_payload
decreases-write_payload l = 2 * size (plain_of l.tree.now)

abbrev pub decreases-write_payloads : goal.decreases-write_payloads
decreases-write_payloads l = 2 * items_size (map plain_of l.trees.now) + 1

abbrev pub decreases-write_tags : goal.decreases-write_tags
decreases-write_tags l = 2 * entries_size (map entry_of l.entries.now) + 1

abbrev pub invariant-write_payloads-loop-tree : goal.invariant-write_payloads-loop-tree
invariant-write_payloads-loop-tree l =
    (l.out.items ++ payloads (trees_of (map plain_of (drop l.tree-index l.trees))) ≡ l.fn.out.items ++ payloads (trees_of (map plain_of l.trees)))
    × AreSpelled (trees_of (map plain_of (drop l.tree-index l.trees)))

abbrev pub invariant-write_tags-loop-entry : goal.invariant-write_tags-loop-entry
invariant-write_tags-loop-entry l =
    (l.out.items ++ tags (pairs_of (map entry_of (drop l.entry-index l.entries))) ≡ l.fn.out.items ++ tags (pairs_of (map entry_of l.entries)))
    × ArePairsSpelled (pairs_of (map entry_of (drop l.entry-index l.entries)))
