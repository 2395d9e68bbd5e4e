use Rattle.std.proofs.Common.{◌≡◌, ◌+◌, ◌*◌, ◌++◌, map, drop}
use Rattle.json.specs.Tree.{items_tokens, members_tokens}
use Rattle.serde_json.specs.Written.{items_outline, members_outline}
use Rattle.mig_model.specs.Plain.{size, items_size, entries_size, trees_of, pairs_of}
use Rattle.mig_tree.specs.View.{plain_of, entry_of}
use Rattle.mig_json.specs.Kinds.{AreJson, ArePairsJson}
use Rattle.mig_json.specs.Writing.{items_of, members_of}
use Rattle.mig_json.proofs.writing.+writing.Given as goal

abbrev pub decreases-write_tree : goal.decreases-write_tree
decreases-write_tree l = 2 * size (plain_of l.tree.now)

abbrev pub decreases-write_items : goal.decreases-write_items
decreases-write_items l = 2 * items_size (map plain_of l.trees.now) + 1

abbrev pub decreases-write_members : goal.decreases-write_members
decreases-write_members l = 2 * entries_size (map entry_of l.entries.now) + 1

abbrev pub invariant-write_items-loop-tree : goal.invariant-write_items-loop-tree
invariant-write_items-loop-tree l =
    (l.out.tokens ++ items_tokens (items_outline (items_of (trees_of (map plain_of (drop l.tree-index l.trees))))) ≡ l.fn.out.tokens ++ items_tokens (items_outline (items_of (trees_of (map plain_of l.trees)))))
    × AreJson (trees_of (map plain_of (drop l.tree-index l.trees)))
    × (l.out.before ≡ l.fn.out.before)

abbrev pub invariant-write_members-loop-entry : goal.invariant-write_members-loop-entry
invariant-write_members-loop-entry l =
    (l.out.tokens ++ members_tokens (members_outline (members_of (pairs_of (map entry_of (drop l.entry-index l.entries))))) ≡ l.fn.out.tokens ++ members_tokens (members_outline (members_of (pairs_of (map entry_of l.entries)))))
    × ArePairsJson (pairs_of (map entry_of (drop l.entry-index l.entries)))
    × (l.out.before ≡ l.fn.out.before)
