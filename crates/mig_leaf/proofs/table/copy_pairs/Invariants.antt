use Rattle.std.proofs.Common.{◌≡◌, take}
use Rattle.mig_leaf.proofs.table.copy_pairs.Given as goal

abbrev pub invariant-loop-pair : goal.invariant-loop-pair
invariant-loop-pair l = l.list.items ≡ take l.pair-index l.pairs
