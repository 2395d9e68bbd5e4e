use Rattle.std.proofs.Common.{map, take}
use Rattle.mig_model.specs.Plain.{pairs_of}
use Rattle.mig_model.specs.Keeps.{AllPairsKeep}
use Rattle.mig_tree.specs.View.{entry_of}
use Rattle.mig_tree.proofs.gathering.entries_are_kept.Given as goal

abbrev pub invariant-loop-entry : goal.invariant-loop-entry
invariant-loop-entry l = AllPairsKeep (pairs_of (map entry_of (take l.entry-index l.list)))
