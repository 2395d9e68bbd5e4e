use Rattle.std.proofs.Common.{◌≡◌, ◌≤◌, length}
use Rattle.mig_model.specs.Version.{last_version}
use Rattle.mig_run.specs.Command.{number_from}
use Rattle.mig_run.proofs.words.number.Given as goal

abbrev pub invariant-loop-rest : goal.invariant-loop-rest
invariant-loop-rest l = (number_from l.n l.rest ≡ number_from 0 l.word) × (l.n ≤ last_version)

abbrev pub decreases-loop-rest : goal.decreases-loop-rest
decreases-loop-rest l = length l.rest
