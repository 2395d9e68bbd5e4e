use Rattle.std.proofs.Common.{◌≡◌, ◌++◌, drop}
use Rattle.mig_rule.specs.Chain.{versions}
use Rattle.mig_rule.specs.ChainView.{steps_of}
use Rattle.mig_rule.proofs.chain.versions_of.Given as goal

abbrev pub invariant-loop-step : goal.invariant-loop-step
invariant-loop-step l = l.list.items ++ versions (steps_of (drop l.step-index l.steps)) ≡ versions (steps_of l.steps)
