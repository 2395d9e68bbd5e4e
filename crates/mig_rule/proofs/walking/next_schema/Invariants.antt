use Rattle.std.proofs.Common.{◌≡◌, drop}
use Rattle.mig_rule.specs.Chain.{next_schema}
use Rattle.mig_rule.specs.ChainView.{steps_of}
use Rattle.mig_rule.proofs.walking.next_schema.Given as goal

abbrev pub invariant-loop-step : goal.invariant-loop-step
invariant-loop-step l = next_schema (steps_of (drop l.step-index l.steps)) ≡ next_schema (steps_of l.steps)
