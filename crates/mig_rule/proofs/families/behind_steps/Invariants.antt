use Rattle.std.proofs.Common.{◌≡◌, drop}
use Rattle.mig_rule.specs.ChainView.{steps_of, family_behind}
use Rattle.mig_rule.proofs.families.behind_steps.Given as goal

abbrev pub invariant-loop-step : goal.invariant-loop-step
invariant-loop-step l = family_behind l.family (steps_of (drop l.step-index l.steps)) ≡ family_behind l.first (steps_of l.steps)
