use Rattle.std.proofs.Common.{◌≡◌, map, take}
use Rattle.mig_rule.specs.View.{step_of}
use Rattle.mig_rule.proofs.fix.copy_steps.Given as goal

abbrev pub invariant-loop-step : goal.invariant-loop-step
invariant-loop-step l = map step_of l.list.items ≡ map step_of (take l.step-index l.steps)
