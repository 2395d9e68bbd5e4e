use Rattle.std.proofs.Common.{◌≡◌, map, drop}
use Rattle.mig_rule.specs.Path.{end_kind}
use Rattle.mig_rule.specs.Fix.{root_spot}
use Rattle.mig_rule.specs.Spot.{spot_of}
use Rattle.mig_rule.specs.View.{step_of}
use Rattle.mig_rule.proofs.path.end_kind.Given as goal

abbrev pub invariant-loop-step : goal.invariant-loop-step
invariant-loop-step l = end_kind l.family (map step_of (drop l.step-index l.steps)) (spot_of l.spot) ≡ end_kind l.family (map step_of l.steps) (root_spot l.family)
