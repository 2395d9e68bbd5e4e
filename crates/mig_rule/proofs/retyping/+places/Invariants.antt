use Rattle.std.proofs.Common.{◌+◌, ◌*◌}
use Rattle.mig_rule.proofs.retyping.+places.Given as goal

abbrev pub decreases-places : goal.decreases-places
decreases-places g l = 2 * l.levels

abbrev pub decreases-step : goal.decreases-step
decreases-step g l = 2 * l.below + 1
