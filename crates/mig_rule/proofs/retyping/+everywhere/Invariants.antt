use Rattle.std.proofs.Common.{◌+◌, ◌*◌}
use Rattle.mig_rule.proofs.retyping.+everywhere.Given as goal

abbrev pub decreases-everywhere : goal.decreases-everywhere
decreases-everywhere g l = 2 * l.levels

abbrev pub decreases-parts : goal.decreases-parts
decreases-parts g l = 2 * l.below + 1
