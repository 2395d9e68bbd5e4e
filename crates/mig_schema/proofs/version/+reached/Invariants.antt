use Rattle.std.proofs.Common.{length}
use Rattle.mig_schema.proofs.version.+reached.Given as goal

abbrev pub decreases-reached : goal.decreases-reached
decreases-reached l = length l.names.now
