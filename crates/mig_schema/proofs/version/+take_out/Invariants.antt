use Rattle.std.proofs.Common.{length}
use Rattle.mig_schema.proofs.version.+take_out.Given as goal

abbrev pub decreases-take_out : goal.decreases-take_out
decreases-take_out l = length l.names.now
