use Rattle.std.proofs.Common.{length}
use Rattle.mig_schema.proofs.parts.Parts.+way_end.Given as goal

abbrev pub decreases-way_end : goal.decreases-way_end
decreases-way_end l = length l.names.now
