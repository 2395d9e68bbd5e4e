use Rattle.std.proofs.Common.{length}
use Rattle.mig_schema.proofs.version.+leads_to_map.Given as goal

abbrev pub decreases-leads_to_map : goal.decreases-leads_to_map
decreases-leads_to_map l = length l.names.now
