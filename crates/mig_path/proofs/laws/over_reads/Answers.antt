use Rattle.mig_path.proofs.Changes.{over_reads}
use Rattle.mig_path.proofs.laws.over_reads.Goals as goal

pub returns : goal.returns
returns c = over_reads
