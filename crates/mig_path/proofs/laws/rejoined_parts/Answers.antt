use Rattle.mig_path.proofs.Again.{again}
use Rattle.mig_path.proofs.laws.rejoined_parts.Goals as goal

pub returns : goal.returns
returns c = again
