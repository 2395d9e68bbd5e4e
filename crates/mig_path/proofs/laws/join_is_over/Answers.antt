use Rattle.mig_path.proofs.Over.{join_over}
use Rattle.mig_path.proofs.laws.join_is_over.Goals as goal

pub returns : goal.returns
returns c = join_over
