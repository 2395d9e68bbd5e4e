use Rattle.mig_path.proofs.Over.{parted}
use Rattle.mig_path.proofs.laws.parted_rejoins.Goals as goal

pub returns : goal.returns
returns c = parted
