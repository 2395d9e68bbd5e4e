use Rattle.mig_path.proofs.Frames.{determined}
use Rattle.mig_path.proofs.laws.frame_determines.Goals as goal

pub returns : goal.returns
returns c = determined
