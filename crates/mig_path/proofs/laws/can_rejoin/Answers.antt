use Rattle.mig_path.proofs.Again.{can_rejoin}
use Rattle.mig_path.proofs.laws.can_rejoin.Goals as goal

pub returns : goal.returns
returns c = can_rejoin
