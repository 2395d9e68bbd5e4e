use Rattle.mig_resolve.proofs.Walks.{late_walk}
use Rattle.mig_resolve.proofs.laws.walks_are_late.Goals as goal

pub returns : goal.returns
returns c = late_walk
