use Rattle.mig_laws.proofs.Laws.{inhabits_unfolds as law}
use Rattle.mig_laws.proofs.inhabits_unfolds.Goals as goal

pub returns : goal.returns
returns c = law
