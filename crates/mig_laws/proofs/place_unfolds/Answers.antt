use Rattle.mig_laws.proofs.Laws.{place_unfolds as law}
use Rattle.mig_laws.proofs.place_unfolds.Goals as goal

pub returns : goal.returns
returns c = law
