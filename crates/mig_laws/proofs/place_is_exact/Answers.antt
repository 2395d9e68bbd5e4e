use Rattle.mig_laws.proofs.Laws.{place_is_exact as law}
use Rattle.mig_laws.proofs.place_is_exact.Goals as goal

pub returns : goal.returns
returns c = law
