use Rattle.mig_fold.proofs.Folds.{skipping_is_idle as law}
use Rattle.mig_fold.proofs.skipping_is_idle.Goals as goal

pub returns : goal.returns
returns c = law
