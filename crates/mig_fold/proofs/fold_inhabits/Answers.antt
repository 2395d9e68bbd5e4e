use Rattle.mig_fold.proofs.Folds.{fold_inhabits as law}
use Rattle.mig_fold.proofs.fold_inhabits.Goals as goal

pub returns : goal.returns
returns c = law
