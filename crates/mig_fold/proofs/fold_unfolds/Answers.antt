use Rattle.mig_fold.proofs.Folds.{fold_unfolds as law}
use Rattle.mig_fold.proofs.fold_unfolds.Goals as goal

pub returns : goal.returns
returns c = law
