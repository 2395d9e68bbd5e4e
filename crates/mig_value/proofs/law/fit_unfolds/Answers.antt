use Rattle.mig_value.specs.Fit.{IsOfForm}
use Rattle.mig_value.proofs.Fits.{fit_unfolds}
use Rattle.mig_value.proofs.law.fit_unfolds.Goals as goal

pub returns : goal.returns
returns c form body n v = fit_unfolds (IsOfForm form) body n v
