use Rattle.mig_value.specs.Fit.{Fit, FitAsRead, IsOfForm, IsAtomOf}
use Rattle.mig_finder.proofs.Laws as laws
use Rattle.mig_finder.proofs.law.places_fit.Goals as goal

pub returns : goal.returns
returns c = record {
  fit = λ form body. laws.places_fit (IsOfForm form) (Fit form body);
  read = λ form body. laws.places_fit (IsAtomOf form) (FitAsRead form body);
  shape = laws.places_fit (λ v. Unit {0}) (λ n v. Unit {0});
}
