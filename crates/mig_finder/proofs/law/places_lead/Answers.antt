use Rattle.mig_value.specs.Fit.{Fit, FitAsRead, IsOfForm, IsAtomOf}
use Rattle.mig_finder.proofs.Leads as leads
use Rattle.mig_finder.proofs.law.places_lead.Goals as goal

pub returns : goal.returns
returns c = record {
  fit = λ form body. leads.places_lead form (IsOfForm form) (Fit form body);
  read = λ form body. leads.places_lead form (IsAtomOf form) (FitAsRead form body);
  shape = λ form. leads.places_lead form (λ v. Unit {0}) (λ n v. Unit {0});
}
