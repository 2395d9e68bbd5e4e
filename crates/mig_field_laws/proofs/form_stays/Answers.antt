use Rattle.mig_field_laws.proofs.Laws as laws
use Rattle.mig_field_laws.proofs.form_stays.Goals as goal

pub returns : goal.returns
returns c = laws.form_stays
