use Rattle.mig_field_laws.proofs.Laws as laws
use Rattle.mig_field_laws.proofs.tests_stay.Goals as goal

pub returns : goal.returns
returns c = laws.tests_stay
