use Rattle.mig_field_laws.proofs.Laws as laws
use Rattle.mig_field_laws.proofs.treating_commutes.Goals as goal

pub returns : goal.returns
returns c = laws.treating_commutes
