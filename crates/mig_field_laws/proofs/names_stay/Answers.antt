use Rattle.mig_field_laws.proofs.Laws as laws
use Rattle.mig_field_laws.proofs.names_stay.Goals as goal

pub returns : goal.returns
returns c = laws.names_stay
