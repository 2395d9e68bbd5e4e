use Rattle.mig_field_laws.proofs.Laws as laws
use Rattle.mig_field_laws.proofs.types_stay.Goals as goal

pub returns : goal.returns
returns c = laws.types_stay
