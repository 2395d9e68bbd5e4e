use Rattle.mig_field_laws.proofs.Laws as laws
use Rattle.mig_field_laws.proofs.counts_stay.Goals as goal

pub returns : goal.returns
returns c = laws.counts_stay
