use Rattle.mig_field_laws.proofs.Laws as laws
use Rattle.mig_field_laws.proofs.order_stays.Goals as goal

pub returns : goal.returns
returns c = laws.order_stays
