use Rattle.mig_rule_laws.proofs.Laws as laws
use Rattle.mig_rule_laws.proofs.kinds_stay.Goals as goal

pub returns : goal.returns
returns c = laws.kinds_stay
