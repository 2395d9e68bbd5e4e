use Rattle.mig_rule_laws.proofs.Laws as laws
use Rattle.mig_rule_laws.proofs.tidiness_stays.Goals as goal

pub returns : goal.returns
returns c = laws.tidiness_stays
