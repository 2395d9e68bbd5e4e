use Rattle.mig_rule_laws.proofs.Laws as laws
use Rattle.mig_rule_laws.proofs.soundness_stays.Goals as goal

pub returns : goal.returns
returns c = laws.soundness_stays
