use Rattle.mig_rule_laws.proofs.Laws as laws
use Rattle.mig_rule_laws.proofs.rule_types_stay.Goals as goal

pub returns : goal.returns
returns c = laws.rule_types_stay
