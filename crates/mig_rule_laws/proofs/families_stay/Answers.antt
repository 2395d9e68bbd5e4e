use Rattle.mig_rule_laws.proofs.Fixes as fixes
use Rattle.mig_rule_laws.proofs.families_stay.Goals as goal

pub returns : goal.returns
returns c = fixes.families_stay
