use Rattle.mig_rule_laws.proofs.Fixes as fixes
use Rattle.mig_rule_laws.proofs.fix_tidiness_stays.Goals as goal

pub returns : goal.returns
returns c = fixes.fix_tidiness_stays
