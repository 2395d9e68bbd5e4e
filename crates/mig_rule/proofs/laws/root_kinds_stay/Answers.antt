use Rattle.mig_rule.proofs.RootKinds as kinds
use Rattle.mig_rule.proofs.laws.root_kinds_stay.Goals as goal

pub returns : goal.returns
returns c = kinds.root_kinds_stay
