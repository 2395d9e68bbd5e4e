use Rattle.mig_action.proofs.Laws as laws
use Rattle.mig_action.proofs.tree_acts.Goals as goal

pub returns : goal.returns
returns c = laws.tree_acts
