use Rattle.mig_action.proofs.Laws as laws
use Rattle.mig_action.proofs.nodes_stay.Goals as goal

pub returns : goal.returns
returns c = laws.nodes_stay
