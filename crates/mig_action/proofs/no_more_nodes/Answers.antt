use Rattle.mig_action.proofs.Laws as laws
use Rattle.mig_action.proofs.no_more_nodes.Goals as goal

pub returns : goal.returns
returns c = laws.no_more_nodes
