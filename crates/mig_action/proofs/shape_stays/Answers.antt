use Rattle.mig_action.proofs.Laws as laws
use Rattle.mig_action.proofs.shape_stays.Goals as goal

pub returns : goal.returns
returns c = laws.shape_stays
