use Rattle.mig_action.proofs.Laws as laws
use Rattle.mig_action.proofs.parts_stay.Goals as goal

pub returns : goal.returns
returns c = laws.parts_stay
