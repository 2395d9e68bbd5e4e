use Rattle.mig_model.proofs.Rising.{Rises}
use Rattle.mig_model.proofs.keyed.ascends.Given as goal

abbrev pub invariant-loop-at : goal.invariant-loop-at
invariant-loop-at g l = Rises g.T.Keyed.key l.list l.at
