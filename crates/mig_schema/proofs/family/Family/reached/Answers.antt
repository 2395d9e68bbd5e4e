use Rattle.std.proofs.Common.{subst}
use Rattle.std.specs.Prelude.{IfOk}
use Rattle.mig_model.specs.Family.{Family}
use Rattle.mig_schema.specs.Reach.{ArePlacesReached}
use Rattle.mig_schema.proofs.family.Family.reached.Goals as goal

pub returns : goal.returns
returns c = subst (λ (f : Family). IfOk c.reached.result (λ found. ArePlacesReached f c.args.from.now found.keys)) c.self.view_is c.reached.ensures
