use Rattle.std.proofs.Common.{subst}
use Rattle.std.specs.Prelude.{IfOk}
use Rattle.mig_model.specs.Family.{Family}
use Rattle.mig_schema.specs.Reach.{ArePlacesReaching}
use Rattle.mig_schema.proofs.family.Family.reaching.Goals as goal

pub returns : goal.returns
returns c = subst (λ (f : Family). IfOk c.reaching.result (λ found. ArePlacesReaching f c.args.names.now found.keys)) c.self.view_is c.reaching.ensures
