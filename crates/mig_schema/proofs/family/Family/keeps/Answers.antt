use Rattle.std.proofs.Common.{subst}
use Rattle.mig_model.specs.Family.{IsFormed}
use Rattle.mig_schema.proofs.family.Family.keeps.Goals as goal

pub returns-clause-formed : goal.returns-clause-formed
returns-clause-formed c = subst IsFormed c.self.view_is c.self.invariant.0
