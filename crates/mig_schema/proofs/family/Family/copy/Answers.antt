use Rattle.std.proofs.Common.{sym, subst}
use Rattle.mig_model.specs.Family.{Family, IsFormed}
use Rattle.mig_schema.specs.Types.{AllKept}
use Rattle.mig_schema.proofs.family.Family.copy.Goals as goal

pub invariant_of-result : goal.invariant_of-result
invariant_of-result c = subst (λ (f : Family). IsFormed f × AllKept f.types) (sym c.in_ok-parts.ensures) c.self.invariant
