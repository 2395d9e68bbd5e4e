use Rattle.mig_schema.specs.Reach.{lists_of, AreUsers}
use Rattle.mig_schema.proofs.named.NamedTypes.users.Given as goal

abbrev pub invariant-loop-place : goal.invariant-loop-place
invariant-loop-place l = AreUsers l.self l.place (lists_of l.users)
