use Rattle.std.proofs.Common.{◌≡◌, ◌++◌, drop}
use Rattle.mig_rule.specs.ChainView.{steps_of, schema_places}
use Rattle.mig_rule.proofs.chain.schemas_of.Given as goal

abbrev pub invariant-loop-place : goal.invariant-loop-place
invariant-loop-place l = l.list.items ++ schema_places l.place (steps_of (drop l.place l.steps)) ≡ schema_places 0 (steps_of l.steps)
