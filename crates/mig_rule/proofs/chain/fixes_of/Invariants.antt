use Rattle.std.proofs.Common.{◌≡◌, ◌++◌, drop}
use Rattle.mig_rule.specs.ChainView.{steps_of, fix_places}
use Rattle.mig_rule.proofs.chain.fixes_of.Given as goal

abbrev pub invariant-loop-place : goal.invariant-loop-place
invariant-loop-place l = l.list.items ++ fix_places l.place (steps_of (drop l.place l.steps)) ≡ fix_places 0 (steps_of l.steps)
