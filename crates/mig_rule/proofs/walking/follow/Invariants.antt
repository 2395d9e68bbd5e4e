use Rattle.std.proofs.Common.{◌≡◌, drop}
use Rattle.mig_rule.specs.Chain.{next_schema}
use Rattle.mig_rule.specs.ChainView.{steps_of}
use Rattle.mig_rule.specs.Walking.{known_of, IsReached}
use Rattle.mig_rule.proofs.walking.follow.Given as goal

abbrev pub invariant-loop-place : goal.invariant-loop-place
invariant-loop-place l =
    IsReached l.form l.path (known_of l.fn.known) (steps_of l.steps) l.place (known_of l.known) (steps_of (drop l.place l.steps))
    × (l.known.ahead ≡ next_schema (steps_of (drop l.place l.steps)))
