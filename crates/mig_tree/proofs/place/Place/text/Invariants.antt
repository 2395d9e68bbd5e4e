use Rattle.std.proofs.Common.{◌≡◌, ◌++◌, drop}
use Rattle.std.specs.Prelude.{flat_map}
use Rattle.mig_tree.specs.Place.{step_of, step_text}
use Rattle.mig_tree.proofs.place.Place.text.Given as goal

abbrev pub invariant-loop-step : goal.invariant-loop-step
invariant-loop-step l = l.out.items ++ flat_map (λ s. step_text (step_of s)) (drop l.step-index l.steps) ≡ flat_map (λ s. step_text (step_of s)) l.steps
