use Rattle.std.proofs.Common.{◌-◌, length}
use Rattle.mig_schema.specs.Reach.{Uses, places}
use Rattle.mig_schema.proofs.Searched.{Searched}
use Rattle.mig_schema.proofs.parts.Parts.reaching.Given as goal

abbrev pub invariant-loop-at : goal.invariant-loop-at
invariant-loop-at l = Searched (λ q p. Uses l.self.types p q) (places l.self.types l.names) l.found.keys l.at

abbrev pub decreases-loop-at : goal.decreases-loop-at
decreases-loop-at l = length l.self.types - l.at
