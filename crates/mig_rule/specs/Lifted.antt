-- What the fixes of a chain make of a tree.
use Rattle.std.specs.Prelude.{ℕ, List, [], ◌∷◌, Some, unwrap_or, nat_lt, nat_le, ◌&&◌, if◌then◌else◌}
use Rattle.mig_model.specs.Family.{Family}
use Rattle.mig_model.specs.Plain.{Plain}
use Rattle.mig_rule.specs.Rule.{Fix}
use Rattle.mig_rule.specs.Fix.{plain}
use Rattle.mig_rule.specs.Chain.{ChainStep, schema, fix, family_next}

-- a fix with its number, and the family before it
abbrev pub Numbered : Type 0
Numbered = ℕ × Fix × Family

-- the fixes in order
abbrev pub numbered_from : Family → List ChainStep → List Numbered
numbered_from now [] = []
numbered_from now (schema v f ∷ steps) = numbered_from (unwrap_or f now) steps
numbered_from now (fix n x ∷ steps) = (n, x, now) ∷ numbered_from (family_next x now) steps

abbrev pub numbered : List ChainStep → List Numbered
numbered (schema v (Some f) ∷ steps) = numbered_from f steps
numbered steps = []

-- what the fixes above v and not above the target make of a tree, in their order, each at the root of the family before it
abbrev pub fixed_by : ℕ → ℕ → List Numbered → Plain → Plain
fixed_by v target [] t = t
fixed_by v target (x ∷ xs) t = fixed_by v target xs (if nat_lt v x.0 && nat_le x.0 target then plain x.1 x.2 x.2.root t else t)
