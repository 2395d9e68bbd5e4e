-- Counted nodes of values and of their trees.
use Rattle.std.specs.Prelude.{◌≡◌, ℕ, List}
use Rattle.mig_model.specs.Family.{Family, body, IsFormed}
use Rattle.mig_model.specs.TemplateKept as template
use Rattle.mig_value.specs.Typed.{Typed, out}
use Rattle.mig_value.specs.Kept.{ValueKept}
use Rattle.mig_value.specs.Fit.{FitAsRead}
use Rattle.mig_value.specs.Nodes.{Test, nodes, tree_nodes}

-- each record in a body keeps what records keep
abbrev pub BodiesKept : Family → Type 0
BodiesKept f = (n : List ℕ) → template.TemplateKept (body f n)

-- a value that fits as reading gives it has as many counted nodes as its tree has by the family
abbrev pub NodesByTree : Type 0
NodesByTree = (f : Family) → IsFormed f → BodiesKept f → (p : Test) (n : List ℕ) (v : Typed) → ValueKept v → FitAsRead f.form (body f) n v → nodes p v ≡ tree_nodes f p n (out v)
