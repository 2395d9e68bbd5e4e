-- What is met on the walk along the steps of a text.
use Rattle.std.specs.Prelude.{◌≡◌, ◌<◌, ℕ, List, None}
use Rattle.mig_rule.specs.Chain.{IsRefusedAt}
use Rattle.mig_rule.specs.declared.fault.Walk.{Walk}
use Rattle.mig_syntax.specs.DeclSyntax.{DeclSyntax}
use Rattle.mig_resolve.specs.Text.{chain_from}
use Rattle.mig_resolve.specs.Faults.{early_fault, walk_number}

-- where nothing from 1 to 9 holds, it has a number above 10
abbrev pub WalksAreLate : Type 0
WalksAreLate = (ds : List DeclSyntax) → early_fault ds ≡ None → (k : ℕ) (w : Walk) → IsRefusedAt (chain_from ds) k w → 10 < walk_number w
