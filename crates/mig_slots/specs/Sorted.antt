-- Names in order.
use Rattle.std.specs.Prelude.{ℕ, List, IsPermutation}
use Rattle.std.specs.List.Sorted.{IsSortedByKey}
use Rattle.mig_model.specs.Names.{by_bytes}

-- no name stands behind a greater one
abbrev pub AreSorted : List (List ℕ) → Type 0
AreSorted ns = IsSortedByKey (λ n. n) by_bytes ns

-- a name with nothing under it
abbrev pub alone : List ℕ → List ℕ × Unit {0}
alone n = (n, tt)

-- the names given, in order
pub record AreInOrder (given ns : List (List ℕ)) : Type 0 where
  pub same : IsPermutation given ns
  pub sorted : AreSorted ns
