-- A chain text cut into its declarations.
use Rattle.std.specs.Prelude.{◌≡◌, ◌≢◌, ℕ, List, [], ◌∷◌, ◌++◌, flat_map}
use Rattle.std.specs.List.{AllByRecursion}

-- there is no `;`
abbrev pub IsUncut : List ℕ → Type 0
IsUncut b = AllByRecursion (λ c. c ≢ 59) b

-- the pieces stand before the `;` of the text, in order, and the rest follows the last
pub record Cuts (text : List ℕ) (pieces : List (List ℕ)) (rest : List ℕ) : Type 0 where
  pub whole : text ≡ flat_map (λ piece. piece ++ 59 ∷ []) pieces ++ rest
  pub each : AllByRecursion IsUncut pieces
  pub last : IsUncut rest
