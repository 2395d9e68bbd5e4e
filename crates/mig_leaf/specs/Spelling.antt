-- How the text of a number begins.
use Rattle.std.specs.Prelude.{◌≡◌, ℕ, ◌<◌, ◌⊎◌, List, [], ◌∷◌, slice_index}

-- `1` to `9`
abbrev pub IsLeading : ℕ → Type 0
IsLeading b = (48 < b) × (b < 58)

-- it is `0`, or such a digit is at the front, or behind a `-` that is at the front
abbrev pub BeginsPlain : List ℕ → Type 0
BeginsPlain s = (s ≡ 48 ∷ []) ⊎ IsLeading (slice_index s 0) ⊎ ((slice_index s 0 ≡ 45) × IsLeading (slice_index s 1))
