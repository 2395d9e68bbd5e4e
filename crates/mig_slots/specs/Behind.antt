-- A slot that is put behind others.
use Rattle.std.specs.Prelude.{ℕ, List, [], ◌∷◌, ◌++◌, Option, Some, None}
use Rattle.mig_value.specs.Typed.{Typed, Slot}

-- the slots with one of the name behind them, where there is a value
abbrev pub with_behind : List ℕ → Option Typed → List Slot → List Slot
with_behind x None ss = ss
with_behind x (Some v) ss = ss ++ (x, v) ∷ []
