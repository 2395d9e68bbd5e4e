-- What is distinct in both of two parts is distinct in the two together.
use Rattle.std.proofs.Common.{◌≡◌, ◌||◌, Bool, true, false, refl, true≢false}
use Rattle.std.specs.Prelude.{not}

pub neither : (a b : Bool) → true ≡ not a → true ≡ not b → true ≡ not (a || b)
neither false false first second = refl
neither false true first second = absurd (true≢false second)
neither true b first second = absurd (true≢false first)
