-- One level of a rule that is done everywhere, or at places.
use Rattle.std.proofs.Common.{◌≡◌, ℕ, zero, suc, ◌-◌, ◌<◌, List, ap, arith}
use Rattle.mig_model.specs.Template.{Template}
use Rattle.mig_rule.specs.Target.{Retyping, all_children, then_itself, everywhere_within, by_children, place_or, places_within}

pub everywhere_step : (R : Retyping) (n : ℕ) (V : Template) → 0 < n → everywhere_within R n V ≡ then_itself R V (all_children (everywhere_within R (n - 1)) V)
everywhere_step R zero V h = absurd (omega arith)
everywhere_step R (suc k) V h = let e : k ≡ suc k - 1 = omega arith in ap (λ n. then_itself R V (all_children (everywhere_within R n) V)) e

pub places_step : (x : List ℕ) (R : Retyping) (n : ℕ) (V : Template) → 0 < n → places_within x R n V ≡ by_children (place_or x R (places_within x R (n - 1))) V
places_step x R zero V h = absurd (omega arith)
places_step x R (suc k) V h = let e : k ≡ suc k - 1 = omega arith in ap (λ n. by_children (place_or x R (places_within x R n)) V) e
