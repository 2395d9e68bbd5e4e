-- Pairs in the order of their names.
use Rattle.std.proofs.Common.{◌≡◌, ℕ, List, [], ◌∷◌, Bool, true, false, Option, Some, None, refl, ap, ◌∙◌}
use Rattle.std.specs.Prelude.{IsPermutation, is_some, option_and_then, if◌then◌else◌}
use Rattle.mig_model.specs.Plain.{Plain}
use Rattle.mig_model.specs.Names.{gathered, Ascends, put, under}
use Rattle.mig_model.proofs.Ascending.{gathered_complete}
use Rattle.mig_value.specs.Typed.{in_order}
use Rattle.std.proofs.lemmas.Option.{same_Some}

abbrev Pairing : Type 0
Pairing = List ℕ × Plain

abbrev put_if : Pairing → List Pairing → Bool → Option (List Pairing)
put_if q ps b = if b then None else Some (put q.0 q.1 ps)

-- what is gathered is in order
pub in_order_gathered : (qs ps : List Pairing) → gathered qs ≡ Some ps → in_order qs ≡ ps
in_order_gathered [] ps e = same_Some [] ps e
in_order_gathered (q ∷ qs) ps e = by (gathered qs) refl (in_order_gathered qs) e
  where
    added : (rs : List Pairing) (b : Bool) → put_if q rs b ≡ Some ps → put q.0 q.1 rs ≡ ps
    added rs true e' = absurd cc
    added rs false e' = same_Some (put q.0 q.1 rs) ps e'

    by : (o : Option (List Pairing)) → gathered qs ≡ o → ((rs : List Pairing) → gathered qs ≡ Some rs → in_order qs ≡ rs) → option_and_then (λ rs. put_if q rs (is_some (under q.0 rs))) o ≡ Some ps → put q.0 q.1 (in_order qs) ≡ ps
    by None h rest e' = absurd cc
    by (Some rs) h rest e' = ap (put q.0 q.1) (rest rs h) ∙ added rs (is_some (under q.0 rs)) e'

-- the order in which the names ascend is the one
pub in_order_named : (qs ps : List Pairing) → IsPermutation qs ps → Ascends ps → in_order qs ≡ ps
in_order_named qs ps p s = in_order_gathered qs ps (gathered_complete qs ps p s)
