-- The keys of entries.
use Rattle.std.proofs.Common.{◌≡◌, ℕ, List, [], ◌∷◌, ◌++◌, refl, ap}
use Rattle.std.specs.Map.{keys_of}

pub keys_append : {A : Type 0} (xs ys : List (List ℕ × A)) → keys_of (xs ++ ys) ≡ keys_of xs ++ keys_of ys
keys_append [] ys = refl
keys_append (x ∷ xs) ys = ap (λ l. x.0 ∷ l) (keys_append xs ys)
