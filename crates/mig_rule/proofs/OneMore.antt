-- A loop over places: what one place more adds.
use Rattle.std.proofs.Common.{◌≡◌, ℕ, zero, suc, ◌+◌, List, [], ◌∷◌, ◌++◌, map, take, Bool, true, false, refl, sym, ap, ◌∙◌, arith}
use Rattle.std.proofs.Math.Bool.{or_assoc}
use Rattle.std.proofs.lemmas.Option.{same_Some}
use Rattle.std.specs.Prelude.{Some, option_map, ◌||◌}
use Rattle.std.specs.List.{slice_get, list_any}

map_next : {X Y : Type 0} (f : X → Y) (xs : List X) (i : ℕ) (y : Y) → option_map f (slice_get xs i) ≡ Some y → map f (take (suc i) xs) ≡ map f (take i xs) ++ y ∷ []
map_next f [] i y e = absurd cc
map_next f (x ∷ xs) zero y e = ap (λ z. z ∷ []) (same_Some (f x) y e)
map_next f (x ∷ xs) (suc i) y e = ap (λ l. f x ∷ l) (map_next f xs i y e)

-- the items up to the place, each by its picture
pub map_more : {X Y : Type 0} (f : X → Y) (xs : List X) (i : ℕ) (y : Y) → option_map f (slice_get xs i) ≡ Some y → map f (take (i + 1) xs) ≡ map f (take i xs) ++ y ∷ []
map_more f xs i y e =
    let next : i + 1 ≡ suc i = omega arith in
    ap (λ k. map f (take k xs)) next ∙ map_next f xs i y e

or_none : (b : Bool) → (b || false) ≡ b
or_none true = refl
or_none false = refl

any_next : {X : Type 0} (p : X → Bool) (xs : List X) (i : ℕ) (b : Bool) → option_map p (slice_get xs i) ≡ Some b → list_any p (take (suc i) xs) ≡ (list_any p (take i xs) || b)
any_next p [] i b e = absurd cc
any_next p (x ∷ xs) zero b e = or_none (p x) ∙ same_Some (p x) b e
any_next p (x ∷ xs) (suc i) b e = ap (λ c. p x || c) (any_next p xs i b e) ∙ sym (or_assoc (p x) (list_any p (take i xs)) b)

-- an item up to the place has the test
pub any_more : {X : Type 0} (p : X → Bool) (xs : List X) (i : ℕ) (b : Bool) → option_map p (slice_get xs i) ≡ Some b → list_any p (take (i + 1) xs) ≡ (list_any p (take i xs) || b)
any_more p xs i b e =
    let next : i + 1 ≡ suc i = omega arith in
    ap (λ k. list_any p (take k xs)) next ∙ any_next p xs i b e
