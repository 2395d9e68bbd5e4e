-- What holds of all declarations of a list holds of one at a place, and of those behind it.
use Rattle.std.proofs.Common.{◌≡◌, ◌∙◌, ◌+◌, ◌<◌, ℕ, zero, suc, List, [], ◌∷◌, length, get_or, map, drop, refl, sym, ap, subst, arith}
use Rattle.std.specs.List.{AllByRecursion}
use Rattle.mig_tree.proofs.Places.{drop_here}

pub at_index : {X Y : Type 0} (P : Y → Type 0) (f : X → Y) (xs : List X) (i : ℕ) (x : X) → i < length xs → x ≡ get_or xs i x → AllByRecursion P (map f xs) → P (f x)
at_index P f [] i x l e h = absurd (omega arith)
at_index P f (y ∷ ys) zero x l e h = subst (λ z. P (f z)) (sym e) h.0
at_index P f (y ∷ ys) (suc i) x l e h = at_index P f ys i x (omega arith) e h.1

pub all_dropped : {X Y : Type 0} (P : Y → Type 0) (f : X → Y) (xs : List X) (i : ℕ) → AllByRecursion P (map f xs) → AllByRecursion P (map f (drop i xs))
all_dropped P f xs zero h = h
all_dropped P f [] (suc i) h = tt
all_dropped P f (x ∷ xs) (suc i) h = all_dropped P f xs i h.1

-- the element at the place, and those behind it
pub ahead : {X Y : Type 0} (f : X → Y) (xs ys : List X) (i : ℕ) (x : X) → i < length xs → x ≡ get_or xs i x → ys ≡ drop (i + 1) xs → map f (drop i xs) ≡ f x ∷ map f ys
ahead f xs ys i x l e behind = ap (map f) (drop_here xs i x l e) ∙ ap (λ l. f x ∷ map f l) (sym behind)
