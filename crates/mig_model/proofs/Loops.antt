-- Where a loop over a vector by value stands: what it has yielded, what it has in hand, and that all is behind it at the end.
use Rattle.std.proofs.Common.{◌≡◌, ◌<◌, List, [], ◌∷◌, ◌++◌, length, map, take, get_or, refl, sym, ap, ◌∙◌, arith}
use Rattle.std.specs.Prelude.{Option, Some, None}
use Rattle.std.specs.Iterator.{Yields}
use Rattle.std.specs.Vec.Iter.{into_iter_items, into_iter_len, into_iter_steps}
use Rattle.std.proofs.lemmas.Iterator.Adapters.{YieldsList-from_vec}
use Rattle.std.proofs.lemmas.Iterator.Consumers.{YieldsList-turn, YieldsList-so_far, YieldsList-end}
use Rattle.std.proofs.lemmas.List.{map-id}

first_is : {A : Type 0} (x y : A) (xs ys : List A) → x ∷ xs ≡ y ∷ ys → x ≡ y
first_is x y xs ys e = cc

others_are : {A : Type 0} (x y : A) (xs ys : List A) → x ∷ xs ≡ y ∷ ys → xs ≡ ys
others_are x y xs ys e = cc

-- a list is what was yielded, the item in hand, and the others
pub split : {A : Type 0} (all xs : List A) (x : A) → map (λ y. y) xs ≡ take (length xs) all → length xs < length all → x ≡ get_or all (length xs) x → (rest : List A) × (all ≡ xs ++ x ∷ rest)
split [] xs x t l e = absurd (omega arith)
split (y ∷ all) [] x t l e = (all, ap (λ z. z ∷ all) (sym e))
split (y ∷ all) (z ∷ xs) x t l e =
    let more = split all xs x (others_are z y (map (λ w. w) xs) (take (length xs) all) t) (omega arith) e in
    (more.0, (λ i. sym (first_is z y (map (λ w. w) xs) (take (length xs) all) t) i ∷ more.1 i))

-- what a `for` over a vector has in hand
pub in_hand : {A Z : Type 0} (s t u : _) (all xs : List A) (x : A) → into_iter_items s ≡ all → into_iter_len s ≡ length all → Yields (into_iter_steps {X = A} {Z = Z}) s xs t → (r : Option A) → r ≡ Some x → into_iter_steps {X = A} {Z = Z} t r u → (rest : List A) × (all ≡ xs ++ x ∷ rest)
in_hand {A} {Z} s t u all xs x items len y r is p =
    let whole = YieldsList-from_vec {A = A} {Z = Z} {s = s} all items len in
    let turn = YieldsList-turn whole xs t y r u x is p in
    split all xs x (YieldsList-so_far whole xs t y) turn.0 turn.1

-- a `for` over a vector ends when all is behind it
pub all_behind : {A Z : Type 0} (s t u : _) (all xs : List A) → into_iter_items s ≡ all → into_iter_len s ≡ length all → Yields (into_iter_steps {X = A} {Z = Z}) s xs t → (r : Option A) → r ≡ None → into_iter_steps {X = A} {Z = Z} t r u → xs ≡ all
all_behind {A} {Z} s t u all xs items len y r is p =
    let whole = YieldsList-from_vec {A = A} {Z = Z} {s = s} all items len in
    sym (map-id xs) ∙ (YieldsList-end whole xs t y r u is p).0

-- how many were yielded before the item in hand
pub fewer : {A : Type 0} (all xs : List A) (x : A) → (rest : List A) × (all ≡ xs ++ x ∷ rest) → length xs < length all
fewer all [] x s = omega (arith, ap length s.1)
fewer [] (y ∷ xs) x s = absurd cc
fewer (z ∷ all) (y ∷ xs) x s = let less = fewer all xs x (s.0, others_are z y all (xs ++ x ∷ s.0) s.1) in omega arith
