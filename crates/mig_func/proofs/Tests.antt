-- Tests of names and of lists of names.
use Rattle.std.proofs.Common.{◌≡◌, refl, sym, ◌∙◌, ℕ, List, [], ◌∷◌, Bool, false, ◌||◌, arith}
use Rattle.std.specs.Prelude.{not, ◌&&◌}
use Rattle.std.specs.List.{list_any, list_all}
use Rattle.mig_model.specs.Names.{same_name, is_among}
use Rattle.mig_model.proofs.SameNames.{same_name_flips}

pub neither : (a b : Bool) → ((a || b) || false) ≡ not (not a && not b)
neither a b = grind arith

pub any_either : {A : Type 0} (p q : A → Bool) (xs : List A) → (list_any p xs || list_any q xs) ≡ list_any (λ x. p x || q x) xs
any_either p q [] = refl
any_either p q (x ∷ xs) = grind (arith, any_either p q xs)

pub any_alike : {A : Type 0} (p q : A → Bool) (xs : List A) → ((x : A) → p x ≡ q x) → list_any p xs ≡ list_any q xs
any_alike p q xs h = λ i. list_any (λ x. h x i) xs

pub any_never : {A : Type 0} (xs : List A) → list_any (λ (x : A). false) xs ≡ false
any_never [] = refl
any_never (x ∷ xs) = any_never xs

pub any_swap : (ls ks : List (List ℕ)) → list_any (is_among ls) ks ≡ list_any (is_among ks) ls
any_swap ls [] = sym (any_never ls)
any_swap ls (k ∷ ks) =
    (λ i. any_alike (same_name k) (λ n. same_name n k) ls (same_name_flips k) i || any_swap ls ks i)
    ∙ any_either (λ n. same_name n k) (is_among ks) ls

pub not_all : {A : Type 0} (p : A → Bool) (xs : List A) → not (list_all p xs) ≡ list_any (λ x. not (p x)) xs
not_all p [] = refl
not_all p (x ∷ xs) = grind (arith, not_all p xs)
