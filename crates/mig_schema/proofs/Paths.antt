-- Two lists of names are alike exactly where they are equal.
use Rattle.std.proofs.Common.{◌≡◌, ◌∙◌, ℕ, List, [], ◌∷◌, Bool, true, false, nat_eq, refl, sym, ap}
use Rattle.std.specs.Prelude.{◌&&◌}
use Rattle.std.specs.Cmp.Lexicographic.{pointwise, bytes_decides, nat_list_eq_equiv}
use Rattle.std.proofs.lemmas.Cmp.{lists_equiv}
use Rattle.mig_model.proofs.Bools.{first_true, second_true}

pub equal_if_alike : (xs ys : List (List ℕ)) → pointwise (pointwise nat_eq) xs ys ≡ true → xs ≡ ys
equal_if_alike [] [] e = refl
equal_if_alike (x ∷ xs) (y ∷ ys) e =
    let one : x ≡ y = (bytes_decides x y).0 (first_true (pointwise nat_eq x y) (pointwise (pointwise nat_eq) xs ys) e) in
    let rest : xs ≡ ys = equal_if_alike xs ys (second_true (pointwise nat_eq x y) (pointwise (pointwise nat_eq) xs ys) e) in
    λ i. one i ∷ rest i
equal_if_alike _ _ e = absurd cc

pub alike : (xs ys : List (List ℕ)) → xs ≡ ys → pointwise (pointwise nat_eq) xs ys ≡ true
alike xs ys e = ap (pointwise (pointwise nat_eq) xs) (sym e) ∙ (lists_equiv nat_list_eq_equiv).refl xs
