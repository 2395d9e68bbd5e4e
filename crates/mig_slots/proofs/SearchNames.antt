-- A binary search among sorted names finds a name exactly where it is one of them.
use Rattle.std.proofs.Common.{◌≡◌, ℕ, suc, ◌+◌, ◌<◌, ◌≤◌, List, [], ◌∷◌, Bool, true, false, length, get_or, ◌⊎◌, inl, inr, Result, Ok, Err, refl, sym, ap, subst, ◌∙◌, ◌||◌, arith}
use Rattle.std.specs.Ordering.{is_lt, is_eq, ordering_index, ordering_reverse}
use Rattle.std.specs.declared.cmp.Ordering.{Ordering}
use Rattle.std.specs.declared.cmp.Ordering.TheVariants.{Less, Equal, Greater}
use Rattle.std.specs.Result.{is_ok}
use Rattle.std.specs.List.Sorted.{IsNonDecreasingBy, IsBinarySearchResult, IsSearchInRange}
use Rattle.std.proofs.lemmas.Bool.{cases_lt}
use Rattle.std.proofs.lemmas.Cmp.{nat_list_cmp_total}
use Rattle.std.proofs.lemmas.List.Folds.{list_any_at}
use Rattle.std.proofs.lemmas.List.Sorted.{IsNonDecreasingBy-from_all_adjacent}
use Rattle.std.proofs.lemmas.Map.Lookups.{exact_bytes}
use Rattle.mig_model.specs.Names.{by_bytes, same_name, is_among, has_twice, Ascends}
use Rattle.std.specs.Prelude.{IsTrue, not, map, ◌↔◌}
use Rattle.std.specs.Map.{keys_of}
use Rattle.mig_template.proofs.Sorted.{once_if_ascends, twice_if_not}
use Rattle.mig_slots.specs.Sorted.{AreSorted, alone}

-- what a name is to n, a name that isn't before it is too, or more
rising : (n x y : List ℕ) (r : Ordering) → by_bytes y n ≡ r → by_bytes x y ≡ Less → ordering_index (by_bytes x n) ≤ ordering_index (by_bytes y n)
rising n x y Less e l = omega (arith, ap ordering_index e, ap ordering_index (nat_list_cmp_total.trans x y n l e))
rising n x y Equal e l = omega (arith, ap ordering_index e, ap ordering_index (subst (λ z. by_bytes x z ≡ Less) (exact_bytes y n e) l))
rising n x y Greater e l = omega (arith, ap ordering_index e, at_most (by_bytes x n))
  where
    at_most : (o : Ordering) → ordering_index o ≤ 2
    at_most Less = omega arith
    at_most Equal = omega arith
    at_most Greater = omega arith

not_falling : (n x y : List ℕ) (r : Ordering) → by_bytes y x ≡ r → is_lt r ≡ false → ordering_index (by_bytes x n) ≤ ordering_index (by_bytes y n)
not_falling n x y Less e l = absurd cc
not_falling n x y Equal e l = subst (λ z. ordering_index (by_bytes x n) ≤ ordering_index (by_bytes z n)) (sym (exact_bytes y x e)) (omega arith)
not_falling n x y Greater e l = rising n x y (by_bytes y n) refl (nat_list_cmp_total.antisymm x y ∙ ap ordering_reverse e)

comparisons_rise : (n : List ℕ) (ns : List (List ℕ)) → AreSorted ns → IsNonDecreasingBy (λ m. ordering_index (by_bytes m n)) ns
comparisons_rise n ns s =
    IsNonDecreasingBy-from_all_adjacent (λ m. ordering_index (by_bytes m n)) ns
    (λ k d l. not_falling n (get_or ns k d) (get_or ns (k + 1) d) (by_bytes (get_or ns (k + 1) d) (get_or ns k d)) refl (s k d (omega arith) l))

turned : (x y : List ℕ) → same_name x y ≡ is_eq (ordering_reverse (by_bytes y x))
turned x y = ap is_eq (nat_list_cmp_total.antisymm x y)

nowhere : (n : List ℕ) (ns : List (List ℕ)) → ((k : ℕ) (d : List ℕ) → k < length ns → same_name n (get_or ns k d) ≡ false) → is_among ns n ≡ false
nowhere n [] h = refl
nowhere n (m ∷ ns) h = λ i. h 0 m (omega arith) i || nowhere n ns (λ k d l. h (suc k) d (omega arith)) i

pub search_tells : (ns : List (List ℕ)) (n : List ℕ) (r : Result ℕ ℕ) → AreSorted ns → IsSearchInRange r (length ns) → IsBinarySearchResult (λ m. by_bytes m n) ns r → is_ok r ≡ is_among ns n
search_tells ns n (Ok i) s l r = sym (list_any_at (same_name n) ns i n l (turned n (get_or ns i n) ∙ ap (λ o. is_eq (ordering_reverse o)) (r n)))
search_tells ns n (Err i) s l r = sym (nowhere n ns (λ k d in_range. side k d in_range (cases_lt k i)))
  where
    side : (k : ℕ) (d : List ℕ) → k < length ns → (k < i) ⊎ (i ≤ k) → same_name n (get_or ns k d) ≡ false
    side k d in_range (inl h) = turned n (get_or ns k d) ∙ ap (λ o. is_eq (ordering_reverse o)) ((r (comparisons_rise n ns s)).0 k d (omega arith) h)
    side k d in_range (inr h) = turned n (get_or ns k d) ∙ ap (λ o. is_eq (ordering_reverse o)) ((r (comparisons_rise n ns s)).1 k d h in_range)

keys_alone : (ns : List (List ℕ)) → keys_of (map alone ns) ≡ ns
keys_alone [] = refl
keys_alone (n ∷ ns) = ap (λ ms. n ∷ ms) (keys_alone ns)

-- where sorted names don't ascend, one stands twice
pub twice_told : (b : Bool) (ns : List (List ℕ)) → AreSorted ns → (IsTrue b ↔ Ascends (map alone ns)) → not b ≡ has_twice ns
twice_told true ns s h = sym (ap has_twice (sym (keys_alone ns)) ∙ once_if_ascends (map alone ns) (h.0 refl))
twice_told false ns s h = sym (ap has_twice (sym (keys_alone ns)) ∙ twice_if_not alone ns s (λ a. absurd (let e : false ≡ true = h.1 a in cc)))
