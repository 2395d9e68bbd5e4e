-- A list ascends by key where each key stands before the next.
use Rattle.std.proofs.Common.{◌≡◌, ℕ, ◌+◌, ◌-◌, ◌<◌, List, [], ◌∷◌, true, false, length, map, get_or, refl, sym, ap, subst, ◌∙◌, arith}
use Rattle.std.specs.Prelude.{not, ◌==◌}
use Rattle.std.specs.Ordering.{is_lt, is_eq, eq_by_cmp, ordering_reverse, ordering_index}
use Rattle.std.specs.declared.cmp.Ordering.{Ordering}
use Rattle.std.specs.declared.cmp.Ordering.TheVariants.{Less, Equal, Greater}
use Rattle.std.specs.List.{AllAdjacentBelow, IsDistinct}
use Rattle.std.specs.List.Sorted.{IsSortedByKey, IsStrictlySortedBy}
use Rattle.std.specs.Map.{keys_of}
use Rattle.std.proofs.lemmas.Cmp.{nat_list_cmp_total}
use Rattle.std.proofs.lemmas.List.{length-map, get_or-map}
use Rattle.std.proofs.lemmas.Map.Keys.{Less-from_sorted, apart_from_distinct, sorted_from_all_adjacent}
use Rattle.mig_model.specs.Names.{Ascends, AscendBy, by_bytes}

neither : (r s : Ordering) → r ≡ ordering_reverse s → is_lt s ≡ false → is_eq r ≡ false → r ≡ Less
neither Less s h a b = refl
neither Equal s h a b = absurd cc
neither Greater Less h a b = absurd cc
neither Greater Equal h a b = absurd cc
neither Greater Greater h a b = absurd cc

pub not_other : (r : Ordering) → r ≡ Less → true ≡ not (ordering_index r == 0) → ⊥
not_other Less e h = absurd cc
not_other Equal e h = absurd cc
not_other Greater e h = absurd cc

module _ {X : Type 0} (key : X → List ℕ) where
  at_place : (es : List X) (k : ℕ) (d : X) → k < length es → get_or (map key es) k (key d) ≡ key (get_or es k d)
  at_place es k d l = get_or-map key es k d (key d) l

  -- each key stands before the next
  abbrev pub Rises : List X → ℕ → Type 0
  Rises es n = AllAdjacentBelow (λ x y. by_bytes (key x) (key y) ≡ Less) es n

  pub ascends_if_rising : (es : List X) → Rises es (length es) → AscendBy key es
  ascends_if_rising [] h = sorted_from_all_adjacent nat_list_cmp_total [] [] (λ k l. absurd (omega arith))
  ascends_if_rising (e ∷ es) h =
      sorted_from_all_adjacent nat_list_cmp_total (map key (e ∷ es)) (key e)
      (λ k l. let inside : k + 1 < length (e ∷ es) = omega (arith, length-map (e ∷ es) key) in
      (λ i. by_bytes (at_place (e ∷ es) k e (omega arith) i) (at_place (e ∷ es) (k + 1) e inside i)) ∙ h k e inside)

  pub rises_at : (es : List X) (i : ℕ) (d : X) → AscendBy key es → 0 < i → i < length es → by_bytes (key (get_or es (i - 1) d)) (key (get_or es i d)) ≡ Less
  rises_at es i d s a b =
      sym (λ t. by_bytes (at_place es (i - 1) d (omega arith) t) (at_place es i d b t))
      ∙ Less-from_sorted by_bytes (map key es) (i - 1) i (key d) s (omega arith) (omega (arith, length-map es key))

  -- a list that is sorted, with distinct keys, ascends
  pub ascends_if_distinct : (es : List X) → IsSortedByKey key by_bytes es → IsDistinct (eq_by_cmp by_bytes) (map key es) → AscendBy key es
  ascends_if_distinct es sorted apart =
      ascends_if_rising es (λ k d l.
      neither (by_bytes (key (get_or es k d)) (key (get_or es (k + 1) d))) (by_bytes (key (get_or es (k + 1) d)) (key (get_or es k d)))
      (nat_list_cmp_total.antisymm (key (get_or es k d)) (key (get_or es (k + 1) d))) (sorted k d (omega arith) l)
      ((λ t. eq_by_cmp by_bytes (sym (at_place es k d (omega arith)) t) (sym (at_place es (k + 1) d l) t))
      ∙ apart_from_distinct (eq_by_cmp by_bytes) (map key es) k (k + 1) (key d) apart (omega arith) (omega (arith, length-map es key))))

pub nothing_ascends : (A : Type 0) → Ascends {A = A} []
unfolding IsStrictlySortedBy
nothing_ascends A = tt

-- the keys of entries
pub keys_by : {X A : Type 0} (view : X → List ℕ × A) (es : List X) → keys_of (map view es) ≡ map (λ x. (view x).0) es
keys_by view [] = refl
keys_by view (e ∷ es) = ap (λ l. (view e).0 ∷ l) (keys_by view es)

-- entries ascend where what they are seen of ascends by key
pub ascend_by : {X A : Type 0} (view : X → List ℕ × A) (es : List X) → Ascends (map view es) → AscendBy (λ x. (view x).0) es
ascend_by view es s = subst (IsStrictlySortedBy by_bytes) (keys_by view es) s

pub by_ascends : {X A : Type 0} (view : X → List ℕ × A) (es : List X) → AscendBy (λ x. (view x).0) es → Ascends (map view es)
by_ascends view es s = subst (IsStrictlySortedBy by_bytes) (sym (keys_by view es)) s

-- entries that are sorted by name, with distinct names, ascend
pub entries_ascend : {X A : Type 0} (view : X → List ℕ × A) (es : List X) → IsSortedByKey (λ x. (view x).0) by_bytes es → IsDistinct (eq_by_cmp by_bytes) (keys_of (map view es)) → Ascends (map view es)
entries_ascend view es sorted apart = by_ascends view es (ascends_if_distinct (λ x. (view x).0) es sorted (subst (IsDistinct (eq_by_cmp by_bytes)) (keys_by view es) apart))
