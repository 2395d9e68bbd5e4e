-- Slots that are put among others are these and the others in the order of their names.
use Rattle.std.proofs.Common.{◌≡◌, ℕ, List, ◌++◌, false, map, sym, subst, ◌∙◌, arith}
use Rattle.std.specs.Prelude.{IsPermutation}
use Rattle.std.specs.List.Sorted.{IsSortedByKey}
use Rattle.std.specs.Map.{keys_of}
use Rattle.std.proofs.lemmas.List.Sorted.{IsPermutation-sym, IsPermutation-trans}
use Rattle.mig_model.specs.Names.{Ascends, has_twice, by_bytes, has, put_all, others}
use Rattle.mig_template.proofs.Names.{keys_moved}
use Rattle.mig_model.proofs.OneOrder.{one_order}
use Rattle.mig_template.proofs.Sorted.{ascends_if_once, once_if_ascends}
use Rattle.mig_model.proofs.Edits.{ascends-put_all, same_under, under-others, under-put_all, among_is, none_among, put_all-permutes}

module _ {A : Type 0} where
  -- what else stood under their names doesn't count
  others_do : (ns es : List (List ℕ × A)) → Ascends es → Ascends (others (keys_of ns) es) → put_all ns (others (keys_of ns) es) ≡ put_all ns es
  others_do ns es s t =
      same_under (put_all ns (others (keys_of ns) es)) (put_all ns es) (ascends-put_all ns (others (keys_of ns) es) t) (ascends-put_all ns es s)
      (λ m. grind (arith, under-put_all ns (others (keys_of ns) es) m, under-others (keys_of ns) es m, among_is ns m, under-put_all ns es m))

  -- the slots sorted are the one order
  pub merged_is : {X : Type 0} (view : X → List ℕ × A) (xs : List X) (ns es gs : List (List ℕ × A)) → Ascends ns → Ascends es → Ascends (others (keys_of ns) es) → gs ≡ ns ++ others (keys_of ns) es → IsPermutation gs (map view xs)
      → IsSortedByKey (λ x. (view x).0) by_bytes xs → map view xs ≡ put_all ns es
  merged_is view xs ns es gs s t u e p sorted =
      let apart = none_among (λ m. has m (others (keys_of ns) es)) (keys_of ns) (λ m h. grind (arith, h, under-others (keys_of ns) es m)) in
      let kept : List (List ℕ × A) = put_all ns (others (keys_of ns) es) in
      let up : Ascends kept = ascends-put_all ns (others (keys_of ns) es) u in
      let all : IsPermutation gs kept = subst (λ (l : List (List ℕ × A)). IsPermutation l kept) (sym e) (put_all-permutes ns (others (keys_of ns) es) (once_if_ascends ns s) apart) in
      let same : IsPermutation kept (map view xs) = IsPermutation-trans kept gs (map view xs) (IsPermutation-sym gs kept all) p in
      let once : has_twice (keys_of (map view xs)) ≡ false = sym (keys_moved kept (map view xs) same) ∙ once_if_ascends kept up in
      one_order gs (map view xs) kept p all (ascends_if_once view xs sorted once) up ∙ others_do ns es t u
