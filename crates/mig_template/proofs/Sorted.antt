-- Fields and cases in the order of their names: none stands twice.
use Rattle.std.proofs.Common.{◌≡◌, ℕ, List, true, false, map}
use Rattle.std.proofs.lemmas.Bool.{true_from_ne_false}
use Rattle.std.specs.Prelude.{not, ◌==◌}
use Rattle.std.specs.Ordering.{ordering_index}
use Rattle.std.specs.declared.cmp.Ordering.{Ordering}
use Rattle.std.specs.declared.cmp.Ordering.TheVariants.{Less, Equal, Greater}
use Rattle.std.specs.List.Sorted.{IsSortedByKey}
use Rattle.std.specs.Map.{keys_of}
use Rattle.std.proofs.lemmas.Map.Keys.{IsDistinct-from_sorted}
use Rattle.mig_model.specs.Names.{has_twice, by_bytes, Ascends}
use Rattle.mig_model.proofs.Rising.{entries_ascend}
use Rattle.mig_template.proofs.Names.{once_if_apart, apart_if_once}

-- where names ascend, none stands twice
pub once_if_ascends : {A : Type 0} (es : List (List ℕ × A)) → Ascends es → has_twice (keys_of es) ≡ false
once_if_ascends es s = once_if_apart (keys_of es) (IsDistinct-from_sorted by_bytes (keys_of es) s)

module _ {X A : Type 0} (view : X → List ℕ × A) where
  -- sorted names of which none stands twice ascend
  pub ascends_if_once : (es : List X) → IsSortedByKey (λ x. (view x).0) by_bytes es → has_twice (keys_of (map view es)) ≡ false → Ascends (map view es)
  ascends_if_once es sorted once = entries_ascend view es sorted (apart_if_once (keys_of (map view es)) once)

  pub twice_if_not : (es : List X) → IsSortedByKey (λ x. (view x).0) by_bytes es → (Ascends (map view es) → ⊥) → has_twice (keys_of (map view es)) ≡ true
  twice_if_not es sorted never = true_from_ne_false (has_twice (keys_of (map view es))) (λ e. never (ascends_if_once es sorted e))
