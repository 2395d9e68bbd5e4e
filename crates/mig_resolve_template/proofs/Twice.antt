-- Sorted pairs ascend exactly where no two names of them are equal.
use Rattle.std.proofs.Common.{◌≡◌, ◌∙◌, ℕ, List, Bool, true, false, refl, sym, true≢false}
use Rattle.std.specs.Prelude.{not, IsPermutation, IsTrue, ◌↔◌}
use Rattle.std.specs.List.Sorted.{IsSortedByKey}
use Rattle.std.specs.Map.{keys_of}
use Rattle.std.proofs.lemmas.Bool.{true_from_ne_false}
use Rattle.mig_model.specs.Names.{AscendBy, by_bytes, has_twice}
use Rattle.mig_model.proofs.Rising.{ascends_if_distinct}
use Rattle.mig_template.proofs.Names.{keys_moved, apart_if_once}
use Rattle.mig_template.proofs.Sorted.{once_if_ascends}

pub twice_by_rising : {A : Type 0} (before after : List (List ℕ × A)) (rises : Bool) → IsPermutation before after → IsSortedByKey (λ x. x.0) by_bytes after → (IsTrue rises ↔ AscendBy (λ x. x.0) after) → not rises ≡ has_twice (keys_of before)
twice_by_rising before after true moved sorted told = sym (keys_moved before after moved ∙ once_if_ascends after (told.0 refl))
twice_by_rising before after false moved sorted told =
    sym (keys_moved before after moved ∙ true_from_ne_false (has_twice (keys_of after)) (λ once. true≢false (sym (told.1 (ascends_if_distinct (λ x. x.0) after sorted (apart_if_once (keys_of after) once))))))
