-- Names that ascend stand once, so fields alone are the parts of a record value.
use Rattle.std.proofs.Common.{◌≡◌, ℕ, List, [], ◌∷◌, false, None, refl, ap, ◌∙◌}
use Rattle.std.specs.List.{AllByRecursion, IsDistinct, list_any}
use Rattle.std.specs.Map.{keys_of}
use Rattle.std.proofs.lemmas.List.{append-nil}
use Rattle.std.proofs.lemmas.Map.Keys.{IsDistinct-head, IsDistinct-tail, IsDistinct-from_sorted}
use Rattle.mig_model.specs.Names.{has_twice, by_bytes, same_name}
use Rattle.mig_value.specs.Typed.{Typed, Slot}
use Rattle.mig_value.specs.Kept.{SlotListKept, RecordValueKept}
use Rattle.mig_model.proofs.Rising.{nothing_ascends}

none_is : (n : List ℕ) (ns : List (List ℕ)) → AllByRecursion (λ m. same_name n m ≡ false) ns → list_any (same_name n) ns ≡ false
none_is n [] h = refl
none_is n (m ∷ ns) h = rw h.0 (none_is n ns h.1)

once_if_distinct : (ns : List (List ℕ)) → IsDistinct same_name ns → has_twice ns ≡ false
once_if_distinct [] h = refl
once_if_distinct (n ∷ ns) h = rw (none_is n ns (IsDistinct-head same_name n ns h)) (once_if_distinct ns (IsDistinct-tail same_name n ns h))

pub fields_alone : (fs : List Slot) → SlotListKept fs → RecordValueKept (record { fields = fs; tag = None; cased = []; rest = [] })
fields_alone fs k = (
  record {
    fields = k.0;
    cased = nothing_ascends Typed;
    rest = nothing_ascends Typed;
    distinct = ap has_twice (append-nil (keys_of fs)) ∙ once_if_distinct (keys_of fs) (IsDistinct-from_sorted by_bytes (keys_of fs) k.0);
  },
  (k.1, (tt, tt)),
)
