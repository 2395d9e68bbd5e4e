-- Plain values and the lists that they are made of.
use Rattle.std.proofs.Common.{◌≡◌, ℕ, List, [], ◌∷◌, refl, sym, ap, subst}
use Rattle.mig_value.specs.Typed.{Typed, Slots, no_slot, slot, Slot, items, items_of, slots, slots_of}
use Rattle.mig_value.specs.Fit.{EachSlot}
use Rattle.mig_value.specs.Parts.{RecordParts, IsRecordValue, record_of}
use Rattle.mig_value.specs.Kept.{ValueKept, RecordValueKept}

pub items_again : (vs : List Typed) → items (items_of vs) ≡ vs
items_again [] = refl
items_again (v ∷ vs) = ap (λ l. v ∷ l) (items_again vs)

pub slots_again : (ss : List Slot) → slots (slots_of ss) ≡ ss
slots_again [] = refl
slots_again (s ∷ ss) = ap (λ l. s ∷ l) (slots_again ss)

pub slots_whole : (ss : Slots) → slots_of (slots ss) ≡ ss
slots_whole no_slot = refl
slots_whole (slot n v ss) = ap (λ l. slot n v l) (slots_whole ss)

-- what holds of each slot
pub weaker_slots : (P Q : List ℕ → Typed → Type 0) → ((n : List ℕ) (v : Typed) → P n v → Q n v) → (ss : Slots) → EachSlot P ss → EachSlot Q ss
weaker_slots P Q f no_slot e = tt
weaker_slots P Q f (slot n v ss) e = (f n v e.0, weaker_slots P Q f ss e.1)

-- the parts of a record are those of its value
pub parts_again : (p : RecordParts) → ◌≡◌ {A = RecordParts} (record { fields = slots (slots_of p.fields); tag = p.tag; cased = slots (slots_of p.cased); rest = slots (slots_of p.rest) }) p
parts_again p = λ i. record { fields = slots_again p.fields i; tag = p.tag; cased = slots_again p.cased i; rest = slots_again p.rest i }

pub record_kept : (p : RecordParts) → RecordValueKept p → ValueKept (record_of p)
record_kept p k = (subst IsRecordValue (sym (parts_again p)) k.0, k.1)
