-- The place of a name, and the slots with another value at a place.
use Rattle.std.proofs.Common.{◌≡◌, ℕ, zero, suc, ◌<◌, List, [], ◌∷◌, ◌++◌, length, map, get_or, slice_set, true, false, Option, Some, None, refl, sym, ap, subst, ◌∙◌, arith}
use Rattle.std.specs.Prelude.{option_map, if◌then◌else◌, Ok, Err}
use Rattle.std.specs.Result.{result_ok}
use Rattle.std.specs.declared.result.Result.{Result}
use Rattle.std.specs.Ordering.{is_eq}
use Rattle.std.specs.declared.cmp.Ordering.TheVariants.{Equal}
use Rattle.std.specs.List.Sorted.{IsStrictlySortedBy}
use Rattle.std.specs.Map.{keys_of}
use Rattle.std.specs.BTreeMap.{is_at}
use Rattle.std.proofs.lemmas.Cmp.{nat_list_cmp_total}
use Rattle.std_collections.specs.Layout.BTreeMap.{seek}
use Rattle.std_collections.proofs.Seek.{AboveFirst, AnswersAt, seek-Ok}
use Rattle.std_collections.proofs.Entries.{NonePasses}
use Rattle.mig_model.specs.Names.{Ascends, has_twice, by_bytes, same_name}
use Rattle.mig_model.proofs.Searches.{none_there}
use Rattle.mig_value.specs.Typed.{Typed, Slot, slots_of, Tag}
use Rattle.mig_value.specs.Parts.{Besides, tag_name, with_besides}
use Rattle.mig_value.specs.Kept.{ValueKept, SlotsKept, SlotListKept, RecordValueKept}
use Rattle.mig_value.specs.Places.{place_in, value_at, with_value_at}
use Rattle.mig_value.specs.View.{typed_of, slot_of}
use Rattle.mig_value.specs.declared.slots.Slot as code

-- ---- another value at a place
pub slot_value : (ss : List code.Slot) (n : ℕ) (d : code.Slot) → n < length ss → typed_of (get_or ss n d).value ≡ value_at n (map slot_of ss)
slot_value [] n d h = absurd (omega arith)
slot_value (s ∷ ss) zero d h = refl
slot_value (s ∷ ss) (suc n) d h = slot_value ss n d (omega arith)

pub slot_set : (ss : List code.Slot) (n : ℕ) (d t : code.Slot) → t.name ≡ (get_or ss n d).name → map slot_of (slice_set ss n t) ≡ with_value_at n (typed_of t.value) (map slot_of ss)
slot_set [] zero d t e = refl
slot_set [] (suc n) d t e = refl
slot_set (s ∷ ss) zero d t e = ap (λ (m : List ℕ). (m, typed_of t.value) ∷ map slot_of ss) e
slot_set (s ∷ ss) (suc n) d t e = ap (λ (l : List Slot). slot_of s ∷ l) (slot_set ss n d t e)

keys_stay : (n : ℕ) (w : Typed) (ss : List Slot) → keys_of (with_value_at n w ss) ≡ keys_of ss
keys_stay zero w [] = refl
keys_stay (suc n) w [] = refl
keys_stay zero w (s ∷ ss) = refl
keys_stay (suc n) w (s ∷ ss) = ap (λ (l : List (List ℕ)). s.0 ∷ l) (keys_stay n w ss)

values_kept : (n : ℕ) (w : Typed) (ss : List Slot) → ValueKept w → SlotsKept (slots_of ss) → SlotsKept (slots_of (with_value_at n w ss))
values_kept zero w [] k h = tt
values_kept (suc n) w [] k h = tt
values_kept zero w (s ∷ ss) k h = (k, h.1)
values_kept (suc n) w (s ∷ ss) k h = (h.0, values_kept n w ss k h.1)

pub list_kept : (n : ℕ) (w : Typed) (ss : List Slot) → ValueKept w → SlotListKept ss → SlotListKept (with_value_at n w ss)
list_kept n w ss k h = (subst (λ ks. IsStrictlySortedBy by_bytes ks) (sym (keys_stay n w ss)) h.0, values_kept n w ss k h.1)

-- slots of the same names in place of a record's fields, or of those of its case
pub fields_kept : (n : ℕ) (w : Typed) (fs gs : List Slot) (tag : Option Tag) (cs rs : List Slot) → gs ≡ with_value_at n w fs → SlotListKept gs → RecordValueKept (record { fields = fs; tag = tag; cased = cs; rest = rs }) → RecordValueKept (record { fields = gs; tag = tag; cased = cs; rest = rs })
fields_kept n w fs gs tag cs rs e k h =
    let same : keys_of fs ≡ keys_of gs = sym (keys_stay n w fs) ∙ ap keys_of (sym e) in (
      record {
        fields = k.0;
        cased = h.0.cased;
        rest = h.0.rest;
        distinct = subst (λ ks. has_twice (ks ++ (tag_name tag ++ (keys_of cs ++ keys_of rs))) ≡ false) same h.0.distinct;
      },
      (k.1, h.1.1),
    )

pub cased_kept : (n : ℕ) (w : Typed) (fs : List Slot) (tag : Option Tag) (cs ds rs : List Slot) → ds ≡ with_value_at n w cs → SlotListKept ds → RecordValueKept (record { fields = fs; tag = tag; cased = cs; rest = rs }) → RecordValueKept (record { fields = fs; tag = tag; cased = ds; rest = rs })
cased_kept n w fs tag cs ds rs e k h =
    let same : keys_of cs ≡ keys_of ds = sym (keys_stay n w cs) ∙ ap keys_of (sym e) in (
      record {
        fields = h.0.fields;
        cased = k.0;
        rest = h.0.rest;
        distinct = subst (λ ks. has_twice (keys_of fs ++ (tag_name tag ++ (ks ++ keys_of rs))) ≡ false) same h.0.distinct;
      },
      (h.1.0, (k.1, h.1.1.1)),
    )

pub besides_kept : (n : ℕ) (w : Typed) (fs : List Slot) (b d : Besides) → d ≡ record b { cased = with_value_at n w b.cased } → SlotListKept d.cased → RecordValueKept (with_besides fs b) → RecordValueKept (with_besides fs d)
besides_kept n w fs b d e k h =
    let kept : SlotListKept (with_value_at n w b.cased) = subst (λ (x : Besides). SlotListKept x.cased) e k in
    subst (λ (x : Besides). RecordValueKept (with_besides fs x)) (sym e) (cased_kept n w fs b.tag b.cased (with_value_at n w b.cased) b.rest refl kept h)

-- ---- the place that a binary search finds
module _ (name : List ℕ) where
  first : (s : Slot) (ss : List Slot) → same_name name s.0 ≡ true → place_in name (s ∷ ss) ≡ Some 0
  first s ss h = ap (λ b. if b then Some 0 else option_map (λ n. suc n) (place_in name ss)) h

  later : (s : Slot) (ss : List Slot) → same_name name s.0 ≡ false → place_in name (s ∷ ss) ≡ option_map (λ n. suc n) (place_in name ss)
  later s ss h = ap (λ b. if b then Some 0 else option_map (λ n. suc n) (place_in name ss)) h

  -- the slots below a place have other names, and the one there has this one
  place_here : (ss : List Slot) (i : ℕ) → i < length ss → AboveFirst (by_bytes name) ss i → AnswersAt (by_bytes name) ss i Equal → place_in name ss ≡ Some i
  place_here [] i l a b = absurd (omega arith)
  place_here (s ∷ ss) zero l a b = first s ss (ap is_eq b)
  place_here (s ∷ ss) (suc i) l a b = later s ss (ap is_eq a.0) ∙ ap (λ (o : Option ℕ). option_map (λ n. suc n) o) (place_here ss i (omega arith) a.1 b)

  no_place : (ss : List Slot) → NonePasses (is_at (by_bytes name)) ss → place_in name ss ≡ None
  no_place [] h = refl
  no_place (s ∷ ss) h = later s ss h.0 ∙ ap (λ (o : Option ℕ). option_map (λ n. suc n) o) (no_place ss h.1)

  pub place_is : (ss : List code.Slot) (r : Result ℕ ℕ) → Ascends (map slot_of ss) → r ≡ seek (by_bytes name) (map slot_of ss) → result_ok r ≡ place_in name (map slot_of ss)
  place_is ss (Ok i) h is = let r = seek-Ok (by_bytes name) (map slot_of ss) i (sym is) in sym (place_here (map slot_of ss) i r.0 r.1 r.2)
  place_is ss (Err i) h is = sym (no_place (map slot_of ss) (none_there nat_list_cmp_total slot_of name ss i h (sym is)))
