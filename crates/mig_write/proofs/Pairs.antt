-- The pairs of a record value have one order by name.
use Rattle.std.proofs.Common.{◌≡◌, ℕ, List, [], ◌∷◌, ◌++◌, false, Option, Some, None, refl, ap, ◌∙◌}
use Rattle.std.specs.Prelude.{IsPermutation}
use Rattle.std.specs.Map.{keys_of}
use Rattle.mig_model.specs.Plain.{Plain}
use Rattle.mig_model.specs.Names.{Ascends, has_twice}
use Rattle.mig_model.proofs.Ascending.{gathered_if_apart, gathered_sound}
use Rattle.mig_template.proofs.Names.{apart_if_once}
use Rattle.mig_value.specs.Typed as typed
use Rattle.mig_value.specs.Typed.{Tag, out, out_slots, slots_of, tag_pair}
use Rattle.mig_value.specs.Parts.{RecordParts, IsRecordValue, names_in, tag_name}
use Rattle.mig_write.specs.Lists.{pairs_in}
use Rattle.mig_model.proofs.Entries.{keys_append}

pub slot_keys : (ss : List typed.Slot) → keys_of (out_slots (slots_of ss)) ≡ keys_of ss
slot_keys [] = refl
slot_keys (s ∷ ss) = ap (λ l. s.0 ∷ l) (slot_keys ss)

tag_key : (t : Option Tag) → keys_of (tag_pair t) ≡ tag_name t
tag_key None = refl
tag_key (Some t) = refl

pub pair_keys : (p : RecordParts) → keys_of (pairs_in p) ≡ names_in p
pair_keys p =
    keys_append (out_slots (slots_of p.fields)) _
    ∙ (λ i. slot_keys p.fields i ++ (keys_append (tag_pair p.tag) (out_slots (slots_of p.cased) ++ out_slots (slots_of p.rest)) i))
    ∙ (λ i. keys_of p.fields ++ (tag_key p.tag i ++ keys_append (out_slots (slots_of p.cased)) (out_slots (slots_of p.rest)) i))
    ∙ (λ i. keys_of p.fields ++ (tag_name p.tag ++ (slot_keys p.cased i ++ slot_keys p.rest i)))

-- there is an order
pub has_order : (p : RecordParts) → IsRecordValue p → (ps : List (List ℕ × Plain)) × IsPermutation (pairs_in p) ps × Ascends ps
has_order p r =
    let once : has_twice (keys_of (pairs_in p)) ≡ false = ap has_twice (pair_keys p) ∙ r.distinct in
    let g = gathered_if_apart (pairs_in p) (apart_if_once (keys_of (pairs_in p)) once) in
    let known = gathered_sound (pairs_in p) g.0 g.1 in
    (g.0, known.0, known.1)
