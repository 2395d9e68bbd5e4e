-- The pairs of a record value's map, name by name.
use Rattle.std.proofs.Common.{◌≡◌, ℕ, List, [], ◌∷◌, ◌++◌, Bool, true, false, None, refl, sym, ap, subst, ◌∙◌, arith}
use Rattle.std.specs.Prelude.{option_map, IsPermutation}
use Rattle.std.proofs.lemmas.List.Sorted.{IsPermutation-refl, IsPermutation-trans, IsPermutation-cons}
use Rattle.mig_model.specs.Names.{has_twice, by_bytes, Ascends, same_name, is_among, under, has, put, put_all}
use Rattle.std.specs.List.{list_all, list_any}
use Rattle.std.specs.BTreeMap.{is_at}
use Rattle.std.proofs.lemmas.Map.Made.{is_some-lookup}
use Rattle.std.specs.Map.{keys_of}
use Rattle.mig_model.specs.Plain.{Plain}
use Rattle.mig_model.specs.Inhabits.{Entries}
use Rattle.mig_value.specs.Typed.{slots_of, out, out_slots, in_order, tag_pair}
use Rattle.mig_value.specs.Parts.{RecordParts}
use Rattle.mig_model.proofs.Edits.{first, under-put_all, ascends-put_all, under-append, put-permutes}
use Rattle.mig_action.proofs.Stands.{found_out}
use Rattle.mig_action.proofs.Settings.{first-none}
use Rattle.mig_model.proofs.Rising.{nothing_ascends}
use Rattle.mig_model.proofs.Bools.{right_or, split_or}
use Rattle.mig_model.proofs.SameNames.{same_name_is, same_name_itself}

in_order_is : (qs : Entries) → in_order qs ≡ put_all qs []
in_order_is [] = refl
in_order_is (q ∷ qs) = ap (λ l. put_all (q ∷ []) l) (in_order_is qs)

pub under-in_order : (qs : Entries) (n : List ℕ) → under n (in_order qs) ≡ under n qs
under-in_order qs n = ap (under n) (in_order_is qs) ∙ (under-put_all qs [] n ∙ first-none (under n qs))

pub ascends-in_order : (qs : Entries) → Ascends (in_order qs)
ascends-in_order qs = subst Ascends (sym (in_order_is qs)) (ascends-put_all qs [] (nothing_ascends Plain))

-- the pairs of a record value, in the order of its lists
abbrev pub pairs_by_list : RecordParts → Entries
pairs_by_list v = out_slots (slots_of v.fields) ++ (tag_pair v.tag ++ (out_slots (slots_of v.cased) ++ out_slots (slots_of v.rest)))

-- the pairs of its map
abbrev pub pairs_of_record : RecordParts → Entries
pairs_of_record v = in_order (pairs_by_list v)

pub under_record : (v : RecordParts) (n : List ℕ) → under n (pairs_of_record v) ≡ first (option_map out (under n v.fields)) (first (under n (tag_pair v.tag)) (first (option_map out (under n v.cased)) (option_map out (under n v.rest))))
under_record v n =
    under-in_order (pairs_by_list v) n
    ∙ (under-append (out_slots (slots_of v.fields)) (tag_pair v.tag ++ (out_slots (slots_of v.cased) ++ out_slots (slots_of v.rest))) n
    ∙ (ap (first (under n (out_slots (slots_of v.fields)))) (under-append (tag_pair v.tag) (out_slots (slots_of v.cased) ++ out_slots (slots_of v.rest)) n
    ∙ ap (first (under n (tag_pair v.tag))) (under-append (out_slots (slots_of v.cased)) (out_slots (slots_of v.rest)) n))
    ∙ (λ i. first (found_out v.fields n i) (first (under n (tag_pair v.tag)) (first (found_out v.cased n i) (found_out v.rest n i))))))
