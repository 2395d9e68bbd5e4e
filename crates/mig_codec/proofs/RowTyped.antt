-- A map that was read at a record is one of its values.
use Rattle.std.proofs.Common.{◌≡◌, ℕ, List, [], ◌∷◌, Bool, true, false, true≢false, Option, Some, None, IsTrue, MatchBool, refl, sym, ap, ◌∙◌, subst}
use Rattle.std.specs.Prelude.{not, ◌||◌, ◌&&◌, is_some, if◌then◌else◌}
use Rattle.std.specs.Map.{lookup}
use Rattle.std.specs.BTreeMap.{is_at}
use Rattle.mig_model.specs.declared.rest.Rest.{Rest}
use Rattle.mig_model.specs.declared.rest.Rest.TheVariants.{Open}
use Rattle.mig_model.specs.Plain as plain
use Rattle.mig_model.specs.Names.{by_bytes, under, same_name}
use Rattle.mig_model.specs.Inhabits.{Entries, has_musts}
use Rattle.mig_model.specs.Family.{Family, body}
use Rattle.mig_model.specs.Fields.{is_field}
use Rattle.mig_model.specs.Template.{Field, fields_of, choice, cases_of, is_open, no_field, no_choice}
use Rattle.mig_model.specs.Record as parts
use Rattle.mig_model.specs.Record.{RecordParts, choice_of}
use Rattle.mig_template.proofs.Views.{field_list_of}
use Rattle.mig_value.specs.Typed.{Typed, Tag, Slots, no_slot, slot, slots_of, out_slots, tag_pair}
use Rattle.mig_value.specs.Parts as values
use Rattle.mig_value.specs.Fit.{EachSlot, FieldsFit, ChoiceFits, CasesFit, TagFits, has_literal, has_case_musts, has_cased_musts, is_field_of_case, IsUnknown, FitAsRead, IsAtomOf}
use Rattle.mig_codec.specs.Parted.{IsRowRead, is_tagged}
use Rattle.mig_codec.specs.Reading.{IsTyped}
use Rattle.mig_row.specs.Row.{Row, Belongs, tagged, unknown, belongs, is_tag, in_case, in_fields}
use Rattle.mig_row.proofs.Belonging.{unknown_found, tagged_found}
use Rattle.mig_laws.proofs.Named.{told_by_name, or_if}
use Rattle.mig_codec.proofs.Gathered.{those}
use Rattle.mig_codec.proofs.PartsOf.{found_in}
use Rattle.mig_codec.proofs.RowEnd.{found_those}
use Rattle.mig_codec.proofs.RowOf.{RowCase, untagged, tagged_as, kept_as}
use Rattle.mig_model.proofs.Bools.{both_true, both_false, left_or, right_or}
use Rattle.mig_model.proofs.SameNames.{same_name_is, same_name_itself}
use Rattle.mig_value.proofs.Views.{weaker_slots}

-- what is asked of the cases is told by the case that is found
literal_known : (s : List ℕ) (cs : List parts.Case) → has_literal s (cases_of cs) ≡ is_some (found_in s cs)
literal_known s = told_by_name s is_some (λ cs. has_literal s (cases_of cs)) refl (λ c cs. or_if (same_name s c.0) (has_literal s (cases_of cs)))

abbrev musts_of : Entries → Option (List Field) → Bool
musts_of es None = true
musts_of es (Some ds) = has_musts (fields_of ds) es

musts_known : (s : List ℕ) (es : Entries) (cs : List parts.Case) → has_case_musts s (cases_of cs) es ≡ musts_of es (found_in s cs)
musts_known s es = told_by_name s (musts_of es) (λ cs. has_case_musts s (cases_of cs) es) refl (λ c cs. refl)

abbrev field_of : List ℕ → Option (List Field) → Bool
field_of n None = false
field_of n (Some ds) = is_field n (fields_of ds)

case_field : (n s : List ℕ) (cs : List parts.Case) → is_field_of_case n s (cases_of cs) ≡ field_of n (found_in s cs)
case_field n s = told_by_name s (field_of n) (λ cs. is_field_of_case n s (cases_of cs)) refl (λ c cs. refl)

cases_fit : (U : Typed → Type 0) (P : List ℕ → Typed → Type 0) (s : List ℕ) (cs : List parts.Case) (ds : List Field) → found_in s cs ≡ Some ds → (n : List ℕ) (v : Typed) → FieldsFit U P (fields_of ds) n v → CasesFit U P s (cases_of cs) n v
cases_fit U P s [] ds e n v h = absurd cc
cases_fit U P s (c ∷ cs) ds e n v h = by (same_name s c.0) e (λ k. cases_fit U P s cs ds k n v h)
  where
    by : (b : Bool) → (if b then Some c.1 else found_in s cs) ≡ Some ds → (found_in s cs ≡ Some ds → CasesFit U P s (cases_of cs) n v) → MatchBool b (FieldsFit U P (fields_of c.1) n v) (CasesFit U P s (cases_of cs) n v)
    by true k rest = let is : c.1 ≡ ds = cc in subst (λ fs. FieldsFit U P (fields_of fs) n v) (sym is) h
    by false k rest = rest k

field_known : (n : List ℕ) (fs : List Field) → is_field n (fields_of fs) ≡ is_some (under n fs)
field_known n fs = ap (λ l. is_some (lookup (is_at (by_bytes n)) l)) (field_list_of fs)

abbrev some_tag : List ℕ → List ℕ → Option Tag
some_tag m l = Some (m, l)

-- the tag of the value is the one in the map
tag_is : (row : Row) (es : Entries) (t : Option Tag) (tag s : List ℕ) → row.tag ≡ Some tag → tag_pair t ≡ those is_tagged row es → under tag es ≡ Some (plain.text s) → t ≡ some_tag tag s
tag_is row es t tag s is pair text = by t (ap (under tag) pair ∙ found_those is_tagged row es tag (ap is_tagged here) ∙ text)
  where
    here : belongs row tag ≡ tagged
    here = (λ i. if is_tag (is i) tag then tagged else in_fields (under tag row.fields) (in_case (under tag row.cased))) ∙ (λ i. if same_name_itself tag i then tagged else in_fields (under tag row.fields) (in_case (under tag row.cased)))

    same : (m l : List ℕ) (b : Bool) → same_name tag m ≡ b → (if b then Some (plain.text l) else None) ≡ Some (plain.text s) → some_tag m l ≡ some_tag tag s
    same m l true e k = let texts : plain.text l ≡ plain.text s = cc in let is' : l ≡ s = cc in λ i. some_tag (sym (same_name_is tag m e) i) (is' i)
    same m l false e k = absurd cc

    by : (t : Option Tag) → under tag (tag_pair t) ≡ Some (plain.text s) → t ≡ some_tag tag s
    by None k = absurd cc
    by (Some g) k = same g.0 g.1 (same_name tag g.0) refl k

no_tag : (row : Row) (es : Entries) → row.tag ≡ None → those is_tagged row es ≡ []
no_tag row [] is = refl
no_tag row (e ∷ es) is = by (belongs row e.0) refl (no_tag row es is)
  where
    by : (b : Belongs) → belongs row e.0 ≡ b → those is_tagged row es ≡ [] → (if is_tagged b then e ∷ those is_tagged row es else those is_tagged row es) ≡ []
    by tagged k rest = absurd (true≢false (sym (sym (ap (λ o. is_tag o e.0) is) ∙ tagged_found row e.0 k)))
    by b k rest = rest

untag : (t : Option Tag) → tag_pair t ≡ [] → t ≡ None
untag None e = refl
untag (Some g) e = absurd cc

module _ (f : Family) (p : RecordParts) (es : Entries) (r : values.RecordParts) where
  abbrev U : Typed → Type 0
  U = IsAtomOf f.form

  abbrev P : List ℕ → Typed → Type 0
  P = FitAsRead f.form (body f)

  abbrev RecordFits : Option parts.Cases → Option Tag → Type 0
  RecordFits c t =
      TagFits (choice_of c) t × IsTrue (has_musts (fields_of p.fields) (out_slots (slots_of r.fields)) && has_cased_musts (choice_of c) t (out_slots (slots_of r.cased))) × EachSlot (FieldsFit U P (fields_of p.fields)) (slots_of r.fields)
      × EachSlot (ChoiceFits U P (choice_of c) t) (slots_of r.cased) × EachSlot (IsUnknown U (fields_of p.fields) (choice_of c) t p.rest) (slots_of r.rest)

  in_untagged : IsRowRead f (record { fields = p.fields; tag = None; cased = []; rest = p.rest }) es r → RecordFits None None
  in_untagged read = (
    tt,
    both_true (has_musts (fields_of p.fields) (out_slots (slots_of r.fields))) true read.field_musts refl,
    read.fields,
    weaker_slots (FieldsFit U P no_field) (ChoiceFits U P no_choice None) (λ n v h. absurd h) (slots_of r.cased) read.cased,
    weaker_slots _ (IsUnknown U (fields_of p.fields) no_choice None p.rest)
        (λ n v h. let out' = unknown_found row n h.0 in (both_false (is_field n (fields_of p.fields)) false (field_known n p.fields ∙ ap is_some out'.fields) refl, left_or (is_open p.rest) false h.1, h.2))
        (slots_of r.rest) read.rest,
  )
    where
      row : Row
      row = record { fields = p.fields; tag = None; cased = []; rest = p.rest }

  -- an unknown name beside a literal
  unknown_beside : (c : parts.Cases) (s : List ℕ) (ds : List Field) (r' : Rest) → ((m : List ℕ) → is_field_of_case m s (cases_of c.1) ≡ is_field m (fields_of ds)) → (n : List ℕ) → belongs (record { fields = p.fields; tag = Some c.0; cased = ds; rest = r' }) n ≡ unknown
      → (is_field n (fields_of p.fields) || (same_name n c.0 || is_field_of_case n s (cases_of c.1))) ≡ false
  unknown_beside c s ds r' same n is =
      let out' = unknown_found (record { fields = p.fields; tag = Some c.0; cased = ds; rest = r' }) n is in
      both_false (is_field n (fields_of p.fields)) (same_name n c.0 || is_field_of_case n s (cases_of c.1)) (field_known n p.fields ∙ ap is_some out'.fields)
      (both_false (same_name n c.0) (is_field_of_case n s (cases_of c.1)) out'.tag (same n ∙ field_known n ds ∙ ap is_some out'.cases))

  in_tagged : (c : parts.Cases) (s : List ℕ) (ds : List Field) → found_in s c.1 ≡ Some ds → IsRowRead f (record { fields = p.fields; tag = Some c.0; cased = ds; rest = p.rest }) es r → RecordFits (Some c) (Some (c.0, s))
  in_tagged c s ds e read = (
    (refl, left_or (has_literal s (cases_of c.1)) c.2 (literal_known s c.1 ∙ ap is_some e)),
    both_true (has_musts (fields_of p.fields) (out_slots (slots_of r.fields))) (has_case_musts s (cases_of c.1) (out_slots (slots_of r.cased))) read.field_musts
        (musts_known s (out_slots (slots_of r.cased)) c.1 ∙ ap (musts_of (out_slots (slots_of r.cased))) e ∙ read.cased_musts),
    read.fields,
    weaker_slots (FieldsFit U P (fields_of ds)) (CasesFit U P s (cases_of c.1)) (cases_fit U P s c.1 ds e) (slots_of r.cased) read.cased,
    weaker_slots _ (IsUnknown U (fields_of p.fields) (choice c.0 (cases_of c.1) c.2) (Some (c.0, s)) p.rest)
        (λ n v h. (unknown_beside c s ds p.rest (λ m. case_field m s c.1 ∙ ap (field_of m) e) n h.0, left_or (is_open p.rest) (not (has_literal s (cases_of c.1))) h.1, h.2))
        (slots_of r.rest) read.rest,
  )

  in_kept : (c : parts.Cases) (s : List ℕ) → found_in s c.1 ≡ None → c.2 ≡ true → IsRowRead f (record { fields = p.fields; tag = Some c.0; cased = []; rest = Open }) es r → RecordFits (Some c) (Some (c.0, s))
  in_kept c s e kept read = (
    (refl, right_or (has_literal s (cases_of c.1)) c.2 kept),
    both_true (has_musts (fields_of p.fields) (out_slots (slots_of r.fields))) (has_case_musts s (cases_of c.1) (out_slots (slots_of r.cased))) read.field_musts
        (musts_known s (out_slots (slots_of r.cased)) c.1 ∙ ap (musts_of (out_slots (slots_of r.cased))) e),
    read.fields,
    weaker_slots (FieldsFit U P no_field) (CasesFit U P s (cases_of c.1)) (λ n v h. absurd h) (slots_of r.cased) read.cased,
    weaker_slots _ (IsUnknown U (fields_of p.fields) (choice c.0 (cases_of c.1) c.2) (Some (c.0, s)) p.rest)
        (λ n v h. (unknown_beside c s [] Open (λ m. case_field m s c.1 ∙ ap (field_of m) e) n h.0, right_or (is_open p.rest) (not (has_literal s (cases_of c.1))) (ap not (literal_known s c.1 ∙ ap is_some e)), h.2))
        (slots_of r.rest) read.rest,
  )

  pub row_typed : (row : Row) → RowCase p es row → IsRowRead f row es r → IsTyped f (parts.record_of p) (values.record_of r)
  row_typed row (untagged none is) read =
      let here : IsRowRead f (record { fields = p.fields; tag = None; cased = []; rest = p.rest }) es r = subst (λ w. IsRowRead f w es r) (sym is) read in
      let tag : r.tag ≡ None = untag r.tag (here.tag ∙ no_tag (record { fields = p.fields; tag = None; cased = []; rest = p.rest }) es refl) in
      subst (λ c. RecordFits c r.tag) (sym none) (subst (RecordFits None) (sym tag) (in_untagged here))
  row_typed row (tagged_as c s ds there text e is) read =
      let here : IsRowRead f (record { fields = p.fields; tag = Some c.0; cased = ds; rest = p.rest }) es r = subst (λ w. IsRowRead f w es r) (sym is) read in
      let tag : r.tag ≡ some_tag c.0 s = tag_is (record { fields = p.fields; tag = Some c.0; cased = ds; rest = p.rest }) es r.tag c.0 s refl here.tag text in
      subst (λ o. RecordFits o r.tag) (sym there) (subst (RecordFits (Some c)) (sym tag) (in_tagged c s ds e here))
  row_typed row (kept_as c s there text e kept is) read =
      let here : IsRowRead f (record { fields = p.fields; tag = Some c.0; cased = []; rest = Open }) es r = subst (λ w. IsRowRead f w es r) (sym is) read in
      let tag : r.tag ≡ some_tag c.0 s = tag_is (record { fields = p.fields; tag = Some c.0; cased = []; rest = Open }) es r.tag c.0 s refl here.tag text in
      subst (λ o. RecordFits o r.tag) (sym there) (subst (RecordFits (Some c)) (sym tag) (in_kept c s e kept here))
