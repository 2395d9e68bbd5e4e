-- The record at a map, and what is wrong in the map.
use Rattle.std.proofs.Common.{◌≡◌, ◌⊎◌, inl, inr, ℕ, List, [], ◌∷◌, ◌++◌, Bool, true, false, Option, Some, None, refl, sym, ap, ◌∙◌, subst}
use Rattle.std.specs.Prelude.{◌||◌, ◌&&◌, is_some, if◌then◌else◌}
use Rattle.std.proofs.lemmas.Option.{same_Some}
use Rattle.std.specs.List.{list_any}
use Rattle.std.specs.Map.{keys_of}
use Rattle.mig_model.specs.declared.form.Form.{Form}
use Rattle.mig_model.specs.declared.rest.Rest.{Rest}
use Rattle.mig_model.specs.declared.rest.Rest.TheVariants.{Open}
use Rattle.mig_model.specs.Plain as plain
use Rattle.mig_model.specs.Plain.{Plain, pairs_of, entries}
use Rattle.mig_model.specs.Kinds.{entries_of_pairs}
use Rattle.mig_model.specs.Names.{under, has_twice, same_name}
use Rattle.mig_model.specs.Inhabits.{Entries, is_text, is_some_text, has_text}
use Rattle.mig_model.specs.Family.{Family}
use Rattle.mig_model.specs.Place.{Place, Wrong, sooner, place_under, at_name, missing, is_tagged, unless, wrong_entry, wrong_map, wrong_fields, wrong_choice, wrong_cases, place}
use Rattle.mig_model.specs.Template.{Field, fields_of, cases_of, is_open}
use Rattle.mig_model.specs.TemplateKept.{RecordKept}
use Rattle.mig_model.specs.Record as parts
use Rattle.mig_model.specs.Record.{RecordParts, found_case, choice_of, record_of, is_twice_named, is_twice_in, has_twice_in}
use Rattle.mig_laws.proofs.Reading.{wrong_if_tagged, wrong_if_not_tagged, no_literal, literal_told, missing_of, missing_told, wrong_of, wrong_told}
use Rattle.mig_laws.proofs.Named.{told_by_name, found_has}
use Rattle.mig_codec.specs.Parted.{IsRow, HasTag, wrong_pair, wrong_row}
use Rattle.mig_codec.specs.Reading.{IsPart, wrong_part}
use Rattle.mig_row.specs.Row.{Row, Belongs, tagged, in_case, in_fields, unknown, wrong_as, row_of, with_choice, with_tag, with_case}
use Rattle.mig_row.specs.RowView.{tag_place}
use Rattle.mig_codec.proofs.PartsOf.{found_in, common_part, cased_part}
use Rattle.mig_model.proofs.Bools.{split_or, first_false, second_false, right_or, left_or, both_false}

-- the three ways in which there is a record at a map
pub data RowCase (p : RecordParts) (es : Entries) (row : Row) : Type 0 where
  untagged : p.choice ≡ None → ◌≡◌ {A = Row} (record { fields = p.fields; tag = None; cased = []; rest = p.rest }) row → RowCase p es row
  tagged_as : (c : parts.Cases) (s : List ℕ) (ds : List Field) → p.choice ≡ Some c → under c.0 es ≡ Some (plain.text s) → found_in s c.1 ≡ Some ds → ◌≡◌ {A = Row} (record { fields = p.fields; tag = Some c.0; cased = ds; rest = p.rest }) row → RowCase p es row
  kept_as : (c : parts.Cases) (s : List ℕ) → p.choice ≡ Some c → under c.0 es ≡ Some (plain.text s) → found_in s c.1 ≡ None → c.2 ≡ true → ◌≡◌ {A = Row} (record { fields = p.fields; tag = Some c.0; cased = []; rest = Open }) row → RowCase p es row

tag_text : (p : RecordParts) (tag : List ℕ) (kept : Bool) (o : Option Plain) (row : Row) → with_tag p tag kept o ≡ Some row → (s : List ℕ) × (o ≡ Some (plain.text s)) × (with_case p tag kept (found_case s p.choice) ≡ Some row)
tag_text p tag kept (Some (plain.text s)) row e = (s, refl, e)
tag_text p tag kept o row e = absurd cc

-- the case is there, or the tag is kept without one
abbrev CaseThere : RecordParts → List ℕ → Option (List Field) → Row → Type 0
CaseThere p tag o row = (ds : List Field) × (o ≡ Some ds) × ◌≡◌ {A = Row} (record { fields = p.fields; tag = Some tag; cased = ds; rest = p.rest }) row

abbrev TagKept : RecordParts → List ℕ → Bool → Option (List Field) → Row → Type 0
TagKept p tag kept o row = (o ≡ None) × (kept ≡ true) × ◌≡◌ {A = Row} (record { fields = p.fields; tag = Some tag; cased = []; rest = Open }) row

case_there : (p : RecordParts) (tag : List ℕ) (kept : Bool) (o : Option (List Field)) (row : Row) → with_case p tag kept o ≡ Some row → CaseThere p tag o row ⊎ TagKept p tag kept o row
case_there p tag kept (Some ds) row e = inl (ds, refl, same_Some _ row e)
case_there p tag true None row e = inr (refl, refl, same_Some _ row e)
case_there p tag false None row e = absurd cc

pub row_case : (p : RecordParts) (es : Entries) (row : Row) → row_of p es ≡ Some row → RowCase p es row
row_case p es row = by p.choice refl
  where
    by : (o : Option parts.Cases) → p.choice ≡ o → with_choice p o es ≡ Some row → RowCase p es row
    by None is e = untagged is (same_Some _ row e)
    by (Some c) is e =
        let text = tag_text p c.0 c.2 (under c.0 es) row e in
        elim (case_there p c.0 c.2 (found_case text.0 p.choice) row text.2) [
          | inl there ↦ tagged_as c text.0 there.0 is text.1 (ap (found_case text.0) (sym is) ∙ there.1) there.2
          | inr none ↦ kept_as c text.0 is text.1 (ap (found_case text.0) (sym is) ∙ none.0) none.1 none.2
        ]

-- what the record at a map keeps
pub row_has_tag : (p : RecordParts) (es : Entries) (row : Row) → RowCase p es row → HasTag row.tag es
row_has_tag p es row (untagged none is) = subst (λ (r : Row). HasTag r.tag es) is tt
row_has_tag p es row (tagged_as c s ds there text case' is) = subst (λ (r : Row). HasTag r.tag es) is (s, text)
row_has_tag p es row (kept_as c s there text none kept is) = subst (λ (r : Row). HasTag r.tag es) is (s, text)

no_twice_in : (others : List (List ℕ)) (s : List ℕ) (cs : List parts.Case) (ds : List Field) → found_in s cs ≡ Some ds → list_any (has_twice_in others) cs ≡ false → has_twice (keys_of ds ++ others) ≡ false
no_twice_in others s =
    found_has s (λ cs ds. list_any (has_twice_in others) cs ≡ false → has_twice (keys_of ds ++ others) ≡ false)
    (λ c cs h. first_false (has_twice_in others c) (list_any (has_twice_in others) cs) h)
    (λ c cs ds rest h. rest (second_false (has_twice_in others c) (list_any (has_twice_in others) cs) h))

pub row_is_row : (f : Family) (p : RecordParts) (es : Entries) (row : Row) → IsPart f (record_of p) → RecordKept p → RowCase p es row → IsRow f row
row_is_row f p es row part kept (untagged none is) =
    let distinct : is_twice_named p.fields p.choice ≡ false = kept.0.distinct in
    let once : has_twice (keys_of p.fields) ≡ false = subst (λ o. is_twice_named p.fields o ≡ false) none distinct in
    subst (IsRow f) is (record { fields = common_part f p part; cased = λ n q V e. absurd cc; apart = once })
row_is_row f p es row part kept (tagged_as c s ds there text found' is) =
    let distinct : is_twice_named p.fields (Some c) ≡ false = subst (λ o. is_twice_named p.fields o ≡ false) there kept.0.distinct in
    let inside = split_or (has_twice (c.0 ∷ keys_of p.fields)) (is_twice_in (c.0 ∷ keys_of p.fields) c.1) distinct in
    let any = split_or (list_any (has_twice_in (c.0 ∷ keys_of p.fields)) c.1) (has_twice (keys_of c.1)) inside.1 in
    subst (IsRow f) is (record {
      fields = common_part f p part;
      cased = cased_part f p part c there s ds found';
      apart = no_twice_in (c.0 ∷ keys_of p.fields) s c.1 ds found' any.0;
    })
row_is_row f p es row part kept (kept_as c s there text none keeps is) =
    let distinct : is_twice_named p.fields (Some c) ≡ false = subst (λ o. is_twice_named p.fields o ≡ false) there kept.0.distinct in
    let inside = split_or (has_twice (c.0 ∷ keys_of p.fields)) (is_twice_in (c.0 ∷ keys_of p.fields) c.1) distinct in
    subst (IsRow f) is (record { fields = common_part f p part; cased = λ n q V e. absurd cc; apart = inside.0 })

-- what is wrong in the map
wrong_same : (v w : List ℕ → Plain → Option Place) → ((n : List ℕ) (t : Plain) → v n t ≡ w n t) → (es : Entries) → wrong_entry v es ≡ wrong_entry w es
wrong_same v w h [] = refl
wrong_same v w h (e ∷ es) = λ i. at_name e.0 (h e.0 e.1 i) (wrong_same v w h es i)

sooner_last : (a : Wrong) → sooner a None ≡ a
sooner_last None = refl
sooner_last (Some a) = refl

module _ (form : Form) (w : List ℕ → Plain → Option Place) (r : Rest) (n : List ℕ) (t : Plain) where
  -- a name among fields, or elsewhere
  among : (fs : List Field) (b : Belongs) (other : List ℕ → Plain → Option Place) → other n t ≡ wrong_as form w r b t → wrong_fields form w (fields_of fs) other n t ≡ wrong_as form w r (in_fields (under n fs) b) t
  among fs b other h = told_by_name n (λ o. wrong_as form w r (in_fields o b) t) (λ gs. wrong_fields form w (fields_of gs) other n t) h (λ e es. refl) fs

  in_cases : (ds : List Field) → wrong_fields form w (fields_of ds) (λ m u. unless (is_open r)) n t ≡ wrong_as form w r (in_case (under n ds)) t
  in_cases = told_by_name n (λ o. wrong_as form w r (in_case o) t) (λ gs. wrong_fields form w (fields_of gs) (λ m u. unless (is_open r)) n t) refl (λ e es. refl)

  at_tag : (tag : List ℕ) (b : Bool) (x : Option Place) (c : Belongs) → x ≡ wrong_as form w r c t → (if b then None else x) ≡ wrong_as form w r (if b then tagged else c) t
  at_tag tag true x c h = refl
  at_tag tag false x c h = h

abbrev wrong_pairs : Family → RecordParts → Entries → Option Place
wrong_pairs f p es =
    wrong_map (fields_of p.fields) (choice_of p.choice) es (wrong_entry (wrong_choice f.form (place f) (choice_of p.choice) (wrong_fields f.form (place f) (fields_of p.fields)) p.rest es) es)

abbrev with_choice_of : Family → RecordParts → Option parts.Cases → Entries → Option Place
with_choice_of f p o es =
    wrong_map (fields_of p.fields) (choice_of o) es (wrong_entry (wrong_choice f.form (place f) (choice_of o) (wrong_fields f.form (place f) (fields_of p.fields)) p.rest es) es)

module _ (f : Family) (p : RecordParts) (es : Entries) where
  in_untagged : with_choice_of f p None es ≡ wrong_row f (record { fields = p.fields; tag = None; cased = []; rest = p.rest }) es
  in_untagged =
      let each : wrong_entry (wrong_choice f.form (place f) (choice_of None) (wrong_fields f.form (place f) (fields_of p.fields)) p.rest es) es ≡ wrong_entry (wrong_pair f (record { fields = p.fields; tag = None; cased = []; rest = p.rest })) es =
      wrong_same (wrong_choice f.form (place f) (choice_of None) (wrong_fields f.form (place f) (fields_of p.fields)) p.rest es) (wrong_pair f (record { fields = p.fields; tag = None; cased = []; rest = p.rest }))
      (λ n t. among f.form (place f) p.rest n t p.fields unknown (λ m u. unless (is_open p.rest)) refl) es in
      λ i. place_under (sooner (each i) (sym (sooner_last (missing (fields_of p.fields) es)) i))

  -- the pairs of a map whose tag is a text
  tagged_pairs : (c : parts.Cases) (ds : List Field) (r : Rest)
      → ((n : List ℕ) (t : Plain) → wrong_fields f.form (place f) (fields_of p.fields) (wrong_cases f.form (place f) c.0 (cases_of c.1) p.rest es) n t ≡ wrong_as f.form (place f) r (in_fields (under n p.fields) (in_case (under n ds))) t)
      → wrong_entry (wrong_choice f.form (place f) (choice_of (Some c)) (wrong_fields f.form (place f) (fields_of p.fields)) p.rest es) es ≡ wrong_entry (wrong_pair f (record { fields = p.fields; tag = Some c.0; cased = ds; rest = r })) es
  tagged_pairs c ds r each =
      wrong_same (wrong_choice f.form (place f) (choice_of (Some c)) (wrong_fields f.form (place f) (fields_of p.fields)) p.rest es) (wrong_pair f (record { fields = p.fields; tag = Some c.0; cased = ds; rest = r }))
      (λ n t. at_tag f.form (place f) r n t c.0 (same_name n c.0) (wrong_fields f.form (place f) (fields_of p.fields) (wrong_cases f.form (place f) c.0 (cases_of c.1) p.rest es) n t) (in_fields (under n p.fields) (in_case (under n ds)))
      (each n t)) es

  in_tagged : (c : parts.Cases) (s : List ℕ) (ds : List Field) → under c.0 es ≡ Some (plain.text s) → found_in s c.1 ≡ Some ds → with_choice_of f p (Some c) es ≡ wrong_row f (record { fields = p.fields; tag = Some c.0; cased = ds; rest = p.rest }) es
  in_tagged c s ds text e =
      let each = tagged_pairs c ds p.rest
      (λ n t. among f.form (place f) p.rest n t p.fields (in_case (under n ds)) (wrong_cases f.form (place f) c.0 (cases_of c.1) p.rest es) (wrong_told c.0 s es text f.form (place f) p.rest n t c.1 ∙ ap (wrong_of c.0 s es text f.form (place f) p.rest n t) e ∙ in_cases f.form (place f) p.rest n t ds)) in
      wrong_if_tagged (fields_of p.fields) c.0 (cases_of c.1) c.2 es _ (left_or _ _ (literal_told c.0 s es text c.1 ∙ ap is_some e))
      ∙ (λ i. place_under (sooner (each i) (sooner (missing (fields_of p.fields) es) ((missing_told c.0 s es text c.1 ∙ ap (missing_of c.0 s es text) e) i))))

  -- where the tag is kept, other names are right
  in_kept : (c : parts.Cases) (s : List ℕ) → under c.0 es ≡ Some (plain.text s) → found_in s c.1 ≡ None → c.2 ≡ true → with_choice_of f p (Some c) es ≡ wrong_row f (record { fields = p.fields; tag = Some c.0; cased = []; rest = Open }) es
  in_kept c s text e kept =
      let each = tagged_pairs c [] Open
      (λ n t. among f.form (place f) Open n t p.fields unknown (wrong_cases f.form (place f) c.0 (cases_of c.1) p.rest es) (wrong_told c.0 s es text f.form (place f) p.rest n t c.1 ∙ ap (wrong_of c.0 s es text f.form (place f) p.rest n t) e)) in
      wrong_if_tagged (fields_of p.fields) c.0 (cases_of c.1) c.2 es _ (right_or _ _ (kept_text c.0 s c.2 text kept))
      ∙ (λ i. place_under (sooner (each i) (sooner (missing (fields_of p.fields) es) ((missing_told c.0 s es text c.1 ∙ ap (missing_of c.0 s es text) e) i))))
    where
      kept_text : (tag l : List ℕ) (b : Bool) → under tag es ≡ Some (plain.text l) → b ≡ true → (b && has_text tag es) ≡ true
      kept_text tag l b is k = λ i. k i && is_some_text (is i)

  pub wrong_as_row : (row : Row) → RowCase p es row → wrong_part f (record_of p) (plain.map (pairs_of es)) ≡ wrong_row f row es
  wrong_as_row row (untagged none is) = ap (wrong_pairs f p) (entries_of_pairs es) ∙ ap (λ o. with_choice_of f p o es) none ∙ in_untagged ∙ ap (λ r. wrong_row f r es) is
  wrong_as_row row (tagged_as c s ds there text e is) = ap (wrong_pairs f p) (entries_of_pairs es) ∙ ap (λ o. with_choice_of f p o es) there ∙ in_tagged c s ds text e ∙ ap (λ r. wrong_row f r es) is
  wrong_as_row row (kept_as c s there text none kept is) = ap (wrong_pairs f p) (entries_of_pairs es) ∙ ap (λ o. with_choice_of f p o es) there ∙ in_kept c s text none kept ∙ ap (λ r. wrong_row f r es) is

  -- where the tag is no literal, nor another text that is kept
  no_text : (c : parts.Cases) (o : Option Plain) → under c.0 es ≡ o → p.choice ≡ Some c → with_tag p c.0 c.2 o ≡ None → is_tagged c.0 (cases_of c.1) c.2 es ≡ false
  no_text c (Some (plain.text s)) h is e =
      let none = no_case c.2 (found_case s p.choice) e in
      both_false _ _ (literal_told c.0 s es h c.1 ∙ ap is_some (sym (ap (found_case s) is) ∙ none.0)) (ap (λ b. b && has_text c.0 es) none.1)
    where
      no_case : (kept : Bool) (o : Option (List Field)) → with_case p c.0 kept o ≡ None → (o ≡ None) × (kept ≡ false)
      no_case kept (Some ds) k = absurd cc
      no_case true None k = absurd cc
      no_case false None k = (refl, refl)
  no_text c o h is e = both_false _ _ (no_literal c.0 (cases_of c.1) es (λ l. ap (is_text l) h)) (no_kept c.2 (ap is_some_text h))
    where
      no_kept : (kept : Bool) → has_text c.0 es ≡ false → (kept && has_text c.0 es) ≡ false
      no_kept true k = k
      no_kept false k = refl

  pub wrong_at_tag : row_of p es ≡ None → wrong_part f (record_of p) (plain.map (pairs_of es)) ≡ tag_place p.choice
  wrong_at_tag e = ap (wrong_pairs f p) (entries_of_pairs es) ∙ by p.choice refl e
    where
      by : (o : Option parts.Cases) → p.choice ≡ o → with_choice p o es ≡ None → wrong_pairs f p es ≡ tag_place p.choice
      by None is k = absurd cc
      by (Some c) is k = ap (λ o. with_choice_of f p o es) is ∙ wrong_if_not_tagged (fields_of p.fields) c.0 (cases_of c.1) c.2 es _ (no_text c (under c.0 es) refl is k) ∙ ap tag_place (sym is)
