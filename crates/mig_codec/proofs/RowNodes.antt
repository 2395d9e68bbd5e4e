-- The counted nodes of a map at a record, by where each name belongs.
use Rattle.std.proofs.Common.{◌≡◌, ℕ, ◌+◌, List, [], ◌∷◌, Bool, true, false, Option, Some, None, refl, ap, ap₂, ◌∙◌}
use Rattle.std.specs.Prelude.{if◌then◌else◌}
use Rattle.mig_model.specs.declared.form.Form.{Form}
use Rattle.mig_model.specs.declared.rest.Rest.{Rest}
use Rattle.mig_model.specs.declared.rest.Rest.TheVariants.{Open}
use Rattle.mig_model.specs.Plain as plain
use Rattle.mig_model.specs.Plain.{Plain, pairs_of}
use Rattle.mig_model.specs.Kinds.{entries_of_pairs}
use Rattle.mig_model.specs.Names.{under, same_name}
use Rattle.mig_model.specs.Inhabits.{Entries}
use Rattle.mig_model.specs.Family.{Family}
use Rattle.mig_model.specs.Fields.{find_field}
use Rattle.mig_model.specs.Template.{Field, Fields, no_field, field, fields_of, cases_of}
use Rattle.mig_model.specs.Record as parts
use Rattle.mig_model.specs.Record.{RecordParts, choice_of, record_of}
use Rattle.mig_laws.proofs.Reading.{tag_is}
use Rattle.mig_laws.proofs.Named.{told_by_name}
use Rattle.mig_value.specs.Nodes.{Test, count, tree_nodes, sum_entries, tally, tally_fields, tally_choice, tally_cases}
use Rattle.mig_codec.specs.Parted.{nodes_as, pair_nodes}
use Rattle.mig_codec.specs.Reading.{part_nodes}
use Rattle.mig_row.specs.Row.{Row, Belongs, tagged, unknown, in_case, in_fields}
use Rattle.mig_codec.proofs.RowOf.{RowCase, untagged, tagged_as, kept_as}
use Rattle.mig_codec.proofs.PartsOf.{found_in}
use Rattle.mig_codec.proofs.Tally.{Count}

pub other_tally : (form : Form) (h : Count) (fs : Fields) (n : List ℕ) → find_field n fs ≡ None → (others : Count) (t : Plain) → tally_fields form h fs others n t ≡ others n t
other_tally form h no_field n e others t = refl
other_tally form h (field x p V fs) n e others t = by (same_name n x) e (λ k. other_tally form h fs n k others t)
  where
    by : (b : Bool) → (if b then Some (p, V) else find_field n fs) ≡ None → (find_field n fs ≡ None → tally_fields form h fs others n t ≡ others n t)
        → (if b then tally form h V t else tally_fields form h fs others n t) ≡ others n t
    by true k rest = absurd cc
    by false k rest = rest k

abbrev at_points : Family → Test → Count
at_points f q m u = count (q m) + tree_nodes f q m u

module _ (f : Family) (q : Test) (n : List ℕ) (t : Plain) where
  -- a name among fields, or elsewhere
  among : (fs : List Field) (b : Belongs) (others : Count) → others n t ≡ nodes_as f q b t → tally_fields f.form (at_points f q) (fields_of fs) others n t ≡ nodes_as f q (in_fields (under n fs) b) t
  among fs b others h = told_by_name n (λ o. nodes_as f q (in_fields o b) t) (λ gs. tally_fields f.form (at_points f q) (fields_of gs) others n t) h (λ e es. refl) fs

  in_cases : (ds : List Field) → tally_fields f.form (at_points f q) (fields_of ds) (λ m u. 0) n t ≡ nodes_as f q (in_case (under n ds)) t
  in_cases = told_by_name n (λ o. nodes_as f q (in_case o) t) (λ gs. tally_fields f.form (at_points f q) (fields_of gs) (λ m u. 0) n t) refl (λ e es. refl)

  -- in a map whose tag is the text s
  module _ (tag s : List ℕ) (es : Entries) (is : under tag es ≡ Some (plain.text s)) where
    abbrev case_nodes : Option (List Field) → ℕ
    case_nodes None = 0
    case_nodes (Some ds) = tally_fields f.form (at_points f q) (fields_of ds) (λ m u. 0) n t

    case_tally : (cs : List parts.Case) → tally_cases f.form (at_points f q) tag (cases_of cs) es n t ≡ case_nodes (found_in s cs)
    case_tally = told_by_name s case_nodes (λ cs. tally_cases f.form (at_points f q) tag (cases_of cs) es n t) refl (λ c cs. ap (λ b. if b then case_nodes (Some c.1) else tally_cases f.form (at_points f q) tag (cases_of cs) es n t) (tag_is tag s es is c.0))

  at_tag : (b : Bool) (x : ℕ) (c : Belongs) → x ≡ nodes_as f q c t → (if b then 0 else x) ≡ nodes_as f q (if b then tagged else c) t
  at_tag true x c h = refl
  at_tag false x c h = h

sums_same : (h g : Count) → ((n : List ℕ) (t : Plain) → h n t ≡ g n t) → (es : Entries) → sum_entries h es ≡ sum_entries g es
sums_same h g e [] = refl
sums_same h g e (x ∷ es) = ap₂ ◌+◌ (e x.0 x.1) (sums_same h g e es)

module _ (f : Family) (q : Test) (p : RecordParts) (es : Entries) where
  abbrev with_choice_of : Option parts.Cases → Entries → ℕ
  with_choice_of o xs = sum_entries (tally_choice f.form (at_points f q) (choice_of o) (tally_fields f.form (at_points f q) (fields_of p.fields)) xs) xs

  abbrev row_sum : Row → ℕ
  row_sum row = sum_entries (pair_nodes f q row) es

  in_untagged : with_choice_of None es ≡ row_sum (record { fields = p.fields; tag = None; cased = []; rest = p.rest })
  in_untagged =
      sums_same (tally_choice f.form (at_points f q) (choice_of None) (tally_fields f.form (at_points f q) (fields_of p.fields)) es) (pair_nodes f q (record { fields = p.fields; tag = None; cased = []; rest = p.rest }))
      (λ n t. among f q n t p.fields unknown (λ m u. 0) refl) es

  in_tagged : (c : parts.Cases) (ds : List Field) (r : Rest) → ((n : List ℕ) (t : Plain) → tally_cases f.form (at_points f q) c.0 (cases_of c.1) es n t ≡ nodes_as f q (in_case (under n ds)) t)
      → with_choice_of (Some c) es ≡ row_sum (record { fields = p.fields; tag = Some c.0; cased = ds; rest = r })
  in_tagged c ds r each =
      sums_same (tally_choice f.form (at_points f q) (choice_of (Some c)) (tally_fields f.form (at_points f q) (fields_of p.fields)) es) (pair_nodes f q (record { fields = p.fields; tag = Some c.0; cased = ds; rest = r }))
      (λ n t. at_tag f q n t (same_name n c.0) (tally_fields f.form (at_points f q) (fields_of p.fields) (tally_cases f.form (at_points f q) c.0 (cases_of c.1) es) n t) (in_fields (under n p.fields) (in_case (under n ds)))
      (among f q n t p.fields (in_case (under n ds)) (tally_cases f.form (at_points f q) c.0 (cases_of c.1) es) (each n t))) es

  by_case : (row : Row) → RowCase p es row → with_choice_of p.choice es ≡ row_sum row
  by_case row (untagged none is) = ap (λ o. with_choice_of o es) none ∙ in_untagged ∙ ap row_sum is
  by_case row (tagged_as c s ds there text e is) =
      ap (λ o. with_choice_of o es) there
      ∙ in_tagged c ds p.rest (λ n t. case_tally f q n t c.0 s es text c.1 ∙ ap (case_nodes f q n t c.0 s es text) e ∙ in_cases f q n t ds)
      ∙ ap row_sum is
  by_case row (kept_as c s there text e kept is) =
      ap (λ o. with_choice_of o es) there
      ∙ in_tagged c [] Open (λ n t. case_tally f q n t c.0 s es text c.1 ∙ ap (case_nodes f q n t c.0 s es text) e)
      ∙ ap row_sum is

  pub row_nodes : (row : Row) → RowCase p es row → part_nodes f q (record_of p) (plain.map (pairs_of es)) ≡ row_sum row
  row_nodes row c = ap (with_choice_of p.choice) (entries_of_pairs es) ∙ by_case row c
