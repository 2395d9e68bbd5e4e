-- What stands at points in a map of a record, counted name by name.
use Rattle.std.proofs.Common.{◌≡◌, ℕ, List, [], Bool, true, false, Option, Some, None, refl, ap, ◌∙◌}
use Rattle.std.specs.Prelude.{unwrap_or, if◌then◌else◌}
use Rattle.mig_model.specs.declared.form.Form.{Form}
use Rattle.mig_model.specs.declared.kind.Kind.TheVariants as K
use Rattle.mig_model.specs.declared.presence.Presence.TheVariants.{Must}
use Rattle.mig_model.specs.Plain as plain
use Rattle.mig_model.specs.Plain.{Plain}
use Rattle.mig_model.specs.Names.{under, same_name}
use Rattle.mig_model.specs.Fields.{if_so}
use Rattle.mig_model.specs.Template.{leaf, Field, fields_of, cases_of}
use Rattle.mig_model.specs.Inhabits.{Entries}
use Rattle.mig_model.specs.Record as template
use Rattle.mig_model.specs.Record.{RecordParts, choice_of}
use Rattle.mig_laws.proofs.Named.{told_by_name}
use Rattle.mig_laws.proofs.Reading.{tag_is}
use Rattle.mig_value.specs.Nodes.{tally, tally_fields, tally_choice, tally_cases, sum_entries}
use Rattle.mig_field.specs.NewRecord.{FieldType}
use Rattle.mig_model.proofs.Edits.{first}
use Rattle.mig_action.proofs.Stands.{case_of}
use Rattle.mig_field_laws.proofs.Places.{tagged, tag_place, place, HasTag}
use Rattle.mig_field_laws.proofs.Sums.{Weight, sum_same}

-- what is counted in a tree there
abbrev pub tally_at : Form → Weight → Option FieldType → Plain → ℕ
tally_at form h None t = 0
tally_at form h (Some s) t = tally form h s.1 t

module _ (form : Form) (h : Weight) (n : List ℕ) (t : Plain) where
  abbrev tally_or : ℕ → Option FieldType → ℕ
  tally_or i None = i
  tally_or i (Some s) = tally form h s.1 t

  fields_told : (o : Weight) (fs : List Field) → tally_fields form h (fields_of fs) o n t ≡ tally_or (o n t) (under n fs)
  fields_told o = told_by_name n (tally_or (o n t)) (λ fs. tally_fields form h (fields_of fs) o n t) refl (λ f fs. refl)

  abbrev tally_case : Option (List Field) → ℕ
  tally_case None = 0
  tally_case (Some ds) = tally_fields form h (fields_of ds) (λ m u. 0) n t

  cases_told : (tag s : List ℕ) (es : Entries) → under tag es ≡ Some (plain.text s) → (cs : List template.Case) → tally_cases form h tag (cases_of cs) es n t ≡ tally_case (under s cs)
  cases_told tag s es is =
      told_by_name s tally_case (λ cs. tally_cases form h tag (cases_of cs) es n t) refl
      (λ c cs. ap (λ b. if b then tally_fields form h (fields_of c.1) (λ m u. 0) n t else tally_cases form h tag (cases_of cs) es n t) (tag_is tag s es is c.0))

  case_is : (C : Option (List Field)) → tally_case C ≡ tally_at form h (under n (unwrap_or C [])) t
  case_is None = refl
  case_is (Some ds) = fields_told (λ m u. 0) ds ∙ by (under n ds)
    where
      by : (F : Option FieldType) → tally_or 0 F ≡ tally_at form h F t
      by None = refl
      by (Some s) = refl

  tallied_by : (p : RecordParts) (s : List ℕ) (es : Entries) → HasTag p.choice s es → tally_choice form h (choice_of p.choice) (tally_fields form h (fields_of p.fields)) es n t ≡ tally_at form h
      (place p s n) t
  tallied_by p s es k = by p.choice k
    where
      joined : (F D : Option FieldType) → tally_or (tally_at form h D t) F ≡ tally_at form h (first F D) t
      joined None D = refl
      joined (Some f) D = refl

      tag_first : (b : Bool) (D : Option FieldType) → (if b then 0 else tally_at form h D t) ≡ tally_at form h (first (if_so b (Must, leaf K.Text)) D) t
      tag_first true D = refl
      tag_first false D = refl

      by : (c : Option template.Cases) → HasTag c s es → tally_choice form h (choice_of c) (tally_fields form h (fields_of p.fields)) es n t ≡ tally_at form h
          (first (tag_place c n) (first (under n p.fields) (under n (case_of c (tagged s))))) t
      by None k = fields_told (λ m u. 0) p.fields ∙ joined (under n p.fields) None
      by (Some c) k =
          ap (λ i. if same_name n c.0 then 0 else i)
          (fields_told (tally_cases form h c.0 (cases_of c.1) es) p.fields ∙
          (ap (λ i. tally_or i (under n p.fields)) (cases_told c.0 s es k c.1 ∙ case_is (under s c.1)) ∙ joined (under n p.fields) (under n (case_of (Some c) (tagged s)))))
          ∙ tag_first (same_name n c.0) (first (under n p.fields) (under n (case_of (Some c) (tagged s))))

-- the trees at points of a whole map
abbrev pub tallied : Form → Weight → RecordParts → Entries → ℕ
tallied form h p es = sum_entries (tally_choice form h (choice_of p.choice) (tally_fields form h (fields_of p.fields)) es) es

abbrev pub weighed : Form → Weight → RecordParts → List ℕ → Entries → ℕ
weighed form h p s es = sum_entries (λ n. tally_at form h (place p s n)) es

pub tallied_is : (form : Form) (h : Weight) (p : RecordParts) (s : List ℕ) (es : Entries) → HasTag p.choice s es → tallied form h p es ≡ weighed form h p s es
tallied_is form h p s es k = sum_same (tally_choice form h (choice_of p.choice) (tally_fields form h (fields_of p.fields)) es) (λ n. tally_at form h (place p s n))
    (λ n t. tallied_by form h n t p s es k) es
