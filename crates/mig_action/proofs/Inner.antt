-- What is kept inside a record and inside a value, and what is of a form there, name by name.
use Rattle.std.proofs.Common.{◌≡◌, ℕ, List, true, Option, Some, None, ap, ◌∙◌}
use Rattle.std.specs.Prelude.{option_map}
use Rattle.mig_model.specs.declared.form.Form.{Form}
use Rattle.mig_model.specs.declared.presence.Presence.{Presence}
use Rattle.mig_model.specs.Plain.{Plain, pairs_of}
use Rattle.mig_model.specs.Template.{Template, Field, fields_of, cases_of}
use Rattle.mig_model.specs.Inhabits.{Entries, is_in_form, entries_in_form}
use Rattle.mig_model.specs.Record as template
use Rattle.mig_model.specs.Record.{found_case, choice_of}
use Rattle.mig_model.specs.TemplateKept as template_kept
use Rattle.mig_value.specs.Typed.{Typed, Slot, slots_of, out, tag_pair}
use Rattle.mig_value.specs.Parts as value
use Rattle.mig_value.specs.Kept as value_kept
use Rattle.mig_model.specs.Names.{under}
use Rattle.mig_model.proofs.Edits.{first, found_in}
use Rattle.mig_action.proofs.Orders.{pairs_of_record, under_record}
use Rattle.mig_model.proofs.Bools.{split_and}

pub field_kept : (fs : List Field) → template_kept.FieldsKept (fields_of fs) → (x : List ℕ) (f : Presence × Template) → under x fs ≡ Some f → template_kept.TemplateKept f.1
field_kept fs k x f e = found_in (λ l. template_kept.FieldsKept (fields_of l)) (λ n (g : Presence × Template). template_kept.TemplateKept g.1) (λ g l h. h) fs k x f e

in_case : (cs : List template.Case) → template_kept.CasesKept (cases_of cs) → (l : List ℕ) (ds : List Field) → under l cs ≡ Some ds → template_kept.FieldsKept (fields_of ds)
in_case cs k l ds e = found_in (λ l. template_kept.CasesKept (cases_of l)) (λ n es. template_kept.FieldsKept (fields_of es)) (λ c l h. h) cs k l ds e

pub case_kept : (C : Option template.Cases) → template_kept.ChoiceKept (choice_of C) → (l : List ℕ) (ds : List Field) → found_case l C ≡ Some ds → (x : List ℕ) (f : Presence × Template) → under x ds ≡ Some f → template_kept.TemplateKept f.1
case_kept None k l ds e x f h = cc
case_kept (Some c) k l ds e x f h = field_kept ds (in_case c.1 k l ds e) x f h

pub slot_kept : (ss : List Slot) → value_kept.SlotsKept (slots_of ss) → (x : List ℕ) (w : Typed) → under x ss ≡ Some w → value_kept.ValueKept w
slot_kept ss k x w e = found_in (λ (l : List Slot). value_kept.SlotsKept (slots_of l)) (λ n v. value_kept.ValueKept v) (λ s l h. h) ss k x w e

-- ---- forms
pub entry_form : (form : Form) (es : Entries) → entries_in_form form (pairs_of es) ≡ true → (x : List ℕ) (t : Plain) → under x es ≡ Some t → is_in_form form t ≡ true
entry_form form es k x t e =
    found_in (λ l. entries_in_form form (pairs_of l) ≡ true) (λ n u. is_in_form form u ≡ true) (λ p l h. split_and (is_in_form form p.1) (entries_in_form form (pairs_of l)) h) es k x t e

-- the values of the fields have the form of the whole
pub field_form : (form : Form) (v : value.RecordParts) → is_in_form form (out (value.record_of v)) ≡ true → (x : List ℕ) (w : Typed) → under x v.fields ≡ Some w → is_in_form form (out w) ≡ true
field_form form v k x w e =
    entry_form form (pairs_of_record v) k x (out w)
    (under_record v x ∙ ap (λ (S : Option Typed). first (option_map out S) (first (under x (tag_pair v.tag)) (first (option_map out (under x v.cased)) (option_map out (under x v.rest))))) e)

pub cased_form : (form : Form) (v : value.RecordParts) → is_in_form form (out (value.record_of v)) ≡ true → (x : List ℕ) (w : Typed) → under x v.fields ≡ None → under x (tag_pair v.tag) ≡ None → under x v.cased ≡ Some w
    → is_in_form form (out w) ≡ true
cased_form form v k x w f t e =
    entry_form form (pairs_of_record v) k x (out w)
    (under_record v x ∙ (λ i. first (option_map out (f i)) (first (t i) (first (option_map out (e i)) (option_map out (under x v.rest))))))
