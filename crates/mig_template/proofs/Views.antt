-- Plain templates and the lists that they are made of.
use Rattle.std.proofs.Common.{◌≡◌, List, [], ◌∷◌, Option, Some, None, refl, sym, ap, subst, ◌∙◌}
use Rattle.mig_model.specs.declared.rest.Rest.{Rest}
use Rattle.mig_model.specs.declared.rest.Rest.TheVariants.{Open}
use Rattle.mig_model.specs.Template.{Template, rec, Field, Fields, no_field, fields_of, field_list, Choice, no_choice, cases_of, case_list}
use Rattle.mig_model.specs.Record as parts
use Rattle.mig_model.specs.Record.{RecordParts, IsRecord, choice_of, cases_in, record_of}
use Rattle.mig_model.specs.TemplateKept.{TemplateKept, RecordKept}

pub field_list_of : (fs : List Field) → field_list (fields_of fs) ≡ fs
field_list_of [] = refl
field_list_of (f ∷ fs) = ap (λ l. f ∷ l) (field_list_of fs)

pub case_list_of : (cs : List parts.Case) → case_list (cases_of cs) ≡ cs
case_list_of [] = refl
case_list_of (c ∷ cs) = λ i. (c.0, field_list_of c.1 i) ∷ case_list_of cs i

pub cases_in_of : (c : Option parts.Cases) → cases_in (choice_of c) ≡ c
cases_in_of None = refl
cases_in_of (Some c) = ap (λ ds. Some (c.0, ds, c.2)) (case_list_of c.1)

pub record_kept : (p : RecordParts) → RecordKept p → TemplateKept (record_of p)
record_kept p k =
    (subst (λ fs. IsRecord fs (cases_in (choice_of p.choice))) (sym (field_list_of p.fields)) (subst (λ c. IsRecord p.fields c) (sym (cases_in_of p.choice)) k.0), k.1)

abbrev record_fields : Template → Fields
record_fields (rec fs c r) = fs
record_fields V = no_field

abbrev record_choice : Template → Choice
record_choice (rec fs c r) = c
record_choice V = no_choice

abbrev record_rest : Template → Rest
record_rest (rec fs c r) = r
record_rest V = Open

-- records that are equal as templates have equal parts
pub same_parts : (p q : RecordParts) → record_of p ≡ record_of q → p ≡ q
same_parts p q e =
    let both : field_list (fields_of p.fields) ≡ field_list (fields_of q.fields) = ap (λ V. field_list (record_fields V)) e in
    let fields : p.fields ≡ q.fields = sym (field_list_of p.fields) ∙ both ∙ field_list_of q.fields in
    let both_choices : cases_in (choice_of p.choice) ≡ cases_in (choice_of q.choice) = ap (λ V. cases_in (record_choice V)) e in
    let choice : p.choice ≡ q.choice = sym (cases_in_of p.choice) ∙ both_choices ∙ cases_in_of q.choice in
    let rest : p.rest ≡ q.rest = ap record_rest e in
    λ i. record { fields = fields i; choice = choice i; rest = rest i }
