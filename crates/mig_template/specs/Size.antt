-- How large a template is: how many templates, records, fields and cases there are in it at all depths.
use Rattle.std.specs.Prelude.{ℕ, suc, ◌+◌, List}
use Rattle.mig_model.specs.Template.{Template, list, rec, sum, Fields, no_field, field, Field, fields_of, Choice, no_choice, choice, Cases, no_case, case, cases_of}
use Rattle.mig_model.specs.Record as parts
use Rattle.mig_model.specs.Record.{RecordParts, choice_of}

abbrev mutual
  pub template_size : Template → ℕ
  template_size (list V) = suc (template_size V)
  template_size (rec fs c r) = suc (suc (fields_size fs + choice_size c))
  template_size (sum V W) = suc (template_size V + template_size W)
  template_size _ = 1

  pub fields_size : Fields → ℕ
  fields_size no_field = 0
  fields_size (field x p V fs) = suc (template_size V + fields_size fs)

  pub choice_size : Choice → ℕ
  choice_size no_choice = 0
  choice_size (choice tag cs kept) = suc (cases_size cs)

  pub cases_size : Cases → ℕ
  cases_size no_case = 0
  cases_size (case l fs cs) = suc (fields_size fs + cases_size cs)

abbrev pub field_list_size : List Field → ℕ
field_list_size fs = fields_size (fields_of fs)

abbrev pub cases_in_size : parts.Cases → ℕ
cases_in_size c = suc (cases_size (cases_of c.1))

abbrev pub record_size : RecordParts → ℕ
record_size p = suc (field_list_size p.fields + choice_size (choice_of p.choice))
