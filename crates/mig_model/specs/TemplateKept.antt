-- What a template keeps at every depth: the parts of each record in it are those of a record.
use Rattle.std.specs.Prelude.{List}
use Rattle.mig_model.specs.Template.{Template, leaf, any, list, point, rec, sum, Fields, no_field, field, Field, fields_of, field_list, Choice, no_choice, choice, Cases, no_case, case}
use Rattle.mig_model.specs.Names.{Ascends}
use Rattle.mig_model.specs.Record.{RecordParts, IsRecord, cases_in, choice_of}

abbrev mutual
  pub TemplateKept : Template → Type 0
  TemplateKept (leaf k) = Unit {0}
  TemplateKept any = Unit {0}
  TemplateKept (list V) = TemplateKept V
  TemplateKept (point n) = Unit {0}
  TemplateKept (rec fs c r) = IsRecord (field_list fs) (cases_in c) × (FieldsKept fs × ChoiceKept c)
  TemplateKept (sum V W) = TemplateKept V × TemplateKept W

  pub FieldsKept : Fields → Type 0
  FieldsKept no_field = Unit {0}
  FieldsKept (field x p V fs) = TemplateKept V × FieldsKept fs

  pub ChoiceKept : Choice → Type 0
  ChoiceKept no_choice = Unit {0}
  ChoiceKept (choice tag cs kept) = CasesKept cs

  pub CasesKept : Cases → Type 0
  CasesKept no_case = Unit {0}
  CasesKept (case l fs cs) = FieldsKept fs × CasesKept cs

-- the fields of one record or case
abbrev pub FieldListKept : List Field → Type 0
FieldListKept fs = Ascends fs × FieldsKept (fields_of fs)

-- one record
abbrev pub RecordKept : RecordParts → Type 0
RecordKept p = IsRecord p.fields p.choice × (FieldsKept (fields_of p.fields) × ChoiceKept (choice_of p.choice))
