-- What is inside a template is smaller than the template.
use Rattle.std.specs.Prelude.{◌≤◌, suc, List, [], ◌∷◌, map}
use Rattle.std.proofs.Common.{arith}
use denote.Param.Weighed.{most}
use Rattle.mig_template.specs.declared.template.Template.{Template}
use Rattle.mig_template.specs.declared.template.Template.TheVariants as V
use Rattle.mig_template.specs.declared.fields.Field.{Field}
use Rattle.mig_template.specs.declared.record.Case.{Case}
use Rattle.mig_template.specs.declared.fields.Fields.TheDeep.{deep-Template, deep-Field, deep-Case}
use Rattle.mig_model.specs.Template.{cases_of}
use Rattle.mig_template.specs.Size.{template_size, field_list_size, cases_size}
use Rattle.mig_template.specs.View.{template_of, field_of, case_of}

pub deep_le : (t : Template) → deep-Template t ≤ template_size (template_of t)
deep_le (V.List t) = omega arith
deep_le (V.Rec r) = omega arith
deep_le (V.Sum s t) = omega arith
deep_le t = omega arith

pub most_fields : (fs : List Field) → most deep-Field fs ≤ field_list_size (map field_of fs)
most_fields [] = omega arith
most_fields (f ∷ fs) = omega (arith, deep_le f.template, most_fields fs)

pub most_cases : (cs : List Case) → most deep-Case cs ≤ suc (cases_size (cases_of (map case_of cs)))
most_cases [] = omega arith
most_cases (c ∷ cs) = omega (arith, most_cases cs)
