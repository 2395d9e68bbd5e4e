-- A template nests no deeper than its syntax is large.
use Rattle.std.specs.Prelude.{◌≤◌, List, [], ◌∷◌, map}
use Rattle.std.proofs.Common.{arith}
use denote.Param.Weighed.{most}
use Rattle.mig_syntax.specs.declared.template.TemplateText.{TemplateText}
use Rattle.mig_syntax.specs.declared.template.TemplateText.TheVariants as V
use Rattle.mig_syntax.specs.declared.template.FieldText.{FieldText}
use Rattle.mig_syntax.specs.declared.template.CaseText.{CaseText}
use Rattle.mig_syntax.specs.declared.template.ChoiceText.TheDeep.{deep-TemplateText, deep-FieldText, deep-CaseText}
use Rattle.mig_syntax.specs.TemplateSyntax.{template_size, field_list_size, cases_size, cases_of}
use Rattle.mig_syntax.specs.TemplateView.{template_of, field_of, case_of}

pub depth_template : (t : TemplateText) → deep-TemplateText t ≤ template_size (template_of t)
depth_template (V.List t) = omega arith
depth_template (V.Rec r) = grind arith
depth_template (V.Sum s t) = omega arith
depth_template t = omega arith

pub depth_fields : (fs : List FieldText) → most deep-FieldText fs ≤ field_list_size (map field_of fs)
depth_fields [] = omega arith
depth_fields (f ∷ fs) = omega (arith, depth_template f.template, depth_fields fs)

pub depth_cases : (cs : List CaseText) → most deep-CaseText cs ≤ cases_size (cases_of (map case_of cs))
depth_cases [] = omega arith
depth_cases (c ∷ cs) = omega (arith, depth_cases cs)
