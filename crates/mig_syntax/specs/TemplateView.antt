-- The syntax that a template has, wherever its boxes and lists lie in memory.
use Rattle.mig_syntax.specs.TemplateSyntax as syntax
use Rattle.mig_syntax.specs.TemplateSyntax.{TemplateSyntax, FieldSyntax, CaseSyntax, fields_of, choice_of}
use Rattle.mig_syntax.specs.declared.template.TemplateText.{TemplateText}
use Rattle.mig_syntax.specs.declared.template.TemplateText.TheVariants as V
use Rattle.mig_syntax.specs.declared.template.FieldText.{FieldText}
use Rattle.mig_syntax.specs.declared.template.CaseText.{CaseText}

abbrev pub template_of : TemplateText → TemplateSyntax
template_of (V.Leaf k) = syntax.leaf k
template_of V.Any = syntax.any
template_of (V.List t) = syntax.list t
template_of (V.Rec r) = syntax.record_of (fields_of r.fields) (choice_of r.choice) r.dots
template_of (V.Point n) = syntax.point n
template_of (V.Sum s t) = syntax.sum s t

abbrev pub field_of : FieldText → FieldSyntax
field_of f = (f.name, (f.may, template_of f.template))

abbrev pub case_of : CaseText → CaseSyntax
case_of c = (c.literal, c.fields)
