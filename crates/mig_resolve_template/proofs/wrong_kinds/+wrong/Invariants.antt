use Rattle.std.proofs.Common.{◌≡◌, ◌+◌, ◌*◌, map, drop}
use Rattle.mig_syntax.specs.TemplateSyntax.{template_size, field_list_size, cases_of_tag_size, fields_of, cases_of}
use Rattle.mig_syntax.specs.TemplateView.{template_of, field_of, case_of}
use Rattle.mig_resolve_template.specs.Templates.{fields_are_wrong, cases_are_wrong}
use Rattle.mig_resolve_template.proofs.wrong_kinds.+wrong.Given as goal

abbrev pub invariant-fields_are_wrong-loop-field : goal.invariant-fields_are_wrong-loop-field
invariant-fields_are_wrong-loop-field l = fields_are_wrong l.form (fields_of (map field_of (drop l.field-index l.fields))) ≡ fields_are_wrong l.form (fields_of (map field_of l.fields))

abbrev pub invariant-choice_is_wrong-loop-case : goal.invariant-choice_is_wrong-loop-case
invariant-choice_is_wrong-loop-case l = cases_are_wrong l.form (cases_of (map case_of (drop l.case-index l.case-items))) ≡ cases_are_wrong l.form (cases_of l.choice.1.0)

abbrev pub decreases-template_is_wrong : goal.decreases-template_is_wrong
decreases-template_is_wrong l = 2 * template_size (template_of l.template.now)

abbrev pub decreases-fields_are_wrong : goal.decreases-fields_are_wrong
decreases-fields_are_wrong l = 2 * field_list_size (map field_of l.fields.now) + 1

abbrev pub decreases-choice_is_wrong : goal.decreases-choice_is_wrong
decreases-choice_is_wrong l = 2 * cases_of_tag_size l.choice.now
