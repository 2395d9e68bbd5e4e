use Rattle.std.proofs.Common.{◌≡◌, ◌+◌, ◌*◌, ◌++◌, map, drop}
use Rattle.mig_syntax.specs.TemplateSyntax.{template_size, field_list_size, choice_size, cases_size, cases_of_tag_size, fields_of, cases_of, choice_of}
use Rattle.mig_syntax.specs.TemplateView as text
use Rattle.mig_template.specs.View as values
use Rattle.mig_resolve_template.specs.Templates.{given_fields, given_cases, fields_are_twice, cases_are_twice}
use Rattle.mig_resolve_template.proofs.templates.+resolving.Given as goal

abbrev pub invariant-fields-loop-field : goal.invariant-fields-loop-field
invariant-fields-loop-field l =
    (map values.field_of l.list.items ++ given_fields (fields_of (map text.field_of (drop l.field-index l.fields))) ≡ given_fields (fields_of (map text.field_of l.fields)))
    × (fields_are_twice (fields_of (map text.field_of (drop l.field-index l.fields))) ≡ fields_are_twice (fields_of (map text.field_of l.fields)))

abbrev pub invariant-given_cases-loop-case : goal.invariant-given_cases-loop-case
invariant-given_cases-loop-case l =
    (map values.given_case l.list.items ++ given_cases (cases_of (map text.case_of (drop l.case-index l.cases))) ≡ given_cases (cases_of (map text.case_of l.cases)))
    × (cases_are_twice (cases_of (map text.case_of (drop l.case-index l.cases))) ≡ cases_are_twice (cases_of (map text.case_of l.cases)))

abbrev pub decreases-template : goal.decreases-template
decreases-template l = 4 * template_size (text.template_of l.template.now)

abbrev pub decreases-given_field : goal.decreases-given_field
decreases-given_field l = 4 * template_size (text.template_of l.field.now.template) + 1

abbrev pub decreases-fields : goal.decreases-fields
decreases-fields l = 4 * field_list_size (map text.field_of l.fields.now) + 2

abbrev pub decreases-record_template : goal.decreases-record_template
decreases-record_template l = 4 * (field_list_size l.record.now.fields + choice_size (choice_of l.record.now.choice)) + 3

abbrev pub decreases-given_choice : goal.decreases-given_choice
decreases-given_choice l = 4 * cases_of_tag_size l.choice.now

abbrev pub decreases-given_cases : goal.decreases-given_cases
decreases-given_cases l = 4 * cases_size (cases_of (map text.case_of l.cases.now)) + 2
