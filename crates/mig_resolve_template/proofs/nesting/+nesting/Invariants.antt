use Rattle.std.proofs.Common.{◌≡◌, ◌+◌, ◌*◌, map, drop}
use Rattle.mig_syntax.specs.TemplateSyntax.{template_size, field_list_size, cases_of_tag_size, fields_of, cases_of}
use Rattle.mig_syntax.specs.TemplateView.{template_of, field_of, case_of}
use Rattle.mig_resolve_template.specs.Templates.{fields_nest_above, cases_nest_above}
use Rattle.mig_resolve_template.proofs.nesting.+nesting.Given as goal

abbrev pub invariant-fields_nest_above-loop-field : goal.invariant-fields_nest_above-loop-field
invariant-fields_nest_above-loop-field l = fields_nest_above l.levels (fields_of (map field_of (drop l.field-index l.fields))) ≡ fields_nest_above l.levels (fields_of (map field_of l.fields))

abbrev pub invariant-choice_nests_above-loop-case : goal.invariant-choice_nests_above-loop-case
invariant-choice_nests_above-loop-case l = cases_nest_above l.levels (cases_of (map case_of (drop l.case-index l.case-items))) ≡ cases_nest_above l.levels (cases_of l.choice.1.0)

abbrev pub decreases-nests_above : goal.decreases-nests_above
decreases-nests_above l = 2 * template_size (template_of l.template.now)

abbrev pub decreases-fields_nest_above : goal.decreases-fields_nest_above
decreases-fields_nest_above l = 2 * field_list_size (map field_of l.fields.now) + 1

abbrev pub decreases-choice_nests_above : goal.decreases-choice_nests_above
decreases-choice_nests_above l = 2 * cases_of_tag_size l.choice.now
