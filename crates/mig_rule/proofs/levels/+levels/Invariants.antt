use Rattle.std.proofs.Common.{◌≡◌, map, drop}
use Rattle.std.specs.Prelude.{max}
use Rattle.mig_model.specs.Family.{fields_nest, cases_nest}
use Rattle.mig_model.specs.Template.{fields_of, cases_of}
use Rattle.mig_template.specs.Size.{template_size, field_list_size, cases_in_size}
use Rattle.mig_template.specs.View.{template_of, field_of, case_of}
use Rattle.mig_rule.proofs.levels.+levels.Given as goal

abbrev pub invariant-levels_of_fields-loop-field : goal.invariant-levels_of_fields-loop-field
invariant-levels_of_fields-loop-field l = max l.most (fields_nest (fields_of (map field_of (drop l.field-index l.field-items)))) ≡ fields_nest (fields_of l.fields)

abbrev pub invariant-levels_of_cases-loop-case : goal.invariant-levels_of_cases-loop-case
invariant-levels_of_cases-loop-case l = max l.most (cases_nest (cases_of (map case_of (drop l.case-index l.case-items)))) ≡ cases_nest (cases_of l.choice.1)

abbrev pub decreases-levels : goal.decreases-levels
decreases-levels l = template_size (template_of l.template.now)

abbrev pub decreases-levels_of_fields : goal.decreases-levels_of_fields
decreases-levels_of_fields l = field_list_size l.fields.now

abbrev pub decreases-levels_of_cases : goal.decreases-levels_of_cases
decreases-levels_of_cases l = cases_in_size l.choice.now
