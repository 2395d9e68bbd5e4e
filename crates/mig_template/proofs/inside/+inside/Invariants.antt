use Rattle.std.proofs.Common.{◌≡◌, map, drop}
use Rattle.mig_model.specs.Family.{any_in_fields, any_in_cases}
use Rattle.mig_model.specs.Template.{fields_of, cases_of}
use Rattle.mig_template.specs.Size.{template_size, field_list_size, cases_in_size}
use Rattle.mig_template.specs.View.{template_of, field_of, case_of}
use Rattle.mig_template.proofs.inside.+inside.Given as goal

abbrev pub invariant-passes_in_fields-loop-field : goal.invariant-passes_in_fields-loop-field
invariant-passes_in_fields-loop-field g l = any_in_fields (g.T.TemplateTest.passes l.test) (fields_of (map field_of (drop l.field-index l.field-items))) ≡ any_in_fields (g.T.TemplateTest.passes l.test) (fields_of l.fields)

abbrev pub invariant-passes_in_choice-loop-case : goal.invariant-passes_in_choice-loop-case
invariant-passes_in_choice-loop-case g l = any_in_cases (g.T.TemplateTest.passes l.test) (cases_of (map case_of (drop l.case-index l.case-items))) ≡ any_in_cases (g.T.TemplateTest.passes l.test) (cases_of l.choice.1)

abbrev pub decreases-passes_inside : goal.decreases-passes_inside
decreases-passes_inside g l = template_size (template_of l.template.now)

abbrev pub decreases-passes_in_fields : goal.decreases-passes_in_fields
decreases-passes_in_fields g l = field_list_size l.fields.now

abbrev pub decreases-passes_in_choice : goal.decreases-passes_in_choice
decreases-passes_in_choice g l = cases_in_size l.choice.now
