use Rattle.std.proofs.Common.{◌≡◌, map, drop, nat_lt}
use Rattle.mig_model.specs.Family.{fields_nest, cases_nest}
use Rattle.mig_model.specs.Template.{fields_of, cases_of}
use Rattle.mig_template.specs.Size.{template_size, field_list_size, cases_in_size}
use Rattle.mig_template.specs.View.{template_of, field_of, case_of}
use Rattle.mig_schema.proofs.depth.+depth.Given as goal

abbrev pub invariant-is_any_field_deeper-loop-field : goal.invariant-is_any_field_deeper-loop-field
invariant-is_any_field_deeper-loop-field l = nat_lt l.room (fields_nest (fields_of (map field_of (drop l.field-index l.field-items)))) ≡ nat_lt l.room (fields_nest (fields_of l.fields))

abbrev pub invariant-is_any_case_deeper-loop-case : goal.invariant-is_any_case_deeper-loop-case
invariant-is_any_case_deeper-loop-case l = nat_lt l.room (cases_nest (cases_of (map case_of (drop l.case-index l.case-items)))) ≡ nat_lt l.room (cases_nest (cases_of l.choice.1))

abbrev pub decreases-is_deeper : goal.decreases-is_deeper
decreases-is_deeper l = template_size (template_of l.template.now)

abbrev pub decreases-is_any_field_deeper : goal.decreases-is_any_field_deeper
decreases-is_any_field_deeper l = field_list_size l.fields.now

abbrev pub decreases-is_any_case_deeper : goal.decreases-is_any_case_deeper
decreases-is_any_case_deeper l = cases_in_size l.choice.now
