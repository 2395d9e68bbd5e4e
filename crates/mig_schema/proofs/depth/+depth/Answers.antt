use Rattle.std.proofs.Common.{ap, arith}
use Rattle.mig_model.specs.Template.{cases_of}
use Rattle.mig_template.specs.Size.{field_list_size, cases_size}
use Rattle.mig_template.proofs.Smaller.{field_smaller, case_smaller}
use Rattle.mig_schema.proofs.depth.+depth.Goals as goal

pub is_any_field_deeper-is_deeper-requires : goal.is_any_field_deeper-is_deeper-requires
is_any_field_deeper-is_deeper-requires t c =
    (omega (arith, field_smaller c.as_slice-field-items.result.now c.loop-field.field-index c.field-item.result c.loop-field-test.true c.field-item.is, ap field_list_size c.as_slice-field-items.ensures.fields), tt)

pub is_any_case_deeper-is_any_field_deeper-requires : goal.is_any_case_deeper-is_any_field_deeper-requires
is_any_case_deeper-is_any_field_deeper-requires t c =
    (omega (arith, case_smaller c.cases-case-items.result.now c.loop-case.case-index c.case-item.result c.loop-case-test.true c.case-item.is, ap (λ cs. cases_size (cases_of cs)) c.cases-case-items.ensures), tt)
