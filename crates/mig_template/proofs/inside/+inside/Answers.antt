use Rattle.std.proofs.Common.{ap, arith}
use Rattle.mig_model.specs.Template.{cases_of}
use Rattle.mig_template.specs.Size.{field_list_size, cases_size}
use Rattle.mig_template.proofs.Smaller.{field_smaller, case_smaller}
use Rattle.mig_template.proofs.inside.+inside.Goals as goal

pub passes_in_fields-passes_inside-requires : goal.passes_in_fields-passes_inside-requires
passes_in_fields-passes_inside-requires g t c κs within =
    (omega (arith, field_smaller c.as_slice-field-items.result.now c.loop-field.field-index c.field-item.result c.loop-field-test.true c.field-item.is, ap field_list_size c.as_slice-field-items.ensures.fields), within)

pub passes_in_choice-passes_in_fields-requires : goal.passes_in_choice-passes_in_fields-requires
passes_in_choice-passes_in_fields-requires g t c κs within =
    (omega (arith, case_smaller c.cases-case-items.result.now c.loop-case.case-index c.case-item.result c.loop-case-test.true c.case-item.is, ap (λ cs. cases_size (cases_of cs)) c.cases-case-items.ensures), within)
