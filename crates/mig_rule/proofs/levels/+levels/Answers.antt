use Rattle.std.proofs.Common.{ap, arith}
use Rattle.mig_model.specs.Template.{cases_of}
use Rattle.mig_template.specs.Size.{field_list_size, cases_size}
use Rattle.mig_template.proofs.Smaller.{field_smaller, case_smaller}
use Rattle.mig_rule.proofs.levels.+levels.Goals as goal

pub levels_of_fields-levels-requires : goal.levels_of_fields-levels-requires
levels_of_fields-levels-requires t c =
    (omega (arith, field_smaller c.as_slice-field-items.result.now c.loop-field.field-index c.field-item.result c.loop-field-test.true c.field-item.is, ap field_list_size c.as_slice-field-items.ensures.fields), tt)

pub levels_of_cases-levels_of_fields-requires : goal.levels_of_cases-levels_of_fields-requires
levels_of_cases-levels_of_fields-requires t c =
    (omega (arith, case_smaller c.cases-case-items.result.now c.loop-case.case-index c.case-item.result c.loop-case-test.true c.case-item.is, ap (λ cs. cases_size (cases_of cs)) c.cases-case-items.ensures), tt)
