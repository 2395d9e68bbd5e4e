use Rattle.std.proofs.Common.{ap, arith}
use Rattle.mig_syntax.specs.TemplateSyntax.{field_list_size, cases_size, cases_of}
use Rattle.mig_resolve_template.proofs.Smaller.{field_no_larger, case_smaller}
use Rattle.mig_resolve_template.proofs.wrong_kinds.+wrong.Goals as goal

pub choice_is_wrong-fields_are_wrong-requires : goal.choice_is_wrong-fields_are_wrong-requires
choice_is_wrong-fields_are_wrong-requires t c = (
  omega (
    arith,
    case_smaller c.cases-case-items.result.now c.loop-case.case-index c.case-item.result c.loop-case-test.true c.case-item.is,
    ap (λ cs. cases_size (cases_of cs)) c.cases-case-items.ensures,
    ap field_list_size c.as_slice.ensures,
  ),
  tt,
)

pub fields_are_wrong-template_is_wrong-requires : goal.fields_are_wrong-template_is_wrong-requires
fields_are_wrong-template_is_wrong-requires t c =
    (omega (arith, field_no_larger c.args.fields.now c.loop-field.field-index c.field-item.result c.loop-field-test.true c.field-item.is), tt)
