use Rattle.std.proofs.Common.{◌≡◌, ◌∙◌, true, Some, map, sym, ap, subst, arith}
use Rattle.std.specs.Prelude.{not, is_some, IfSome}
use Rattle.std.proofs.lemmas.Result.{IfOk-weaker}
use Rattle.mig_syntax.specs.TemplateSyntax as syntax
use Rattle.mig_syntax.specs.TemplateSyntax.{FieldsSyntax, ChoiceSyntax, field_list_size}
use Rattle.mig_syntax.specs.TemplateView as text
use Rattle.mig_template.specs.View as values
use Rattle.mig_resolve_template.specs.Templates.{given_fields, given_choice, is_no_record, template_is_twice, fields_are_twice, choice_is_twice}
use Rattle.mig_resolve_template.proofs.Refusals.{refused_fields, refused_choice, parts_alone}
use Rattle.mig_resolve_template.proofs.Smaller.{field_no_larger, case_smaller}
use Rattle.mig_resolve_template.proofs.templates.+resolving.Goals as goal

pub fields-given_field-requires : goal.fields-given_field-requires
fields-given_field-requires t c =
    (omega (arith, field_no_larger c.args.fields.now c.loop-field.field-index c.field-item.result c.loop-field-test.true c.field-item.is), tt)

pub given_cases-fields-requires : goal.given_cases-fields-requires
given_cases-fields-requires t c =
    (omega (arith, case_smaller c.args.cases.now c.loop-case.case-index c.case-item.result c.loop-case-test.true c.case-item.is, ap field_list_size c.as_slice.ensures), tt)

pub record_template-returns-in_default-clause-twice : goal.record_template-returns-in_default-clause-twice
record_template-returns-in_default-clause-twice t c =
    let parts = c.args.record.now in
    let fields : FieldsSyntax = syntax.fields_of parts.fields in
    let choice : ChoiceSyntax = syntax.choice_of parts.choice in
    refused_fields (is_no_record (given_fields fields) (given_choice choice)) (fields_are_twice fields) (choice_is_twice choice)
    (sym (ap is_some c.in_default.is) ∙ c.in_ok-common.ensures.twice ∙ ap (λ fs. not (fields_are_twice (syntax.fields_of fs))) c.as_slice.ensures)

pub record_template-returns-in-Some-2-clause-twice : goal.record_template-returns-in-Some-2-clause-twice
record_template-returns-in-Some-2-clause-twice t c =
    let parts = c.args.record.now in
    let fields : FieldsSyntax = syntax.fields_of parts.fields in
    let choice : ChoiceSyntax = syntax.choice_of parts.choice in
    let common : map values.field_of c.in-Some.common.items ≡ given_fields fields =
    subst (λ o. IfSome o (λ list. map values.field_of list.items ≡ given_fields (syntax.fields_of (map text.field_of c.as_slice.result.now)))) c.in-Some.is c.in_ok-common.ensures.some
    ∙ ap (λ fs. given_fields (syntax.fields_of fs)) c.as_slice.ensures in
    let cased : values.given_choice (Some c.in-Some-2.choice) ≡ given_choice choice =
    subst (λ o. IfSome o (λ g. values.given_choice (Some g) ≡ given_choice (syntax.choice_of (Some c.in-Some-choice.choice)))) c.in-Some-2.is c.in_ok-choice-in-Some-choice.ensures.some
    ∙ ap (λ o. given_choice (syntax.choice_of o)) (sym c.in-Some-choice.is) in
    let no_field : true ≡ not (fields_are_twice fields) =
    sym (ap is_some c.in-Some.is) ∙ c.in_ok-common.ensures.twice ∙ ap (λ fs. not (fields_are_twice (syntax.fields_of fs))) c.as_slice.ensures in
    let no_case : true ≡ not (choice_is_twice choice) =
    sym (ap is_some c.in-Some-2.is) ∙ c.in_ok-choice-in-Some-choice.ensures.twice ∙ ap (λ o. not (choice_is_twice (syntax.choice_of o))) (sym c.in-Some-choice.is) in
    let given = is_no_record (map values.field_of c.in-Some.common.items) (values.given_choice (Some c.in-Some-2.choice)) in
    let same : given ≡ is_no_record (given_fields fields) (given_choice choice) = λ i. is_no_record (common i) (cased i) in
    IfOk-weaker c.ordered_record.result (λ o. is_some o ≡ not given) (λ o. is_some o ≡ not (template_is_twice (syntax.record_of fields choice parts.dots)))
    (λ o. parts_alone (is_some o) given (is_no_record (given_fields fields) (given_choice choice)) (fields_are_twice fields) (choice_is_twice choice) same no_field no_case)
    c.ordered_record.ensures.twice

pub record_template-returns-in-None-2-clause-twice : goal.record_template-returns-in-None-2-clause-twice
record_template-returns-in-None-2-clause-twice t c =
    let parts = c.args.record.now in
    let fields : FieldsSyntax = syntax.fields_of parts.fields in
    let choice : ChoiceSyntax = syntax.choice_of parts.choice in
    refused_choice (is_no_record (given_fields fields) (given_choice choice)) (fields_are_twice fields) (choice_is_twice choice)
    (sym (ap is_some c.in-None-2.is) ∙ c.in_ok-choice-in-Some-choice.ensures.twice ∙ ap (λ o. not (choice_is_twice (syntax.choice_of o))) (sym c.in-Some-choice.is))
