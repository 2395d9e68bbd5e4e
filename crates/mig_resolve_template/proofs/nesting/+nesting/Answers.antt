use Rattle.std.proofs.Common.{◌≡◌, ◌∙◌, ◌-◌, suc, true, refl, sym, ap, arith}
use Rattle.mig_syntax.specs.TemplateSyntax.{field_list_size, cases_size, cases_of, fields_of, choice_of}
use Rattle.mig_syntax.specs.TemplateSyntax as syntax
use Rattle.mig_syntax.specs.TemplateView.{template_of}
use Rattle.mig_resolve_template.specs.Templates.{nests_above, fields_nest_above, choice_nests_above}
use Rattle.mig_resolve_template.proofs.Smaller.{field_no_larger, case_smaller}
use Rattle.mig_resolve_template.proofs.Levels.{above, or_first, or_second}
use Rattle.mig_resolve_template.proofs.nesting.+nesting.Goals as goal

pub choice_nests_above-fields_nest_above-requires : goal.choice_nests_above-fields_nest_above-requires
choice_nests_above-fields_nest_above-requires t c = (
  omega (
    arith,
    case_smaller c.cases-case-items.result.now c.loop-case.case-index c.case-item.result c.loop-case-test.true c.case-item.is,
    ap (λ cs. cases_size (cases_of cs)) c.cases-case-items.ensures,
    ap field_list_size c.as_slice.ensures,
  ),
  tt,
)

pub fields_nest_above-nests_above-requires : goal.fields_nest_above-nests_above-requires
fields_nest_above-nests_above-requires t c =
    (omega (arith, field_no_larger c.args.fields.now c.loop-field.field-index c.field-item.result c.loop-field-test.true c.field-item.is), tt)

pub nests_above-returns-then-fields_nest_above : goal.nests_above-returns-then-fields_nest_above
nests_above-returns-then-fields_nest_above t c =
    let below = c.args.levels - 1 in
    let record_text = c.in-Rec.record in
    let deeper : c.args.levels ≡ suc below = omega (arith, c.if-levels-eq0.false) in
    let in_fields = sym c.if-fields_nest_above.true ∙ c.fields_nest_above.ensures ∙ ap (λ fs. fields_nest_above below (fields_of fs)) c.as_slice.ensures in
    above c.args.levels below (template_of c.args.template.now) (syntax.record_of (fields_of record_text.fields) (choice_of record_text.choice) record_text.dots) true deeper (ap template_of c.in-Rec.is)
    (or_first true (fields_nest_above below (fields_of record_text.fields)) (choice_nests_above below (choice_of record_text.choice)) refl in_fields)

pub nests_above-returns-in-List : goal.nests_above-returns-in-List
nests_above-returns-in-List t c =
    let below = c.args.levels - 1 in
    let deeper : c.args.levels ≡ suc below = omega (arith, c.if-levels-eq0.false) in
    above c.args.levels below (template_of c.args.template.now) (syntax.list c.in-List.part) c.nests_above.result deeper (ap template_of c.in-List.is)
    (c.nests_above.ensures ∙ ap (nests_above below) c.get.ensures)

pub nests_above-returns-in-Some : goal.nests_above-returns-in-Some
nests_above-returns-in-Some t c =
    let below = c.args.levels - 1 in
    let record_text = c.in-Rec.record in
    let deeper : c.args.levels ≡ suc below = omega (arith, c.if-levels-eq0.false) in
    let no_field = sym (c.fields_nest_above.ensures ∙ ap (λ fs. fields_nest_above below (fields_of fs)) c.as_slice.ensures) ∙ c.if-fields_nest_above.false in
    let in_choice = c.choice_nests_above.ensures ∙ ap (λ o. choice_nests_above below (choice_of o)) (sym c.in-Some.is) in
    above c.args.levels below (template_of c.args.template.now) (syntax.record_of (fields_of record_text.fields) (choice_of record_text.choice) record_text.dots) c.choice_nests_above.result deeper (ap template_of c.in-Rec.is)
    (or_second (fields_nest_above below (fields_of record_text.fields)) (choice_nests_above below (choice_of record_text.choice)) c.choice_nests_above.result no_field in_choice)

pub nests_above-returns-then-nests_above : goal.nests_above-returns-then-nests_above
nests_above-returns-then-nests_above t c =
    let below = c.args.levels - 1 in
    let deeper : c.args.levels ≡ suc below = omega (arith, c.if-levels-eq0.false) in
    above c.args.levels below (template_of c.args.template.now) (syntax.sum c.in-Sum.left c.in-Sum.right) c.nests_above-in-Sum.result deeper (ap template_of c.in-Sum.is)
    (or_first c.nests_above-in-Sum.result (nests_above below c.in-Sum.left) (nests_above below c.in-Sum.right) c.if-nests_above.true (c.nests_above-in-Sum.ensures ∙ ap (nests_above below) c.get-in-Sum.ensures))

pub nests_above-returns-else-nests_above : goal.nests_above-returns-else-nests_above
nests_above-returns-else-nests_above t c =
    let below = c.args.levels - 1 in
    let deeper : c.args.levels ≡ suc below = omega (arith, c.if-levels-eq0.false) in
    above c.args.levels below (template_of c.args.template.now) (syntax.sum c.in-Sum.left c.in-Sum.right) c.nests_above-else-nests_above.result deeper (ap template_of c.in-Sum.is)
    (or_second (nests_above below c.in-Sum.left) (nests_above below c.in-Sum.right) c.nests_above-else-nests_above.result
    (sym (c.nests_above-in-Sum.ensures ∙ ap (nests_above below) c.get-in-Sum.ensures) ∙ c.if-nests_above.false)
    (c.nests_above-else-nests_above.ensures ∙ ap (nests_above below) c.get-else-nests_above.ensures))
