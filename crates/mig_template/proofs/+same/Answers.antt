use Rattle.std.proofs.Common.{◌≡◌, map, sym, ap, ◌∙◌, rules, arith}
use Rattle.std.specs.Prelude.{IsTrue}
use Rattle.mig_model.specs.Template.{cases_of}
use Rattle.mig_template.specs.Size.{field_list_size, cases_size}
use Rattle.mig_template.proofs.Smaller.{field_smaller, case_smaller}
use Rattle.mig_template.proofs.Alike.{views_at, alike_more}
use Rattle.mig_template.specs.View.{template_of, field_of, case_of}
use Rattle.mig_model.specs.Record.{record_of}
use Rattle.mig_template.proofs.Views.{same_parts}
use Rattle.mig_template.proofs.+same.Goals as goal

pub template::Template::same-returns-in-Rec-other : goal.template::Template::same-returns-in-Rec-other
template::Template::same-returns-in-Rec-other t c = (
  λ h. ap template_of c.in-Rec.is ∙ ap record_of (c.same-in-Rec-other.ensures.0 h) ∙ sym (ap template_of c.in-Rec-other.is),
  λ e. c.same-in-Rec-other.ensures.1 (same_parts c.in-Rec.record c.in-Rec-other.other (sym (ap template_of c.in-Rec.is) ∙ e ∙ ap template_of c.in-Rec-other.is)),
)

pub fields::Fields::same-same-requires : goal.fields::Fields::same-same-requires
fields::Fields::same-same-requires t c =
    (omega (arith, field_smaller c.as_slice-list.result.now c.loop-at.at c.index-list-at.result c.loop-at-test.true c.index-list-at.is, ap field_list_size c.as_slice-list.ensures.fields), tt)

pub fields::Fields::same-returns-then-not-same : goal.fields::Fields::same-returns-then-not-same
fields::Fields::same-returns-then-not-same t c =
    let xs = c.as_slice-list.result.now in
    let ys = c.as_slice-others.result.now in (
      λ never. absurd cc,
      λ e.
          let both : map field_of xs ≡ map field_of ys = c.as_slice-list.ensures.fields ∙ e ∙ sym c.as_slice-others.ensures.fields in
          let told : IsTrue c.same.result = c.same.ensures.1 (views_at field_of xs ys c.loop-at.at c.index-list-at.result c.index-others-at.result c.loop-at-test.true (omega arith) c.index-list-at.is c.index-others-at.is both) in
          absurd cc,
    )

pub fields::Fields::same-loop-at-preserved : goal.fields::Fields::same-loop-at-preserved
fields::Fields::same-loop-at-preserved t c =
    let xs = c.as_slice-list.result.now in
    let ys = c.as_slice-others.result.now in
    alike_more field_of xs ys c.loop-at.at c.index-list-at.result c.index-others-at.result c.loop-at-test.true (omega arith) c.index-list-at.is c.index-others-at.is c.loop-at.invariant (c.same.ensures.0 (search rules))

pub record::Choice::same-same-requires : goal.record::Choice::same-same-requires
record::Choice::same-same-requires t c =
    (omega (arith, case_smaller c.cases-list.result.now c.loop-at.at c.index-list-at.result c.loop-at-test.true c.index-list-at.is, ap (λ cs. cases_size (cases_of cs)) c.cases-list.ensures), tt)

pub record::Choice::same-returns-then-not-same : goal.record::Choice::same-returns-then-not-same
record::Choice::same-returns-then-not-same t c =
    let xs = c.cases-list.result.now in
    let ys = c.cases-others.result.now in (
      λ never. absurd cc,
      λ e.
          let both : map case_of xs ≡ map case_of ys = c.cases-list.ensures ∙ ap (λ p. p.1) e ∙ sym c.cases-others.ensures in
          let told : IsTrue c.same.result = c.same.ensures.1 (views_at case_of xs ys c.loop-at.at c.index-list-at.result c.index-others-at.result c.loop-at-test.true (omega arith) c.index-list-at.is c.index-others-at.is both) in
          absurd cc,
    )

pub record::Choice::same-loop-at-preserved : goal.record::Choice::same-loop-at-preserved
record::Choice::same-loop-at-preserved t c =
    let xs = c.cases-list.result.now in
    let ys = c.cases-others.result.now in
    alike_more case_of xs ys c.loop-at.at c.index-list-at.result c.index-others-at.result c.loop-at-test.true (omega arith) c.index-list-at.is c.index-others-at.is c.loop-at.invariant (c.same.ensures.0 (search rules))
