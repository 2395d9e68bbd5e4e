use Rattle.std.proofs.Common.{◌≡◌, ◌∙◌, ◌++◌, ◌∷◌, List, [], length, map, get_or, sym, ap, subst, rules, arith}
use Rattle.std.specs.Prelude.{option_map}
use Rattle.std.proofs.lemmas.List.{length-map, length-append, map-append}
use Rattle.mig_model.proofs.Loops.{in_hand, all_behind}
use Rattle.mig_model.specs.Template.{cases_of}
use Rattle.mig_model.specs.TemplateKept.{CasesKept}
use Rattle.mig_template.specs.declared.record.Case.{Case}
use Rattle.mig_template.specs.Retyped.{cases_with}
use Rattle.mig_template.specs.View.{template_of, case_of, given_templates}
use Rattle.mig_template.proofs.Retyped.{case_there, as_many_given, case_more, cases_kept_more}
use Rattle.mig_template.proofs.record.Choice.with_templates.Goals as goal

pub loop-list-init : goal.loop-list-init
loop-list-init c = search rules

pub bounds-given-len : goal.bounds-given-len
bounds-given-len c =
    let all = c.args.templates.items in
    let ys = c.loop-list.yielded in
    let here = in_hand c.into_iter-list-iterator.result c.loop-list.list-iterator c.next.new.self all ys c.in-Some.list c.into_iter-list-iterator.ensures.into_iter_gives.0 (search rules) c.loop-list.yielded_by c.next.result c.in-Some.is c.next.ensures.steps in
    omega (arith, c.loop-list.invariant.0, c.len.ensures, case_there all ys c.in-Some.list here c.cases-given.result.now c.args.self.now.1 c.cases-given.ensures c.requires)

pub offset_bounds-given-len : goal.offset_bounds-given-len
offset_bounds-given-len c = let b = bounds-given-len c in omega (arith, b, c.cases-given.type_inv.1)

pub with_templates-requires : goal.with_templates-requires
with_templates-requires c =
    let all = c.args.templates.items in
    let ys = c.loop-list.yielded in
    let here = in_hand c.into_iter-list-iterator.result c.loop-list.list-iterator c.next.new.self all ys c.in-Some.list c.into_iter-list-iterator.ensures.into_iter_gives.0 (search rules) c.loop-list.yielded_by c.next.result c.in-Some.is c.next.ensures.steps in
    let at : c.len.result ≡ length ys = omega (arith, c.loop-list.invariant.0, c.len.ensures) in
    sym (length-map c.in-Some.list.items (option_map template_of))
    ∙ as_many_given all ys c.in-Some.list here c.cases-given.result.now c.args.self.now.1 c.cases-given.ensures c.requires c.index-given-len.result (c.index-given-len.is ∙ ap (λ n. get_or c.cases-given.result.now n c.index-given-len.result) at)

pub loop-list-preserved : goal.loop-list-preserved
loop-list-preserved c =
    let all = c.args.templates.items in
    let ys = c.loop-list.yielded in
    let here = in_hand c.into_iter-list-iterator.result c.loop-list.list-iterator c.next.new.self all ys c.in-Some.list c.into_iter-list-iterator.ensures.into_iter_gives.0 (search rules) c.loop-list.yielded_by c.next.result c.in-Some.is c.next.ensures.steps in
    let at : c.len.result ≡ length ys = omega (arith, c.loop-list.invariant.0, c.len.ensures) in
    let made = c.in_ok-with_templates.field-0 in (
      omega (arith, ap length c.in_ok-push.ensures.items, c.loop-list.invariant.0, length-append c.loop-list.cases.items (made ∷ []), length-append ys (c.in-Some.list ∷ [])),
      ap (map case_of) c.in_ok-push.ensures.items
          ∙ map-append case_of c.loop-list.cases.items (made ∷ [])
          ∙ (λ i. c.loop-list.invariant.1 i ++ c.in_ok-with_templates.ensures.case i ∷ [])
          ∙ sym (case_more all ys c.in-Some.list here c.cases-given.result.now c.args.self.now.1 c.cases-given.ensures c.requires c.index-given-len.result (c.index-given-len.is ∙ ap (λ n. get_or c.cases-given.result.now n c.index-given-len.result) at)),
      subst (λ (l : List Case). CasesKept (cases_of (map case_of l))) (sym c.in_ok-push.ensures.items) (cases_kept_more c.loop-list.cases.items made c.loop-list.invariant.2 c.in_ok-with_templates.ensures.keep.1),
    )

pub returns-clause-choice : goal.returns-clause-choice
returns-clause-choice c =
    let all = c.args.templates.items in
    let ys = c.loop-list.yielded in
    let done = all_behind c.into_iter-list-iterator.result c.loop-list.list-iterator c.next.new.self all ys c.into_iter-list-iterator.ensures.into_iter_gives.0 (search rules) c.loop-list.yielded_by c.next.result c.in-None.is c.next.ensures.steps in
    (λ i. ((c.in_ok-tag.ensures ∙ c.tag.ensures) i, (c.loop-list.invariant.1 ∙ (λ j. cases_with (map given_templates (done j)) (c.cases-given.ensures j))) i, c.kept.ensures i))

pub returns-clause-keep : goal.returns-clause-keep
returns-clause-keep c = c.loop-list.invariant.2
