use Rattle.std.proofs.Common.{◌≡◌, ◌∙◌, ◌+◌, refl, sym, ap, subst, List, [], ◌∷◌, ◌++◌, map, take, Option, arith}
use Rattle.std.proofs.lemmas.List.{map-append, take_all}
use Rattle.mig_model.specs.Template.{Template, fields_of, cases_of}
use Rattle.mig_model.specs.Record.{Case}
use Rattle.mig_template.specs.Retyped.{HavePlaces}
use Rattle.mig_template.specs.View.{case_of, given_templates}
use Rattle.mig_template.proofs.Alike.{one_more}
use Rattle.mig_rule.specs.Children.{field_children, case_children}
use Rattle.mig_rule.specs.Step.{met_all, new_templates, case_templates}
use Rattle.mig_rule.proofs.ChildLists.{met_append, places_more, children_more}
use Rattle.mig_rule.proofs.children.of_cases.Goals as goal

pub loop-case-init : goal.loop-case-init
loop-case-init g c = (subst (λ l. HavePlaces (map given_templates l) []) (sym c.new-list.ensures.items) tt, λ o h. (ap (map given_templates) c.new-list.ensures.items, refl))

pub loop-case-preserved : goal.loop-case-preserved
loop-case-preserved g c =
    let xs = c.args.cases.now in
    let i = c.loop-case.case-index in
    let item = c.case-item.result in
    let list = c.loop-case.list.items in
    let new = c.in_ok-of_fields.field-0 in
    let so_far = map case_of (take i xs) in
    let cases : map case_of (take (i + 1) xs) ≡ so_far ++ case_of item ∷ [] = one_more case_of xs i item (omega arith) c.case-item.is in
    let lists : map given_templates c.push.new.self.items ≡ map given_templates list ++ given_templates new ∷ [] = ap (map given_templates) c.in_ok-push.ensures.items ∙ map-append given_templates list (new ∷ []) in (
      subst (λ (q : List (List (Option Template)) × List Case). HavePlaces q.0 q.1) (λ j. (sym lists j, sym cases j)) (places_more (map given_templates list) (given_templates new) so_far (case_of item) c.loop-case.invariant.0 c.in_ok-of_fields.ensures.length),
      λ o h.
          let before = c.loop-case.invariant.1 o h in
          let made : given_templates new ≡ new_templates o (field_children (fields_of item.fields)) = c.in_ok-of_fields.ensures.list o h in (
            lists ∙ (λ j. before.0 j ++ made j ∷ []) ∙ sym (map-append (λ (k : Case). new_templates o (field_children (fields_of k.1))) so_far (case_of item ∷ [])) ∙ ap (case_templates o) (sym cases),
            c.in_ok-of_fields.ensures.met o h
                ∙ ap (met_all o (field_children (fields_of item.fields))) before.1
                ∙ sym (met_append o (case_children (cases_of so_far)) (field_children (fields_of item.fields)) c.args.met.now)
                ∙ ap (λ ks. met_all o ks c.args.met.now) (sym (children_more so_far (case_of item)) ∙ ap (λ l. case_children (cases_of l)) (sym cases)),
          ),
    )

pub returns-clause-places : goal.returns-clause-places
returns-clause-places g c = subst (λ l. HavePlaces (map given_templates c.loop-case.list.items) (map case_of l)) (take_all c.loop-case.case-index c.args.cases.now c.loop-case-test.false) c.loop-case.invariant.0

pub returns-clause-list : goal.returns-clause-list
returns-clause-list g c = λ o h. (c.loop-case.invariant.1 o h).0 ∙ ap (λ l. case_templates o (map case_of l)) (take_all c.loop-case.case-index c.args.cases.now c.loop-case-test.false)

pub returns-clause-met : goal.returns-clause-met
returns-clause-met g c = λ o h.
    (c.loop-case.invariant.1 o h).1 ∙ ap (λ l. met_all o (case_children (cases_of (map case_of l))) c.args.met.now) (take_all c.loop-case.case-index c.args.cases.now c.loop-case-test.false)
