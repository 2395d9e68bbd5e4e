use Rattle.std.proofs.Common.{◌≡◌, ◌∙◌, ◌+◌, ◌++◌, Some, nat_eq, map, drop, refl, sym, ap, arith}
use Rattle.std.proofs.lemmas.Result.{on_ok_weaker}
use Rattle.indexmap.specs.IndexSet.{insert_all}
use Rattle.mig_model.specs.Template.{fields_of, cases_of}
use Rattle.mig_model.specs.Record.{choice_of}
use Rattle.mig_template.specs.Size.{field_list_size, cases_size}
use Rattle.mig_template.specs.View.{template_of, field_of, case_of}
use Rattle.mig_template.proofs.Smaller.{field_smaller, case_smaller}
use Rattle.mig_schema.specs.Reach.{points, field_points, choice_points, case_points, places}
use Rattle.mig_schema.proofs.Search.{both_inserted, field_points_more, case_points_more}
use Rattle.mig_schema.proofs.named.NamedTypes.+places.Goals as goal

pub add_field_places-add_places-requires : goal.add_field_places-add_places-requires
add_field_places-add_places-requires t c =
    (omega (arith, field_smaller c.as_slice-field-items.result.now c.loop-field.field-index c.field-item.result c.loop-field-test.true c.field-item.is, ap field_list_size c.as_slice-field-items.ensures.fields), tt)

pub add_case_places-add_field_places-requires : goal.add_case_places-add_field_places-requires
add_case_places-add_field_places-requires t c =
    (omega (arith, case_smaller c.cases-case-items.result.now c.loop-case.case-index c.case-item.result c.loop-case-test.true c.case-item.is, ap (λ cs. cases_size (cases_of cs)) c.cases-case-items.ensures), tt)

pub add_places-returns-in-Some : goal.add_places-returns-in-Some
add_places-returns-in-Some t c =
    let ms = field_points (fields_of c.fields.result.now) in
    let ns = case_points (cases_of c.in-Some.choice.now.1) in
    let chosen : Some c.in-Some.choice.now ≡ c.in-Rec.record.choice = c.in-Some.ensures in
    let all : ms ++ ns ≡ points (template_of c.args.template.now) = (λ i. field_points (fields_of (c.fields.ensures i)) ++ choice_points (choice_of (chosen i))) ∙ sym (ap (λ V. points (template_of V)) c.in-Rec.is) in
    on_ok_weaker c.add_case_places.result
    (λ e.
    both_inserted c.args.self.now c.args.found.now.keys c.add_field_places.new.found.keys c.add_case_places.new.found.keys ms ns c.in_ok-add_field_places-in-Rec.ensures e
    ∙ ap (λ l. insert_all nat_eq c.args.found.now.keys (places c.args.self.now l)) all)
    c.add_case_places.ensures

pub add_places-returns-in_ok-add_places-in-Sum : goal.add_places-returns-in_ok-add_places-in-Sum
add_places-returns-in_ok-add_places-in-Sum t c =
    let ms = points (template_of c.get-in-Sum.result.now) in
    let ns = points (template_of c.get-in-Sum-2.result.now) in
    let all : ms ++ ns ≡ points (template_of c.args.template.now) = (λ i. points (c.get-in-Sum.ensures.template i) ++ points (c.get-in-Sum-2.ensures.template i)) ∙ sym (ap (λ V. points (template_of V)) c.in-Sum.is) in
    on_ok_weaker c.add_places-in-Sum-2.result
    (λ e.
    both_inserted c.args.self.now c.args.found.now.keys c.add_places-in-Sum.new.found.keys c.add_places-in-Sum-2.new.found.keys ms ns c.in_ok-add_places-in-Sum.ensures e
    ∙ ap (λ l. insert_all nat_eq c.args.found.now.keys (places c.args.self.now l)) all)
    c.add_places-in-Sum-2.ensures

pub add_field_places-loop-field-preserved : goal.add_field_places-loop-field-preserved
add_field_places-loop-field-preserved t c =
    let ts = c.args.self.now in
    let fs = c.as_slice-field-items.result.now in
    let i = c.loop-field.field-index in
    let f = c.field-item.result in
    let found = c.loop-field.found.keys in
    let new = c.add_places.new.found.keys in
    let ms = points (template_of f.template) in
    let ns = field_points (fields_of (map field_of (drop (i + 1) fs))) in
    both_inserted ts found new (insert_all nat_eq new (places ts ns)) ms ns c.in_ok-add_places.ensures refl
    ∙ ap (λ l. insert_all nat_eq found (places ts l)) (field_points_more fs i f c.loop-field-test.true c.field-item.is) ∙ c.loop-field.invariant

pub add_case_places-loop-case-preserved : goal.add_case_places-loop-case-preserved
add_case_places-loop-case-preserved t c =
    let ts = c.args.self.now in
    let cs = c.cases-case-items.result.now in
    let i = c.loop-case.case-index in
    let d = c.case-item.result in
    let found = c.loop-case.found.keys in
    let new = c.add_field_places.new.found.keys in
    let ms = field_points (fields_of d.fields) in
    let ns = case_points (cases_of (map case_of (drop (i + 1) cs))) in
    both_inserted ts found new (insert_all nat_eq new (places ts ns)) ms ns c.in_ok-add_field_places.ensures refl
    ∙ ap (λ l. insert_all nat_eq found (places ts l)) (case_points_more cs i d c.loop-case-test.true c.case-item.is) ∙ c.loop-case.invariant
