use Rattle.std.proofs.Common.{◌≡◌, ◌∙◌, ◌++◌, List, map, sym, ap, arith}
use Rattle.mig_model.specs.Template.{fields_of, cases_of}
use Rattle.mig_template.specs.Size.{field_list_size, cases_size}
use Rattle.mig_template.proofs.Smaller.{field_smaller, case_smaller}
use Rattle.mig_finder.specs.Places.{field_places}
use Rattle.mig_finder.specs.View.{found_of}
use Rattle.mig_finder.specs.declared.finding.Found.{Found}
use Rattle.mig_finder.proofs.Lists.{at_field, in_case, fields_more, cases_more, named_field, other_field, one_case}
use Rattle.mig_finder.proofs.places.+places.Goals.{add_field_places-then-has_name+in_ok-add_place, add_field_places-else-has_name+in_ok-inner+in_ok-add_inside}
use Rattle.mig_finder.proofs.places.+places.Goals as goal

pub add_case_places-add_field_places-requires : goal.add_case_places-add_field_places-requires
add_case_places-add_field_places-requires t c =
    (omega (arith, case_smaller c.cases-case-items.result.now c.loop-case.case-index c.case-item.result c.loop-case-test.true c.case-item.is, ap (λ cs. cases_size (cases_of cs)) c.cases-case-items.ensures), tt)

pub add_field_places-places_in-requires : goal.add_field_places-places_in-requires
add_field_places-places_in-requires t c =
    (omega (arith, field_smaller c.as_slice-field-items.result.now c.loop-field.field-index c.field-item.result c.loop-field-test.true c.field-item.is, ap field_list_size c.as_slice-field-items.ensures.fields), tt)

pub add_field_places-loop-field-preserved : goal.add_field_places-loop-field-preserved
add_field_places-loop-field-preserved t c =
    let x = c.args.name.now in
    let f = c.field-item.result in
    let old = map found_of c.loop-field.list.items in
    elim c.if-has_name.branch [
      | add_field_places-then-has_name+in_ok-add_place w ↦
          let new = map found_of w.add_place.new.list.items in
          let step : new ≡ old ++ at_field x f = named_field x f old new (sym c.has_name.ensures ∙ w.if-has_name.true) w.in_ok-add_place.ensures in
          rw w.list-is (fields_more x c.as_slice-field-items.result.now c.loop-field.field-index f old new _ c.loop-field-test.true c.field-item.is step c.loop-field.invariant)
      | add_field_places-else-has_name+in_ok-inner+in_ok-add_inside w ↦
          let new = map found_of w.add_inside.new.list.items in
          let step : new ≡ old ++ at_field x f = other_field x f old new (map found_of w.in_ok-inner.inner.items) (sym c.has_name.ensures ∙ w.if-has_name.false) w.in_ok-inner.ensures w.in_ok-add_inside.ensures in
          rw w.list-is (fields_more x c.as_slice-field-items.result.now c.loop-field.field-index f old new _ c.loop-field-test.true c.field-item.is step c.loop-field.invariant)
    ]

pub add_case_places-loop-case-preserved : goal.add_case_places-loop-case-preserved
add_case_places-loop-case-preserved t c =
    let x = c.args.name.now in
    let d = c.case-item.result in
    let list = c.loop-case.list.items in
    let new = c.add_behind.new.list.items in
    let inner = c.add_field_places.new.list.items in
    let found : map found_of inner ≡ field_places x (fields_of d.fields) =
    c.in_ok-add_field_places.ensures ∙ ap (λ (l : List Found). map found_of l ++ field_places x (fields_of d.fields)) c.new-inner.ensures.items in
    let step : map found_of new ≡ map found_of list ++ in_case x d =
    one_case x d list new inner c.in_ok-literal.literal c.in_ok-literal.ensures found c.in_ok-add_behind.ensures in
    cases_more x c.cases-case-items.result.now c.loop-case.case-index d (map found_of list) (map found_of new) _ c.loop-case-test.true c.case-item.is step c.loop-case.invariant
