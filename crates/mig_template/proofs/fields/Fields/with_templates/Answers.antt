use Rattle.std.proofs.Common.{◌≡◌, ◌∙◌, ◌<◌, ◌++◌, ◌∷◌, List, [], length, map, get_or, sym, ap, subst, rules, arith}
use Rattle.std.specs.Prelude.{option_map}
use Rattle.mig_model.specs.Names.{Ascends}
use Rattle.mig_model.proofs.Loops.{in_hand, all_behind, fewer}
use Rattle.std.proofs.lemmas.List.{length-map, length-append, map-append}
use Rattle.mig_model.specs.Template.{fields_of}
use Rattle.mig_model.specs.TemplateKept.{FieldsKept}
use Rattle.mig_template.specs.declared.fields.Field.{Field}
use Rattle.mig_template.specs.Retyped.{with_templates}
use Rattle.mig_template.specs.View.{template_of, field_of}
use Rattle.mig_template.proofs.Retyped.{with_more, ascend_still, kept_more}
use Rattle.mig_template.proofs.fields.Fields.with_templates.Goals as goal

pub loop-template-init : goal.loop-template-init
loop-template-init c = search rules

pub bounds-fields-len : goal.bounds-fields-len
bounds-fields-len c =
    let all = c.args.templates.items in
    let ys = c.loop-template.yielded in
    let here = in_hand c.into_iter-template-iterator.result c.loop-template.template-iterator c.next.new.self all ys c.in-Some.template c.into_iter-template-iterator.ensures.into_iter_gives.0 (search rules) c.loop-template.yielded_by c.next.result c.in-Some.is c.next.ensures.steps in
    omega (arith, fewer all ys c.in-Some.template here, c.loop-template.invariant.0, c.requires, ap length c.as_slice-fields.ensures.fields, length-map c.as_slice-fields.result.now field_of, c.len.ensures)

pub offset_bounds-fields-len : goal.offset_bounds-fields-len
offset_bounds-fields-len c = let b = bounds-fields-len c in omega (arith, b, c.as_slice-fields.type_inv.1)

pub loop-template-preserved : goal.loop-template-preserved
loop-template-preserved c =
    let ys = c.loop-template.yielded in
    let os = map (option_map template_of) ys in
    let o = option_map template_of c.in-Some.template in
    let fs = c.as_slice-fields.result.now in
    let list = c.loop-template.list.items in
    let made = c.in_ok-with_template.field-0 in
    let field = c.index-fields-len.result in
    let at : length os ≡ c.len.result = omega (arith, length-map ys (option_map template_of), c.loop-template.invariant.0, c.len.ensures) in
    let all = c.args.templates.items in
    let here = in_hand c.into_iter-template-iterator.result c.loop-template.template-iterator c.next.new.self all ys c.in-Some.template c.into_iter-template-iterator.ensures.into_iter_gives.0 (search rules) c.loop-template.yielded_by c.next.result c.in-Some.is c.next.ensures.steps in
    let inside : length os < length fs = omega (arith, fewer all ys c.in-Some.template here, length-map ys (option_map template_of), c.requires, ap length c.as_slice-fields.ensures.fields, length-map fs field_of) in
    let is : field ≡ get_or fs (length os) field = c.index-fields-len.is ∙ ap (λ n. get_or fs n field) (sym at) in (
      omega (arith, ap length c.in_ok-push.ensures.items, c.loop-template.invariant.0, length-append list (made ∷ []), length-append ys (c.in-Some.template ∷ [])),
      ap (map field_of) c.in_ok-push.ensures.items
          ∙ map-append field_of list (made ∷ [])
          ∙ (λ i. c.loop-template.invariant.1 i ++ c.in_ok-with_template.ensures.field i ∷ [])
          ∙ sym (with_more os o fs field inside is)
          ∙ ap (λ l. with_templates l (map field_of fs)) (sym (map-append (option_map template_of) ys (c.in-Some.template ∷ []))),
      subst (λ (l : List Field). FieldsKept (fields_of (map field_of l))) (sym c.in_ok-push.ensures.items) (kept_more list made c.loop-template.invariant.2 c.in_ok-with_template.ensures.keep),
    )

pub new-requires : goal.new-requires
new-requires c =
    let all = c.args.templates.items in
    let ys = c.loop-template.yielded in
    let os = map (option_map template_of) ys in
    let fs = map field_of c.as_slice-fields.result.now in
    let done = all_behind c.into_iter-template-iterator.result c.loop-template.template-iterator c.next.new.self all ys c.into_iter-template-iterator.ensures.into_iter_gives.0 (search rules) c.loop-template.yielded_by c.next.result c.in-None.is c.next.ensures.steps in
    let same : length os ≡ length fs = length-map ys (option_map template_of) ∙ ap length done ∙ c.requires ∙ ap length (sym c.as_slice-fields.ensures.fields) in
    let ordered : Ascends fs = subst Ascends (sym c.as_slice-fields.ensures.fields) c.as_slice-fields.ensures.keep.0 in
    (subst Ascends (sym c.loop-template.invariant.1) (ascend_still os fs same ordered), c.loop-template.invariant.2)

pub returns : goal.returns
returns c =
    let all = c.args.templates.items in
    let ys = c.loop-template.yielded in
    let done = all_behind c.into_iter-template-iterator.result c.loop-template.template-iterator c.next.new.self all ys c.into_iter-template-iterator.ensures.into_iter_gives.0 (search rules) c.loop-template.yielded_by c.next.result c.in-None.is c.next.ensures.steps in
    c.new.ensures ∙ c.loop-template.invariant.1 ∙ (λ i. with_templates (map (option_map template_of) (done i)) (c.as_slice-fields.ensures.fields i))
