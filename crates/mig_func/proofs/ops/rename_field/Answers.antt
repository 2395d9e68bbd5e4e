use Rattle.std.proofs.Common.{◌≡◌, ◌∙◌, ◌++◌, ◌∷◌, [], Some, true, false, map, sym, ap, rules, arith}
use Rattle.mig_model.specs.Names.{under, without}
use Rattle.mig_template.specs.View.{template_of, field_of}
use Rattle.mig_func.proofs.Offers.{has_told, rename_offers}
use Rattle.mig_func.proofs.ops.rename_field.Goals as goal

pub returns-then-has-clause-misfit : goal.returns-then-has-clause-misfit
returns-then-has-clause-misfit c r taken free =
    let there = has_told c.args.fields.now c.args.to.now c.bytes-2.result.now c.has.result true c.has.ensures c.bytes-2.ensures (search rules) in
    grind (arith, there)

pub returns-clause-offers : goal.returns-clause-offers
returns-clause-offers c r =
    let x = c.args.from.now in
    let y = c.args.to.now in
    let fs = c.args.fields.now in
    let field = c.in-Some.field.now in
    let there : under x fs ≡ Some (field.presence, template_of field.template) = ap (λ n. under n fs) (sym c.bytes.ensures) ∙ sym c.in-Some.ensures.found in
    rename_offers r x y (field.presence, template_of field.template) fs (map field_of c.in_ok-list.list.items) c.in_ok-list.ensures.ascend there
    (has_told fs y c.bytes-2.result.now c.has.result false c.has.ensures c.bytes-2.ensures (search rules))
    (c.in_ok-list.ensures.list ∙ ap (λ V. without x fs ++ (y, (field.presence, V)) ∷ []) c.in_ok-template.ensures)
