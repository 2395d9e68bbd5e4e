use Rattle.std.proofs.Common.{◌∙◌, true, false, map, ap, rules}
use Rattle.mig_model.specs.Fields.{if_so}
use Rattle.mig_model.specs.Names.{without}
use Rattle.mig_template.specs.View.{field_of}
use Rattle.mig_func.proofs.Offers.{has_told, drop_offers}
use Rattle.mig_func.proofs.ops.drop_field.Goals as goal

pub returns-then-not-has-clause-misfit : goal.returns-then-not-has-clause-misfit
returns-then-not-has-clause-misfit c r taken free =
    ap (λ b. if_so b (without c.args.name.now c.args.fields.now)) (has_told c.args.fields.now c.args.name.now c.bytes.result.now c.has.result false c.has.ensures c.bytes.ensures (search rules))

pub returns-clause-offers : goal.returns-clause-offers
returns-clause-offers c r =
    let x = c.args.name.now in
    let fs = c.args.fields.now in
    drop_offers r x fs (map field_of c.in_ok-list.list.items) c.in_ok-list.ensures.ascend (has_told fs x c.bytes.result.now c.has.result true c.has.ensures c.bytes.ensures (search rules))
    (c.in_ok-list.ensures.list ∙ ap (λ n. without n fs) c.bytes-2.ensures)
