use Rattle.std.proofs.Common.{◌∙◌, arith}
use Rattle.mig_template.specs.View.{field_of}
use Rattle.mig_func.proofs.Offers.{all_but}
use Rattle.mig_func.proofs.lists.all_but.Goals as goal

pub returns-clause-list : goal.returns-clause-list
returns-clause-list c =
    let items = c.as_slice-field-items in
    c.loop-field.invariant ∙ all_but field_of c.args.name.now items.result.now c.loop-field.field-index c.args.fields.now (omega arith) items.ensures.fields items.ensures.keep.0
