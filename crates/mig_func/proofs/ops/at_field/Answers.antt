use Rattle.std.proofs.Common.{◌≡◌, ◌∙◌, Some, map, sym, ap, subst}
use Rattle.std.specs.Prelude.{is_some}
use Rattle.mig_model.specs.Names.{under, put}
use Rattle.mig_field.specs.NewRecord.{FieldType, at_field}
use Rattle.mig_template.specs.View.{template_of, field_of}
use Rattle.mig_func.specs.New.{IsNew}
use Rattle.mig_func.specs.Slot.{slot_after}
use Rattle.mig_func.specs.View.{field_op_of}
use Rattle.mig_func.proofs.Offers.{replaced_offers, at_is}
use Rattle.mig_func.proofs.ops.at_field.Goals as goal

pub returns-clause-offers : goal.returns-clause-offers
returns-clause-offers c taken free =
    let x = c.args.name.now in
    let fs = c.args.fields.now in
    let es = map field_of c.in_ok-list.list.items in
    let field = c.in-Some.field.now in
    let s : FieldType = (field.presence, template_of field.template) in
    let t : FieldType = (c.in_ok-presence.presence, template_of c.in_ok-presence.template) in
    let there : under x fs ≡ Some s = ap (λ n. under n fs) (sym c.bytes.ensures) ∙ sym c.in-Some.ensures.found in
    let at : at_field x (slot_after (field_op_of c.args.op.now)) fs ≡ Some (put x t fs) = at_is x (slot_after (field_op_of c.args.op.now)) fs s t there c.in_ok-presence.ensures.slot in
    subst (λ o. IsNew o taken es) (sym at) (replaced_offers x t fs es taken c.in_ok-list.ensures.ascend (ap is_some there) c.in_ok-list.ensures.list free)
