use Rattle.std.proofs.Common.{map, subst₂}
use Rattle.mig_field.specs.FieldFn.{common}
use Rattle.mig_template.specs.View.{field_of}
use Rattle.mig_func.specs.New.{IsMisfit, Offers, Refuses}
use Rattle.mig_func.specs.View.{field_op_of}
use Rattle.mig_func.proofs.Targets.{common_in, target, clash_target, refused}
use Rattle.mig_func.proofs.function.FieldOp.in_common.Goals as goal

pub returns-in-Ok : goal.returns-in-Ok
returns-in-Ok c =
    let op = field_op_of c.args.self.now in
    let p = c.args.on.now in
    let es = map field_of c.in-Ok.list.items in
    let s = common_in op p c.requires c.keeps.ensures in
    let offers = subst₂ (λ r fs. Offers op r fs es) c.rest.ensures c.fields.ensures c.in-Ok.ensures.offers in
    record {
      made = target op common p s es c.with_common.result offers c.with_common.ensures.made c.with_common.ensures.once;
      misfit = clash_target op common p s es c.with_common.result offers c.with_common.ensures.misfit;
    }

pub returns-in-Err-clause-misfit : goal.returns-in-Err-clause-misfit
returns-in-Err-clause-misfit c =
    let op = field_op_of c.args.self.now in
    refused op common c.args.on.now (common_in op c.args.on.now c.requires c.keeps.ensures) c.in-Err.fault
    (subst₂ (λ r fs. IsMisfit c.in-Err.fault (Refuses op r fs)) c.rest.ensures c.fields.ensures c.in-Err.ensures.misfit)
