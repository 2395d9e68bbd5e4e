use Rattle.std.proofs.Common.{map, subst}
use Rattle.mig_field.specs.FieldFn.{in_case}
use Rattle.mig_template.specs.View.{field_of}
use Rattle.mig_func.specs.New.{IsMisfit, Offers, Refuses}
use Rattle.mig_func.specs.View.{field_op_of}
use Rattle.mig_func.proofs.Targets.{case_in, target, clash_target, refused}
use Rattle.mig_func.proofs.function.FieldOp.in_case.Goals as goal

pub returns-in-Ok : goal.returns-in-Ok
returns-in-Ok c =
    let op = field_op_of c.args.self.now in
    let p = c.args.on.now in
    let es = map field_of c.in-Ok.list.items in
    let s = case_in op c.args.literal.now p c.args.choice.now c.args.fields.now c.keeps.ensures c.requires.same c.requires.found in
    let offers = subst (λ r. Offers op r c.args.fields.now es) c.rest.ensures c.in-Ok.ensures.offers in
    record {
      made = target op (in_case c.args.literal.now) p s es c.with_case.result offers c.with_case.ensures.made c.with_case.ensures.once;
      misfit = clash_target op (in_case c.args.literal.now) p s es c.with_case.result offers c.with_case.ensures.misfit;
    }

pub returns-in-Err-clause-misfit : goal.returns-in-Err-clause-misfit
returns-in-Err-clause-misfit c =
    let op = field_op_of c.args.self.now in
    refused op (in_case c.args.literal.now) c.args.on.now (case_in op c.args.literal.now c.args.on.now c.args.choice.now c.args.fields.now c.keeps.ensures c.requires.same c.requires.found) c.in-Err.fault
    (subst (λ r. IsMisfit c.in-Err.fault (Refuses op r c.args.fields.now)) c.rest.ensures c.in-Err.ensures.misfit)
