use Rattle.std.proofs.Common.{◌≡◌, subst}
use Rattle.std.specs.Prelude.{IfOk}
use Rattle.mig_func.specs.View.{field_op_of}
use Rattle.mig_func.proofs.Applied.{common_facts}
use Rattle.mig_func.proofs.function.FieldOp.apply_fields.Goals as goal

pub apply_common-requires : goal.apply_common-requires
apply_common-requires c =
    let facts =
    common_facts (field_op_of c.args.self.now) c.args.on.now c.args.given c.fields.result.now c.requires.about c.fields.ensures
    (record { fits = c.requires.fits; record_kept = c.keeps.ensures; value_kept = c.keeps-2.ensures; shape = c.requires.shape }) in
    record { ready = facts.ready; parts = facts.parts }

pub returns : goal.returns
returns c =
    let facts =
    common_facts (field_op_of c.args.self.now) c.args.on.now c.args.given c.fields.result.now c.requires.about c.fields.ensures
    (record { fits = c.requires.fits; record_kept = c.keeps.ensures; value_kept = c.keeps-2.ensures; shape = c.requires.shape }) in
    subst (λ x. IfOk c.apply_common.result (λ w. w ≡ x)) facts.same c.apply_common.ensures
