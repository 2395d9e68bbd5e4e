use Rattle.std.proofs.Common.{sym, ap, ◌∙◌}
use Rattle.std.specs.Prelude.{option_map}
use Rattle.mig_model.specs.Record.{found_case}
use Rattle.mig_func.specs.View.{scope_of, field_op_of}
use Rattle.mig_func.proofs.Applied.{cased_facts}
use Rattle.mig_func.proofs.function.FieldFn.apply_to.Goals as goal

pub apply_cased-requires : goal.apply_cased-requires
apply_cased-requires c =
    let facts =
    cased_facts (field_op_of c.args.self.now.op) (scope_of c.args.self.now.scope) c.in-Case.literal c.args.on.now c.args.given c.in-Some.fields.now (ap scope_of c.in-Case.is)
    (sym c.has_literal.ensures ∙ c.if-not-has_literal.false)
    (sym (ap (option_map (λ t. t.now)) c.in-Some.is) ∙ (c.case.ensures ∙ ap (λ n. found_case n c.args.on.now.choice) c.bytes.ensures))
    (record { fits = c.requires.fits; record_kept = c.keeps.ensures; value_kept = c.keeps-2.ensures; shape = c.requires.shape }) in
    record { ready = facts.ready; parts = facts.parts }
