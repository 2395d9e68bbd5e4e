use Rattle.std.proofs.Common.{◌≡◌, List, false, Some, map, sym, ap, subst, subst₂, ◌∙◌}
use Rattle.std.specs.Map.{keys_of}
use Rattle.mig_model.specs.Names.{has_twice}
use Rattle.std.specs.Prelude.{option_map}
use Rattle.mig_model.specs.Record.{found_case}
use Rattle.mig_template.specs.View.{field_of}
use Rattle.mig_template.specs.declared.fields.Field.{Field}
use Rattle.mig_value.specs.Parts.{IsRecordValue}
use Rattle.mig_func.specs.Settled.{retagged_value, cased_value}
use Rattle.mig_func.specs.View.{field_op_of}
use Rattle.mig_func.proofs.Applied.{retag_facts, new_case_facts, new_case_once}
use Rattle.mig_func.proofs.function.FieldOp.apply_whole.Goals as goal

pub retag-requires : goal.retag-requires
retag-requires c =
    let op = field_op_of c.args.self.now in
    let p = c.args.on.now in
    let found : Some c.in-Some.fields.now ≡ found_case c.in-Retag.from p.choice = sym (ap (option_map (λ t. t.now)) c.in-Some.is) ∙ (c.case.ensures ∙ ap (λ n. found_case n p.choice) c.bytes.ensures) in
    let facts =
    retag_facts op c.in-Retag.from c.in-Retag.to p c.args.given c.in-Some.fields.now (ap field_op_of c.in-Retag.is) found
    (record { fits = c.requires.fits; record_kept = c.keeps.ensures; value_kept = c.keeps-2.ensures; shape = c.requires.shape }) in
    subst (λ r. IsRecordValue (retagged_value c.in-Retag.from c.in-Retag.to c.in-Some.fields.now r c.args.given)) (sym c.rest.ensures) facts.parts

pub give_case-requires-clause-once : goal.give_case-requires-clause-once
give_case-requires-clause-once c =
    new_case_once (field_op_of c.args.self.now) c.in-AddCase.literal c.args.on.now c.args.given c.in-AddCase.fields (ap field_op_of c.in-AddCase.is)
    (record { fits = c.requires.fits; record_kept = c.keeps.ensures; value_kept = c.keeps-2.ensures; shape = c.requires.shape })

pub give_case-requires-clause-parts : goal.give_case-requires-clause-parts
give_case-requires-clause-parts c =
    let fs = c.in-AddCase.fields in
    let facts =
    new_case_facts (field_op_of c.args.self.now) c.in-AddCase.literal c.args.on.now c.args.given fs (ap field_op_of c.in-AddCase.is)
    (record { fits = c.requires.fits; record_kept = c.keeps.ensures; value_kept = c.keeps-2.ensures; shape = c.requires.shape }) in
    subst (λ r. IsRecordValue (cased_value c.in-AddCase.literal fs r c.args.given)) (sym c.rest-in-AddCase.ensures) facts.parts
