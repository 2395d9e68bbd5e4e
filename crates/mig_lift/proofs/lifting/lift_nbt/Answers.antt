use Rattle.std.proofs.Common.{◌≡◌, Ok, Err, sym, ap, subst, ◌∙◌}
use Rattle.mig_tree.specs.View.{plain_of}
use Rattle.mig_lift.specs.Lift.{lift, lift_tree, encode, encoded}
use Rattle.mig_lift.specs.View.{Causes}
use Rattle.mig_nbt.specs.Writing.{save_text}
use Rattle.mig_lift.proofs.Decoded.{nothing, something, caused, passed}
use Rattle.mig_lift.proofs.lifting.lift_nbt.Goals as goal

pub returns-in-Err-Wrong-clause-lifts : goal.returns-in-Err-Wrong-clause-lifts
returns-in-Err-Wrong-clause-lifts g c = nothing c.args.chain.now c.args.target c.args.bytes.now c.requires.form (c.in-Err-Wrong.ensures.wrong (ap Err c.in-Err-Wrong.field-0-is))

pub returns-in_err-tree-clause-lifts : goal.returns-in_err-tree-clause-lifts
returns-in_err-tree-clause-lifts g c =
    let s = c.args.chain.now in
    let decoded : lift s c.args.target c.args.bytes.now ≡ encoded s.form c.in-Ok.found.0 (lift_tree s c.args.target (plain_of c.in-Ok.found.1)) =
    something s c.args.target c.args.bytes.now c.requires.form c.in-Ok.found.0 (plain_of c.in-Ok.found.1) c.in-Ok.ensures.found in
    passed c.in_err-tree.field-0.0 c.from_residual.result (lift s c.args.target c.args.bytes.now) c.from_residual.ensures
    (subst (Causes c.in_err-tree.field-0.0) (sym decoded) (caused s.form c.in-Ok.found.0 c.in_err-tree.field-0.0 (lift_tree s c.args.target (plain_of c.in-Ok.found.1)) c.in_err-tree.ensures.lifts))

pub returns-clause-lifts : goal.returns-clause-lifts
returns-clause-lifts g c =
    let s = c.args.chain.now in
    let decoded : lift s c.args.target c.args.bytes.now ≡ encoded s.form c.in-Ok.found.0 (lift_tree s c.args.target (plain_of c.in-Ok.found.1)) =
    something s c.args.target c.args.bytes.now c.requires.form c.in-Ok.found.0 (plain_of c.in-Ok.found.1) c.in-Ok.ensures.found in
    decoded ∙ ap (encoded s.form c.in-Ok.found.0) c.in_ok-tree.ensures.lifts
    ∙ ap (λ f. Ok (record { bytes = encode f c.in-Ok.found.0 (plain_of c.in_ok-tree.tree); version = c.in_ok-tree.version })) c.requires.form
    ∙ ap (λ b. Ok (record { bytes = b; version = c.in_ok-tree.version })) (ap (λ n. save_text n (plain_of c.in_ok-tree.tree)) (sym c.bytes.ensures) ∙ sym c.in_ok-written.ensures.text)
