use Rattle.std.proofs.Common.{◌≡◌, [], Ok, Err, sym, ap, subst, ◌∙◌}
use Rattle.mig_tree.specs.View.{plain_of}
use Rattle.mig_json.specs.Save.{JsonSave}
use Rattle.mig_lift.specs.Lift.{lift, lift_tree, encode, encoded}
use Rattle.mig_lift.specs.View.{Causes}
use Rattle.mig_lift.proofs.Decoded.{no_json, some_json, caused, passed}
use Rattle.mig_lift.proofs.lifting.lift_json.Goals as goal

pub returns-in-Err-Wrong-clause-lifts : goal.returns-in-Err-Wrong-clause-lifts
returns-in-Err-Wrong-clause-lifts g c = no_json c.args.chain.now c.args.target c.args.bytes.now c.requires.form (c.in-Err-Wrong.ensures.wrong (ap Err c.in-Err-Wrong.field-0-is))

pub returns-in_err-tree-2-clause-lifts : goal.returns-in_err-tree-2-clause-lifts
returns-in_err-tree-2-clause-lifts g c =
    let s = c.args.chain.now in
    let t = plain_of c.in_ok-tree.tree in
    let save : JsonSave c.args.bytes.now t = subst (JsonSave c.args.bytes.now) (sym c.in_ok-tree.ensures.tree) c.in-Ok.ensures.found in
    let decoded : lift s c.args.target c.args.bytes.now ≡ encoded s.form [] (lift_tree s c.args.target t) =
    some_json s c.args.target c.args.bytes.now c.requires.form t save in
    passed c.in_err-tree-2.field-0.0 c.from_residual-in_err-tree-2.result (lift s c.args.target c.args.bytes.now) c.from_residual-in_err-tree-2.ensures
    (subst (Causes c.in_err-tree-2.field-0.0) (sym decoded) (caused s.form [] c.in_err-tree-2.field-0.0 (lift_tree s c.args.target t) c.in_err-tree-2.ensures.lifts))

pub returns-clause-lifts : goal.returns-clause-lifts
returns-clause-lifts g c =
    let s = c.args.chain.now in
    let t = plain_of c.in_ok-tree.tree in
    let save : JsonSave c.args.bytes.now t = subst (JsonSave c.args.bytes.now) (sym c.in_ok-tree.ensures.tree) c.in-Ok.ensures.found in
    some_json s c.args.target c.args.bytes.now c.requires.form t save
    ∙ ap (encoded s.form []) c.in_ok-tree-2.ensures.lifts
    ∙ ap (λ f. Ok (record { bytes = encode f [] (plain_of c.in_ok-tree-2.tree); version = c.in_ok-tree-2.version })) c.requires.form
    ∙ ap (λ b. Ok (record { bytes = b; version = c.in_ok-tree-2.version })) (sym c.in_ok-written.ensures.text)
