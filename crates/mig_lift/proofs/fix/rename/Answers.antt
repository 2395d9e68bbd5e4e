use Rattle.std.proofs.Common.{◌≡◌, ◌∙◌, Some, None, sym, ap}
use Rattle.mig_tree.specs.View.{plain_of}
use Rattle.mig_model.specs.Kinds.{get_in, put_in, removed}
use Rattle.mig_lift.proofs.Edits.{renamed_there, renamed_absent}
use Rattle.mig_lift.proofs.fix.rename.Goals as goal

pub returns-in_ok-put-clause-renamed : goal.returns-in_ok-put-clause-renamed
returns-in_ok-put-clause-renamed c =
    let x = c.args.old_name.now in
    let y = c.args.new_name.now in
    let t = plain_of c.args.tree.now in
    let u = plain_of c.in-Some.moved in
    let there : get_in x t ≡ Some u = sym (c.in-Some.ensures.tree ∙ ap (λ n. get_in n t) c.bytes.ensures) in
    let rest = c.take_out.ensures.rest ∙ ap (removed y) (c.remove-moved.ensures.rest ∙ ap (λ n. removed n t) c.bytes.ensures) in
    c.in_ok-put.ensures.ok
    ∙ (λ i. put_in ((c.lent.ensures ∙ c.bytes-in-Some.ensures) i) u (rest i))
    ∙ renamed_there x y t u c.requires there

pub returns-in_default-clause-renamed : goal.returns-in_default-clause-renamed
returns-in_default-clause-renamed c =
    let x = c.args.old_name.now in
    let y = c.args.new_name.now in
    let t = plain_of c.args.tree.now in
    let absent : get_in x t ≡ None = sym (c.in_default.ensures.tree ∙ ap (λ n. get_in n t) c.bytes.ensures) in
    let rest = c.take_out.ensures.rest ∙ ap (removed y) (c.remove-moved.ensures.rest ∙ ap (λ n. removed n t) c.bytes.ensures) in
    rest ∙ renamed_absent x y t c.requires absent
