use Rattle.std.proofs.Common.{◌∙◌}
use Rattle.mig_tree.specs.View.{plain_of}
use Rattle.mig_model.specs.Kinds.{put_in}
use Rattle.mig_leaf.specs.View.{const_of}
use Rattle.mig_lift.proofs.Edits.{added}
use Rattle.mig_lift.proofs.fix.add.Goals as goal

pub returns-clause-added : goal.returns-clause-added
returns-clause-added c =
    c.in_ok-put.ensures.ok
    ∙ (λ i. put_in ((c.lent.ensures ∙ c.bytes.ensures) i) (c.in_ok-constant.ensures i) (c.take_out.ensures.rest i))
    ∙ added c.args.name.now (const_of c.args.constant.now) (plain_of c.args.tree.now) c.requires
