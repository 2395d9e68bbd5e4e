use Rattle.std.proofs.Common.{List, length, map, ap, sym, subst, arith}
use Rattle.mig_model.specs.Keeps.{ItemsKeep}
use Rattle.mig_tree.specs.View.{plain_of}
use Rattle.mig_tree.specs.declared.tree.Tree.{Tree}
use Rattle.mig_tree.proofs.Kept.{items_pushed}
use Rattle.mig_tree.proofs.items.Items.push.Goals as goal

pub invariant_of-self-2 : goal.invariant_of-self-2
invariant_of-self-2 c =
    let is = c.in_ok-push.ensures.items in
    subst (λ (l : List Tree). ItemsKeep (map plain_of l)) (sym is)
    (items_pushed c.self.inside.items.items c.args.tree c.self.invariant c.keeps.ensures (omega (arith, ap length is)))
