use Rattle.std.proofs.Common.{rules, arith}
use Rattle.mig_tree.proofs.Places.{tree_there, no_tree_there}
use Rattle.mig_tree.proofs.entries.Entries.get.Goals as goal

pub returns-in-Ok : goal.returns-in-Ok
returns-in-Ok c =
    tree_there c.args.name.now c.self.inside.list.items c.args.self.now c.self.view_is c.in-Ok.at c.index.result.now (grind arith) (grind arith) (search rules)

pub returns-in-Err : goal.returns-in-Err
returns-in-Err c = no_tree_there c.args.name.now c.self.inside.list.items c.args.self.now c.self.view_is c.in-Err.field-0 c.self.invariant.0 (grind arith)
