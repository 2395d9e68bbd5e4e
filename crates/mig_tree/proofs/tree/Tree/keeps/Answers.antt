use Rattle.std.proofs.Common.{sym, subst}
use Rattle.mig_model.specs.Keeps.{Keeps}
use Rattle.mig_tree.specs.View.{plain_of}
use Rattle.mig_tree.specs.declared.tree.Tree.{Tree}
use Rattle.mig_tree.proofs.Kept.{list_keeps, map_keeps}
use Rattle.mig_tree.proofs.tree.Tree.keeps.Goals as goal

pub returns-in-List : goal.returns-in-List
returns-in-List c = subst (λ (t : Tree). Keeps (plain_of t)) (sym c.in-List.is) (list_keeps c.in-List.items c.as_slice-items.ensures.keep)

pub returns-in-Map : goal.returns-in-Map
returns-in-Map c = subst (λ (t : Tree). Keeps (plain_of t)) (sym c.in-Map.is) (map_keeps c.in-Map.entries c.as_slice-entries.ensures.keep)
