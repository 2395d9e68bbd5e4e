use Rattle.std.proofs.Common.{◌≡◌, ◌∙◌, sym, ap, subst, List, map, rules, arith}
use Rattle.std.specs.List.{remove}
use Rattle.std.proofs.lemmas.Cmp.{nat_list_cmp_total}
use Rattle.mig_model.specs.Names.{without}
use Rattle.mig_tree.specs.View.{entry_of}
use Rattle.mig_tree.specs.declared.entries.Entry.{Entry}
use Rattle.mig_model.proofs.Searches.{nothing_removed, removed}
use Rattle.mig_model.specs.Keeps.{EntriesKeep}
use Rattle.mig_tree.proofs.Kept.{removed_keeps}
use Rattle.mig_tree.proofs.Places.{tree_there, no_tree_there}
use Rattle.mig_tree.proofs.entries.Entries.remove.Goals as goal

pub invariant_of-self : goal.invariant_of-self
invariant_of-self c =
    let xs = c.self.inside.list.items in
    let is : c.remove-name.new.self.items ≡ remove xs c.in-Ok.at = search rules in
    subst (λ (l : List Entry). EntriesKeep (map entry_of l)) (sym is) (removed_keeps xs c.in-Ok.at c.self.invariant)

pub returns-in-Ok-clause-rest : goal.returns-in-Ok-clause-rest
returns-in-Ok-clause-rest c =
    let xs = c.self.inside.list.items in
    let is : c.remove-name.new.self.items ≡ remove xs c.in-Ok.at = search rules in
    ap (λ (l : List Entry). map entry_of l) is ∙ removed nat_list_cmp_total entry_of c.args.name.now xs c.in-Ok.at (grind arith) ∙ ap (without c.args.name.now) c.self.view_is

pub returns-in-Ok-clause-tree : goal.returns-in-Ok-clause-tree
returns-in-Ok-clause-tree c =
    tree_there c.args.name.now c.self.inside.list.items c.args.self.now c.self.view_is c.in-Ok.at c.remove-name.result (grind arith) (grind arith) (search rules)

pub returns-in-Err-clause-tree : goal.returns-in-Err-clause-tree
returns-in-Err-clause-tree c = no_tree_there c.args.name.now c.self.inside.list.items c.args.self.now c.self.view_is c.in-Err.field-0 c.self.invariant.0 (grind arith)

pub returns-in-Err-clause-rest : goal.returns-in-Err-clause-rest
returns-in-Err-clause-rest c =
    let xs = c.self.inside.list.items in
    sym c.self.view_is ∙ sym (nothing_removed nat_list_cmp_total entry_of c.args.name.now xs c.in-Err.field-0 c.self.invariant.0 (grind arith)) ∙ ap (without c.args.name.now) c.self.view_is
