use Rattle.std.proofs.Common.{map, sym, subst}
use Rattle.mig_model.specs.Keeps.{EntriesKeep}
use Rattle.mig_tree.specs.View.{entry_of}
use Rattle.mig_tree.proofs.Kept.{nothing_keeps}
use Rattle.mig_tree.proofs.entries.Entries.empty.Goals as goal

pub invariant_of-result : goal.invariant_of-result
invariant_of-result c = subst (λ xs. EntriesKeep (map entry_of xs)) (sym c.new.ensures.items) nothing_keeps
