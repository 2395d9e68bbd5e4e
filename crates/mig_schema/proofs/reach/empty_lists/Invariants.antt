use Rattle.mig_schema.specs.Reach.{lists_of, AreEmpty}
use Rattle.mig_schema.proofs.reach.empty_lists.Given as goal

abbrev pub invariant-loop-list : goal.invariant-loop-list
invariant-loop-list l = AreEmpty l._list (lists_of l.lists)
