use Rattle.std.proofs.Common.{take}
use Rattle.mig_schema.specs.Reach.{lists_of, IsAddedToEach}
use Rattle.mig_schema.proofs.reach.add_to_each.Given as goal

abbrev pub invariant-loop-list : goal.invariant-loop-list
invariant-loop-list l = IsAddedToEach (take l.list-index l.lists) l.place (lists_of l.initial.users) (lists_of l.users)
