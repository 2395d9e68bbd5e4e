use Rattle.std.proofs.Common.{◌-◌}
use Rattle.mig_typed_optic.proofs.Thens.{Front}
use Rattle.mig_typed_optic.proofs.lists.take_front.Given as goal

abbrev pub invariant-loop : goal.invariant-loop
invariant-loop l = Front l.list.items l.reversed.items (l.count - l.counter) l.count l.fn.reversed.items
