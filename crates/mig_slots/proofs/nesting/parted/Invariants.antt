use Rattle.std.proofs.Common.{◌≡◌, map}
use Rattle.mig_value.specs.View.{slot_of}
use Rattle.mig_model.specs.Names.{those, others}
use Rattle.mig_slots.proofs.nesting.parted.Given as goal

abbrev pub invariant-loop-slot : goal.invariant-loop-slot
invariant-loop-slot l = record {
  inside : map slot_of l.inside.items ≡ those l.names (map slot_of l.yielded);
  outside : map slot_of l.outside.items ≡ others l.names (map slot_of l.yielded);
}
