use Rattle.std.proofs.Common.{map, take}
use Rattle.mig_value.specs.Typed.{slots_of}
use Rattle.mig_value.specs.Kept.{SlotsKept}
use Rattle.mig_value.specs.View.{slot_of}
use Rattle.mig_value.proofs.keeping.slots_are_kept.Given as goal

abbrev pub invariant-loop-slot : goal.invariant-loop-slot
invariant-loop-slot l = SlotsKept (slots_of (map slot_of (take l.slot-index l.list)))
