use Rattle.std.proofs.Common.{List, map, sym, subst}
use Rattle.mig_value.specs.Typed.{Typed}
use Rattle.mig_value.specs.Kept.{SlotListKept}
use Rattle.mig_value.specs.View.{slot_of}
use Rattle.mig_value.specs.declared.slots.Slot.{Slot}
use Rattle.mig_model.proofs.Rising.{nothing_ascends}
use Rattle.mig_value.proofs.slots.Slots.empty.Goals as goal

pub invariant_of-result : goal.invariant_of-result
invariant_of-result c = subst (λ (l : List Slot). SlotListKept (map slot_of l)) (sym c.new.ensures.items) (nothing_ascends Typed, tt)
