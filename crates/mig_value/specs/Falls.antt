-- What is inside a value is smaller than the value.
use Rattle.std.specs.Prelude.{◌≤◌, List, [], ◌∷◌, map}
use Rattle.std.proofs.Common.{arith}
use denote.Param.Weighed.{most}
use Rattle.mig_value.specs.declared.value.Value.{Value}
use Rattle.mig_value.specs.declared.value.Value.TheVariants as V
use Rattle.mig_value.specs.declared.slots.Slot.{Slot}
use Rattle.mig_value.specs.declared.boxed.ValueBox.TheDeep.{deep-Value, deep-Slot}
use Rattle.mig_value.specs.Typed.{typed_size, item_list_size, slot_list_size}
use Rattle.mig_value.specs.View.{typed_of, slot_of}

pub deep_le : (v : Value) → deep-Value v ≤ typed_size (typed_of v)
deep_le (V.List vs) = omega arith
deep_le (V.Left v) = omega arith
deep_le (V.Right v) = omega arith
deep_le (V.Rec r) = omega arith
deep_le (V.Point n) = omega arith
deep_le v = omega arith

pub most_items : (vs : List Value) → most deep-Value vs ≤ item_list_size (map typed_of vs)
most_items [] = omega arith
most_items (v ∷ vs) = omega (arith, deep_le v, most_items vs)

pub most_slots : (ss : List Slot) → most deep-Slot ss ≤ slot_list_size (map slot_of ss)
most_slots [] = omega arith
most_slots (s ∷ ss) = omega (arith, deep_le s.value, most_slots ss)
