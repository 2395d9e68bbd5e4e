-- The plain value that a `Value` stands for: one level, since what is inside is seen as plain data already.
use Rattle.std.specs.Prelude.{ℕ, List}
use Rattle.mig_tree.specs.View.{plain_of}
use Rattle.mig_value.specs.Typed as typed
use Rattle.mig_value.specs.Typed.{Typed, items_of}
use Rattle.mig_value.specs.Parts.{record_of}
use Rattle.mig_value.specs.declared.value.Value.{Value}
use Rattle.mig_value.specs.declared.value.Value.TheVariants as V
use Rattle.mig_value.specs.declared.slots.Slot.{Slot}

abbrev pub typed_of : Value → Typed
typed_of (V.Atom t) = typed.atom (plain_of t)
typed_of (V.List vs) = typed.list (items_of vs)
typed_of (V.Left v) = typed.left v
typed_of (V.Right v) = typed.right v
typed_of (V.Rec r) = record_of r
typed_of (V.Point n) = typed.point n.value.0 n.value.1

abbrev pub slot_of : Slot → List ℕ × Typed
slot_of s = (s.name, typed_of s.value)
