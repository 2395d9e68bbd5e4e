-- The slots in hand as plain data, and what the functions ask of them.
use Rattle.std.specs.Prelude.{map}
use Rattle.mig_model.specs.Names.{Ascends}
use Rattle.mig_value.specs.View.{slot_of}
use Rattle.mig_action.specs.Moves as model
use Rattle.mig_slots.specs.declared.moving.Moving.{Moving}

abbrev pub moving_of : Moving → model.Moving
moving_of m = record { slots = map slot_of m.slots.items; rest = map slot_of m.rest.items }

-- both lists ascend by name
pub record IsOrdered (m : model.Moving) : Type 0 where
  pub slots : Ascends m.slots
  pub rest : Ascends m.rest
