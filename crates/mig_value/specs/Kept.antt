-- What a value keeps at every depth: the parts of each record in it are those of a record value, and its trees keep what trees keep.
use Rattle.std.specs.Prelude.{List}
use Rattle.mig_model.specs.Names.{Ascends}
use Rattle.mig_model.specs.Keeps.{Keeps}
use Rattle.mig_value.specs.Typed.{Typed, atom, list, left, right, rec, point, Items, no_item, item, Slots, no_slot, slot, Slot, slots, slots_of, items_of}
use Rattle.mig_value.specs.Parts.{RecordParts, IsRecordValue}

abbrev mutual
  pub ValueKept : Typed → Type 0
  ValueKept (atom t) = Keeps t
  ValueKept (list vs) = ItemsKept vs
  ValueKept (left v) = ValueKept v
  ValueKept (right v) = ValueKept v
  ValueKept (rec fs tag cs rs) = IsRecordValue (record { fields = slots fs; tag = tag; cased = slots cs; rest = slots rs }) × (SlotsKept fs × (SlotsKept cs × SlotsKept rs))
  ValueKept (point n v) = ValueKept v

  pub ItemsKept : Items → Type 0
  ItemsKept no_item = Unit {0}
  ItemsKept (item v vs) = ValueKept v × ItemsKept vs

  pub SlotsKept : Slots → Type 0
  SlotsKept no_slot = Unit {0}
  SlotsKept (slot n v ss) = ValueKept v × SlotsKept ss

-- the items of one list
abbrev pub ItemListKept : List Typed → Type 0
ItemListKept vs = ItemsKept (items_of vs)

-- the slots of one list
abbrev pub SlotListKept : List Slot → Type 0
SlotListKept ss = Ascends ss × SlotsKept (slots_of ss)

-- one record value
abbrev pub RecordValueKept : RecordParts → Type 0
RecordValueKept p = IsRecordValue p × (SlotsKept (slots_of p.fields) × (SlotsKept (slots_of p.cased) × SlotsKept (slots_of p.rest)))
