-- Where a name stands in a record value, and the value there.
use Rattle.std.specs.Prelude.{ℕ, zero, suc, ◌<◌, List, [], ◌∷◌, length, Option, Some, None, option_map, if◌then◌else◌}
use Rattle.mig_model.specs.Plain as plain
use Rattle.mig_model.specs.Names.{same_name}
use Rattle.mig_value.specs.declared.place.SlotPlace.{SlotPlace}
use Rattle.mig_value.specs.declared.place.SlotPlace.TheVariants.{Field, Cased}
use Rattle.mig_value.specs.Typed.{Typed, atom, Slot}
use Rattle.mig_value.specs.Parts.{RecordParts}

-- the place of the first slot of the name
abbrev pub place_in : List ℕ → List Slot → Option ℕ
place_in x [] = None
place_in x (s ∷ ss) = if same_name x s.0 then Some 0 else option_map (λ n. suc n) (place_in x ss)

-- the value at a place
abbrev pub value_at : ℕ → List Slot → Typed
value_at n [] = atom plain.null
value_at zero (s ∷ ss) = s.1
value_at (suc n) (s ∷ ss) = value_at n ss

-- the slots with another value at a place
abbrev pub with_value_at : ℕ → Typed → List Slot → List Slot
with_value_at n w [] = []
with_value_at zero w (s ∷ ss) = (s.0, w) ∷ ss
with_value_at (suc n) w (s ∷ ss) = s ∷ with_value_at n w ss

-- a place among the fields, or else one among the fields of the case
abbrev pub first_place : Option ℕ → Option ℕ → Option SlotPlace
first_place (Some n) o = Some (Field n)
first_place None o = option_map (λ n. Cased n) o

-- where the name is among the fields and the fields of the case
abbrev pub slot_place : List ℕ → RecordParts → Option SlotPlace
slot_place x p = first_place (place_in x p.fields) (place_in x p.cased)

abbrev pub IsPlace : SlotPlace → RecordParts → Type 0
IsPlace (Field n) p = n < length p.fields
IsPlace (Cased n) p = n < length p.cased

abbrev pub value_there : SlotPlace → RecordParts → Typed
value_there (Field n) p = value_at n p.fields
value_there (Cased n) p = value_at n p.cased

-- the record value with another value at a place
abbrev pub with_value_there : SlotPlace → Typed → RecordParts → RecordParts
with_value_there (Field n) w p = record p { fields = with_value_at n w p.fields }
with_value_there (Cased n) w p = record p { cased = with_value_at n w p.cased }
