-- A record value from which one value was taken out: the name of the place, and the record value with Null there.
use Rattle.std.specs.Prelude.{◌≡◌, ℕ, zero, suc, List, [], ◌∷◌, Some}
use Rattle.mig_value.specs.declared.place.SlotPlace.{SlotPlace}
use Rattle.mig_value.specs.declared.place.SlotPlace.TheVariants.{Field, Cased}
use Rattle.mig_value.specs.Typed.{Slot}
use Rattle.mig_value.specs.Parts.{RecordParts}
use Rattle.mig_value.specs.Places.{slot_place}

abbrev pub name_at : ℕ → List Slot → List ℕ
name_at n [] = []
name_at zero (s ∷ ss) = s.0
name_at (suc n) (s ∷ ss) = name_at n ss

-- the name at a place
abbrev pub name_there : SlotPlace → RecordParts → List ℕ
name_there (Field n) p = name_at n p.fields
name_there (Cased n) p = name_at n p.cased

-- it is the first place of its name
abbrev pub IsFirst : SlotPlace → RecordParts → Type 0
IsFirst place p = slot_place (name_there place p) p ≡ Some place
