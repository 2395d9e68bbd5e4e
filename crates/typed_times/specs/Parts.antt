-- What the parts of a save's way give.
use Rattle.std.specs.Prelude.{◌≡◌, ℕ, List}
use Rattle.mig_model.specs.Kinds.{IsMap}
use Rattle.mig_model.specs.Plain.{Plain}
use Rattle.mig_nbt.specs.Format.{NbtSave}
use Rattle.mig_nbt.specs.Writing.{IsName, IsSpelled, save_text}

-- the tree is that of the save, and can be written
pub record IsSave (bytes name : List ℕ) (t : Plain) : Type 0 where
  pub save : NbtSave bytes name t
  pub named : IsName name
  pub map : IsMap t
  pub spelled : IsSpelled t

-- the text is the canonical one of the save
abbrev pub IsWritten : List ℕ → List ℕ → Type 0
IsWritten bytes text = (name : List ℕ) × (t : Plain) × NbtSave bytes name t × (text ≡ save_text name t)
