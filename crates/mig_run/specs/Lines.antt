-- The lines of the report. Each ends in one line feed.
use Rattle.std.specs.Prelude.{ℕ, List, [], ◌∷◌, ◌++◌, Option, Some, None, Result, Ok, Err, codes, decimal, flat_map}
use Rattle.mig_tree.specs.Place.{place_text}
use Rattle.mig_tree.specs.Spelling.{spelled_byte}
use Rattle.mig_lift.specs.declared.fault.VersionKind.{VersionKind}
use Rattle.mig_lift.specs.declared.fault.VersionKind.TheVariants as V
use Rattle.mig_lift.specs.Lift.{Save, Cause}
use Rattle.mig_lift.specs.Lift as lifting

-- a name as printable text
abbrev pub as_printed : List ℕ → List ℕ
as_printed name = flat_map spelled_byte name

abbrev pub kind_line : VersionKind → List ℕ
kind_line V.Absent = codes "absent"
kind_line V.Wrong = codes "wrong"
kind_line (V.Below v) = codes "below " ++ decimal v
kind_line (V.Above v) = codes "above " ++ decimal v

abbrev pub refusal : Cause → List ℕ
refusal lifting.bytes = codes ": refused bytes"
refusal (lifting.version k) = codes ": refused version " ++ kind_line k
refusal (lifting.schema p) = codes ": refused schema " ++ place_text p

-- what a save's line says behind its name
abbrev pub said : ℕ → Result Save Cause → List ℕ
said target (Ok save) = codes ": lifted " ++ decimal save.version ++ codes " to " ++ decimal target
said target (Err cause) = refusal cause

-- the line of a save
abbrev pub save_line : ℕ → List ℕ → Result Save Cause → List ℕ
save_line target name outcome = as_printed name ++ said target outcome ++ 10 ∷ []

-- a listed save: its name, and what became of it; nothing where its read answered that nothing is there
abbrev pub Listed : Type 0
Listed = List ℕ × Option (Result Save Cause)

-- what a listed save's line says behind its name
abbrev pub tells : ℕ → Option (Result Save Cause) → List ℕ
tells target None = codes ": refused absent"
tells target (Some outcome) = said target outcome

abbrev pub listed_line : ℕ → Listed → List ℕ
listed_line target s = as_printed s.0 ++ tells target s.1 ++ 10 ∷ []

abbrev pub listed_lines : ℕ → List Listed → List ℕ
listed_lines target saves = flat_map (listed_line target) saves

abbrev pub usage_line : List ℕ
usage_line = codes "usage" ++ 10 ∷ []

abbrev pub absent_line : List ℕ
absent_line = codes "chain: absent" ++ 10 ∷ []

abbrev pub too_long_line : List ℕ
too_long_line = codes "chain: too long" ++ 10 ∷ []

abbrev pub declaration_line : ℕ → List ℕ
declaration_line k = codes "chain: declaration " ++ decimal k ++ 10 ∷ []

abbrev pub fault_line : ℕ → ℕ → List ℕ
fault_line n k = codes "chain: fault " ++ decimal n ++ codes " at " ++ decimal k ++ 10 ∷ []

abbrev pub accepted_line : ℕ → ℕ → List ℕ
accepted_line schemas fixes = codes "accepted " ++ decimal schemas ++ codes " schemas " ++ decimal fixes ++ codes " fixes" ++ 10 ∷ []

abbrev pub not_yet_line : List ℕ
not_yet_line = codes "chain: not yet" ++ 10 ∷ []

abbrev pub below_line : ℕ → List ℕ
below_line first = codes "target below " ++ decimal first ++ 10 ∷ []
