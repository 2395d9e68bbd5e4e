-- What becomes of one save.
use Rattle.std.specs.Prelude.{ℕ, pos, List, [], ◌∷◌, Option, Some, None, option_map, Result, Ok, Err, nat_lt, nat_le, if◌then◌else◌}
use Rattle.std.specs.Option.{option_or}
use Rattle.mig_model.specs.declared.form.Form.{Form}
use Rattle.mig_model.specs.declared.form.Form.TheVariants as F
use Rattle.mig_model.specs.Plain as plain
use Rattle.mig_model.specs.Plain.{Plain}
use Rattle.mig_model.specs.Version.{last_version, version_in, strip, put_version}
use Rattle.mig_model.specs.Family.{Family}
use Rattle.mig_model.specs.Place.{Place, place}
use Rattle.mig_model.specs.Fields.{if_so}
use Rattle.mig_rule.specs.Chain.{Chain, versions, families}
use Rattle.mig_rule.specs.Lifted.{fixed_by, numbered}
use Rattle.mig_json.specs.Decode.{decode_json}
use Rattle.mig_json.specs.Writing.{json_text}
use Rattle.mig_nbt.specs.Reading.{save_at}
use Rattle.mig_nbt.specs.Writing.{save_text}
use Rattle.mig_schema.specs.Version.{version_tree}
use Rattle.mig_lift.specs.declared.fault.VersionKind.{VersionKind}
use Rattle.mig_lift.specs.declared.fault.VersionKind.TheVariants as V

-- a lifted save: what is written for it, and its version before
pub record Save : Type 0 where
  pub bytes : List ℕ
  pub version : ℕ

-- why a save is refused
pub data Cause : Type 0 where
  bytes : Cause
  version : VersionKind → Cause
  schema : Place → Cause

-- the root's name and the tree of a file, or none where the bytes are no file of the form; the name is empty in the JSON form
abbrev pub decode : Form → List ℕ → Option (List ℕ × Plain)
decode F.Nbt b = save_at b
decode F.Json b = option_map (λ t. ([], t)) (decode_json b)

-- the canonical text
abbrev pub encode : Form → List ℕ → Plain → List ℕ
encode F.Nbt name t = save_text name t
encode F.Json name t = json_text t

-- a version is an Int (NBT) or a Whole (JSON) from 0 to the last version
abbrev pub counted : ℕ → Result ℕ VersionKind
counted n = if nat_le n last_version then Ok n else Err V.Wrong

abbrev pub number_in : Form → Plain → Result ℕ VersionKind
number_in F.Nbt (plain.int (pos n)) = counted n
number_in F.Json (plain.whole (pos n)) = counted n
number_in form t = Err V.Wrong

abbrev pub or_missing : Option ℕ → Result ℕ VersionKind
or_missing None = Err V.Absent
or_missing (Some n) = Ok n

abbrev pub version_at : Chain → Option Plain → Result ℕ VersionKind
version_at c None = or_missing c.missing
version_at c (Some t) = number_in c.form t

-- the version of a save's tree: that at the version path, or else the `missing` number
abbrev pub version_of : Chain → Plain → Result ℕ VersionKind
version_of c t = version_at c (version_in c.version t)

-- the family of the last of the versions that isn't above v, or none where each is above it
abbrev pub floor_in : ℕ → List ℕ → List Family → Option Family
floor_in v (u ∷ us) (f ∷ fs) = option_or (floor_in v us fs) (if_so (nat_le u v) f)
floor_in v us fs = None

abbrev pub floor_family : Chain → ℕ → Option Family
floor_family c v = floor_in v (versions c.steps) (families c.steps)

-- the tree without its version, after the fixes, with the target put at the version path; and the save's version
abbrev pub lifted_from : Chain → ℕ → Plain → ℕ → Plain × ℕ
lifted_from c target t v = (put_version c.version (version_tree c.form target) (fixed_by v target (numbered c.steps) (strip c.version t)), v)

-- the first wrong place refuses
abbrev pub lift_where_it_fits : Chain → ℕ → Plain → ℕ → Option Place → Result (Plain × ℕ) Cause
lift_where_it_fits c target t v None = Ok (lifted_from c target t v)
lift_where_it_fits c target t v (Some p) = Err (schema p)

-- by the family of the greatest schema not above the version
abbrev pub lift_from_floor : Chain → ℕ → Plain → ℕ → Option Family → Result (Plain × ℕ) Cause
lift_from_floor c target t v None = Err (version (V.Below v))
lift_from_floor c target t v (Some f) = if nat_lt target v then Err (version (V.Above v)) else lift_where_it_fits c target t v (place f f.root (strip c.version t))

abbrev pub lift_with_version : Chain → ℕ → Plain → Result ℕ VersionKind → Result (Plain × ℕ) Cause
lift_with_version c target t (Err k) = Err (version k)
lift_with_version c target t (Ok v) = lift_from_floor c target t v (floor_family c v)

-- what becomes of the tree of a save: the first cause that holds from the version on, or the lifted tree and the version before
unfoldable pub lift_tree : Chain → ℕ → Plain → Result (Plain × ℕ) Cause
lift_tree c target t = lift_with_version c target t (version_of c t)

abbrev pub encoded : Form → List ℕ → Result (Plain × ℕ) Cause → Result Save Cause
encoded form name (Ok x) = Ok (record { bytes = encode form name x.0; version = x.1 })
encoded form name (Err cause) = Err cause

abbrev pub decoded : Chain → ℕ → Option (List ℕ × Plain) → Result Save Cause
decoded c target None = Err bytes
decoded c target (Some x) = encoded c.form x.0 (lift_tree c target x.1)

-- what becomes of the bytes of a save: the first cause that holds, or the canonical text of the lifted tree
unfoldable pub lift : Chain → ℕ → List ℕ → Result Save Cause
lift c target b = decoded c target (decode c.form b)
