-- What a function asks of the fields and slots of its scope, and the parts of a record value after it.
use Rattle.std.specs.Prelude.{List, Option, is_some, IfSome, IsTrue, option_and_then}
use Rattle.mig_model.specs.Template.{Field}
use Rattle.mig_slots.specs.Fitting.{FitsAtom, OneFitsSide}
use Rattle.mig_value.specs.Parts.{RecordParts}
use Rattle.mig_model.specs.Names.{under}
use Rattle.mig_field.specs.FieldFn.{FieldOp, map_leaf, unify, unnest}
use Rattle.mig_field.specs.NewRecord.{FieldType, inner_fields}
use Rattle.mig_field.specs.Act.{left_kind}
use Rattle.mig_action.specs.Moves.{Moving, move}

-- the fields of the record under a field
abbrev pub fields_within : Option FieldType → Option (List Field)
fields_within s = option_and_then (λ t. inner_fields t.1) s

-- leaf functions fit the leaves that stand there, and a record to be unnested is one
abbrev pub IsReady : FieldOp → List Field → Moving → Type 0
IsReady (map_leaf x f) fs m = IfSome (under x m.slots) (FitsAtom f)
IsReady (unify x f g) fs m = IfSome (under x m.slots) (OneFitsSide f g (left_kind (under x fs)))
IsReady (unnest y) fs m = IsTrue (is_some (fields_within (under y fs)))
IsReady op fs m = Unit {0}

abbrev pub in_common : RecordParts → Moving
in_common v = record { slots = v.fields; rest = v.rest }

abbrev pub in_cased : RecordParts → Moving
in_cased v = record { slots = v.cased; rest = v.rest }

-- the parts after a function on the common fields, and after one on the fields of the tag's case
abbrev pub common_after : FieldOp → List Field → RecordParts → RecordParts
common_after op fs v = let m = move op fs (in_common v) in record { fields = m.slots; tag = v.tag; cased = v.cased; rest = m.rest }

abbrev pub cased_after : FieldOp → List Field → RecordParts → RecordParts
cased_after op fs v = let m = move op fs (in_cased v) in record { fields = v.fields; tag = v.tag; cased = m.slots; rest = m.rest }
