use Rattle.std.proofs.Common.{◌≡◌, map, drop}
use Rattle.mig_model.specs.Place.{missing}
use Rattle.mig_model.specs.Template.{fields_of}
use Rattle.mig_template.specs.View.{field_of}
use Rattle.mig_row.proofs.row.look_for_missing.Given as goal

abbrev pub invariant-loop-field : goal.invariant-loop-field
invariant-loop-field l = missing (fields_of (map field_of (drop l.field-index l.field-items))) l.entries ≡ missing (fields_of l.fields) l.entries
