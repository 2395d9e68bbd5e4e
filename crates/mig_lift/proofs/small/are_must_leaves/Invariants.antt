use Rattle.std.proofs.Common.{◌≡◌, map, drop}
use Rattle.std.specs.List.{list_all}
use Rattle.std.specs.Map.{values_of}
use Rattle.mig_template.specs.View.{field_of}
use Rattle.mig_lift.specs.Small.{is_must_leaf}
use Rattle.mig_lift.proofs.small.are_must_leaves.Given as goal

abbrev pub invariant-loop-field : goal.invariant-loop-field
invariant-loop-field l = list_all is_must_leaf (values_of (map field_of (drop l.field-index l.fields))) ≡ list_all is_must_leaf (values_of (map field_of l.fields))
