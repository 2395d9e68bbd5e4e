use Rattle.std.proofs.Common.{◌≡◌, ◌++◌, map, take}
use Rattle.mig_field.specs.NewRecord.{unnested}
use Rattle.mig_template.specs.View.{field_of}
use Rattle.mig_func.proofs.nests.with_outer.Given as goal

abbrev pub invariant-loop-field : goal.invariant-loop-field
invariant-loop-field l = map field_of l.list.items ≡ map field_of l.initial.list.items ++ map (unnested l.presence) (map field_of (take l.field-index l.field-items))
