use Rattle.std.proofs.Common.{◌≡◌, map, take}
use Rattle.mig_model.specs.Names.{those}
use Rattle.mig_template.specs.View.{field_of}
use Rattle.mig_func.proofs.lists.those.Given as goal

abbrev pub invariant-loop-field : goal.invariant-loop-field
invariant-loop-field l = map field_of l.list.items ≡ those l.names (map field_of (take l.field-index l.field-items))
