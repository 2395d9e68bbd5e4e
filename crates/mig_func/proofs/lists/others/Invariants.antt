use Rattle.std.proofs.Common.{◌≡◌, map, take}
use Rattle.mig_model.specs.Names.{others}
use Rattle.mig_template.specs.View.{field_of}
use Rattle.mig_func.proofs.lists.others.Given as goal

abbrev pub invariant-loop-field : goal.invariant-loop-field
invariant-loop-field l = map field_of l.list.items ≡ others l.names (map field_of (take l.field-index l.field-items))
