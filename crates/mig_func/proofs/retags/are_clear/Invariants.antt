use Rattle.std.proofs.Common.{◌≡◌, map, drop}
use Rattle.mig_template.specs.View.{field_of}
use Rattle.mig_func.specs.New.{are_clear}
use Rattle.mig_func.proofs.retags.are_clear.Given as goal

abbrev pub invariant-loop-field : goal.invariant-loop-field
invariant-loop-field l = are_clear (map field_of (drop l.field-index l.fields)) ≡ are_clear (map field_of l.fields)
