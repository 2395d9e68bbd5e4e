use Rattle.std.proofs.Common.{◌≡◌, map, drop}
use Rattle.mig_template.specs.View.{field_of}
use Rattle.mig_field.specs.NewRecord.{are_easy}
use Rattle.mig_func.proofs.retags.are_easy.Given as goal

abbrev pub invariant-loop-field : goal.invariant-loop-field
invariant-loop-field l = are_easy (map field_of (drop l.field-index l.fields)) ≡ are_easy (map field_of l.fields)
