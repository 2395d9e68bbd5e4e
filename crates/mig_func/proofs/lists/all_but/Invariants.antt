use Rattle.std.proofs.Common.{◌≡◌, map, take}
use Rattle.std.specs.Prelude.{not}
use Rattle.std.specs.List.{filter}
use Rattle.mig_model.specs.Names.{same_name}
use Rattle.mig_template.specs.View.{field_of}
use Rattle.mig_func.proofs.lists.all_but.Given as goal

abbrev pub invariant-loop-field : goal.invariant-loop-field
invariant-loop-field l = map field_of l.list.items ≡ filter (λ e. not (same_name e.0 l.name)) (map field_of (take l.field-index l.field-items))
