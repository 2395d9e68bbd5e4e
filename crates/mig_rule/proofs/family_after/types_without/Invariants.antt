use Rattle.std.proofs.Common.{◌≡◌, take}
use Rattle.std.specs.Prelude.{not}
use Rattle.std.specs.List.{filter}
use Rattle.mig_schema.specs.Types.{named_all}
use Rattle.mig_model.specs.Names.{same_name}
use Rattle.mig_rule.proofs.family_after.types_without.Given as goal

abbrev pub invariant-loop-place : goal.invariant-loop-place
invariant-loop-place l = named_all l.types.items ≡ filter (λ t. not (same_name l.name t.0)) (take l.place l.family.types)
