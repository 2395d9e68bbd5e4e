use Rattle.std.proofs.Common.{◌≡◌, take}
use Rattle.mig_schema.specs.Types.{named_all}
use Rattle.mig_rule.proofs.family_after.types_of.Given as goal

abbrev pub invariant-loop-place : goal.invariant-loop-place
invariant-loop-place l = named_all l.types.items ≡ take l.place l.family.types
