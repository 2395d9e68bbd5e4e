use Rattle.std.proofs.Common.{◌≡◌, map, take}
use Rattle.std.specs.List.{list_any}
use Rattle.mig_schema.specs.Types.{named_all}
use Rattle.mig_rule.specs.Fix.{fits_type, type_after}
use Rattle.mig_rule.specs.View.{rule_of}
use Rattle.mig_rule.proofs.family_after.types_after.Given as goal

abbrev pub invariant-loop-place : goal.invariant-loop-place
invariant-loop-place l =
    (named_all l.types.items ≡ map (type_after (rule_of l.rule)) (take l.place l.family.types))
    × (l.fits ≡ list_any (fits_type (rule_of l.rule)) (take l.place l.family.types))
