use Rattle.std.proofs.Common.{◌≡◌, map}
use Rattle.std.specs.List.{list_any}
use Rattle.std.specs.Map.{values_of}
use Rattle.mig_template.specs.View.{template_of}
use Rattle.mig_schema.specs.Check.{body_fails}
use Rattle.mig_schema.proofs.parts.Parts.any_body_fails.Given as goal

abbrev pub invariant-loop-body : goal.invariant-loop-body
invariant-loop-body l = list_any (body_fails l.self l.fault) (map template_of l.body-iterator) ≡ list_any (body_fails l.self l.fault) (values_of l.self.types)
