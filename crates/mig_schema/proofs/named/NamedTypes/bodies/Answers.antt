use Rattle.std.proofs.Common.{ap, map, ◌∙◌}
use Rattle.std.specs.Map.{values_of}
use Rattle.mig_template.specs.View.{template_of}
use Rattle.mig_schema.proofs.Types.{bodies_kept}
use Rattle.mig_schema.proofs.named.NamedTypes.bodies.Goals as goal

pub returns : goal.returns
returns c = ap (map template_of) c.values.ensures.rest ∙ bodies_kept c.self.inside.map.entries ∙ ap values_of c.self.view_is
