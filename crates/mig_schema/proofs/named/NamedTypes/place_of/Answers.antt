use Rattle.std.proofs.Common.{ap, ◌∙◌}
use Rattle.mig_schema.specs.Types.{type_place}
use Rattle.mig_schema.proofs.Types.{place_is}
use Rattle.mig_schema.proofs.named.NamedTypes.place_of.Goals as goal

pub returns : goal.returns
returns c = c.get_index_of.ensures.index ∙ place_is c.args.name.now c.self.inside.map.entries ∙ ap (λ ts. type_place ts c.args.name.now) c.self.view_is
