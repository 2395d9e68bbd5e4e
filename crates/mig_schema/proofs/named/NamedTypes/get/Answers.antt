use Rattle.std.proofs.Common.{ap, option_map, ◌∙◌}
use Rattle.mig_model.specs.Family.{find_type}
use Rattle.mig_template.specs.View.{template_of}
use Rattle.mig_schema.proofs.Types.{found_is, mapped_copied}
use Rattle.mig_schema.proofs.named.NamedTypes.get.Goals as goal

pub returns : goal.returns
returns c =
    mapped_copied template_of c.get.result ∙ ap (option_map template_of) c.get.ensures.value ∙ found_is c.args.name.now c.self.inside.map.entries ∙ ap (find_type c.args.name.now) c.self.view_is
