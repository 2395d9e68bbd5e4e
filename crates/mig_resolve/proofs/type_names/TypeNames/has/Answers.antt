use Rattle.std.proofs.Common.{◌≡◌, ◌∙◌, ap}
use Rattle.std.specs.List.{list_any}
use Rattle.mig_model.specs.Names.{is_among}
use Rattle.mig_schema.proofs.Types.{equal_is_same}
use Rattle.mig_resolve.proofs.type_names.TypeNames.has.Goals as goal

pub returns : goal.returns
returns c =
    c.contains.ensures
    ∙ ap (λ eq. list_any (eq c.args.name.now) c.self.inside.set.keys) equal_is_same
    ∙ ap (λ ks. is_among ks c.args.name.now) c.self.view_is
