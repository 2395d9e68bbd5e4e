use Rattle.std.proofs.Common.{◌≡◌, ◌∙◌, ap}
use Rattle.indexmap.specs.IndexSet.{insert_key}
use Rattle.mig_model.specs.Names.{same_name}
use Rattle.mig_schema.proofs.Types.{equal_is_same}
use Rattle.mig_resolve.proofs.type_names.TypeNames.add.Goals as goal

pub returns : goal.returns
returns c =
    c.in_ok-_new.ensures.keys
    ∙ ap (λ eq. insert_key eq c.self.inside.set.keys c.args.name) equal_is_same
    ∙ ap (λ ks. insert_key same_name ks c.args.name) c.self.view_is
