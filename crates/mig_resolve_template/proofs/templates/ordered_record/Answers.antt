use Rattle.std.proofs.Common.{◌∙◌, map, ap}
use Rattle.mig_model.specs.Record.{choice_of}
use Rattle.mig_model.specs.Template as model
use Rattle.mig_template.specs.View as values
use Rattle.mig_resolve_template.specs.Templates.{in_order, choice_in_order}
use Rattle.mig_resolve_template.proofs.InOrder.{record_is}
use Rattle.mig_resolve_template.proofs.templates.ordered_record.Goals as goal

pub returns-in-Ok-clause-some : goal.returns-in-Ok-clause-some
returns-in-Ok-clause-some c =
    let fs = map values.field_of c.args.fields.items in
    let choice = values.given_choice c.args.choice in
    record_is fs choice c.rest.result c.in-Ok.record c.in-Ok.ensures.made
    ∙ ap (model.rec (model.fields_of (in_order fs)) (choice_of (choice_in_order choice))) c.rest.ensures
