use Rattle.std.proofs.Common.{◌∙◌}
use Rattle.mig_schema.proofs.Among.{among_is_field}
use Rattle.mig_schema.proofs.parts.is_field.Goals as goal

pub returns : goal.returns
returns c = c.has.ensures ∙ among_is_field c.args.name.now c.args.fields.now
