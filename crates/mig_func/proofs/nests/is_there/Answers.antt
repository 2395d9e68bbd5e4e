use Rattle.std.proofs.Common.{◌∙◌, ap}
use Rattle.std.specs.Map.{keys_of}
use Rattle.mig_model.specs.Names.{is_among}
use Rattle.mig_model.proofs.Edits.{among_is}
use Rattle.mig_func.proofs.nests.is_there.Goals as goal

pub returns : goal.returns
returns c = c.has.ensures ∙ ap (is_among (keys_of c.args.fields.now)) c.bytes.ensures ∙ among_is c.args.fields.now c.args.name.now
