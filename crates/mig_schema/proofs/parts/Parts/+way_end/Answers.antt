use Rattle.std.proofs.Common.{sym}
use Rattle.mig_template.specs.View.{template_of}
use Rattle.mig_schema.proofs.Ways.{way_of_none, no_record}
use Rattle.mig_schema.proofs.parts.Parts.+way_end.Goals as goal

pub returns-in_default : goal.returns-in_default
returns-in_default t c =
    let template = c.args.template.now in
    sym (way_of_none c.args.self.now c.args.names.now (template_of template) (no_record template c.in_default.not-Rec))
