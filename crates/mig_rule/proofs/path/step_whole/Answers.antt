use Rattle.std.proofs.Common.{◌∙◌, sym, ap, false}
use Rattle.std.specs.Prelude.{option_map}
use Rattle.mig_template.specs.View.{template_of}
use Rattle.mig_model.specs.Names.{under}
use Rattle.mig_rule.specs.Path.{step_to}
use Rattle.mig_rule.specs.View.{step_of}
use Rattle.mig_rule.proofs.Paths.{at_field, named_in_record}
use Rattle.mig_rule.proofs.path.step_whole.Goals as goal

pub returns-in-Named : goal.returns-in-Named
returns-in-Named c =
    c.field_named.ensures
    ∙ ap (λ fs. option_map at_field (under c.in-Named.name fs)) c.fields.ensures
    ∙ sym (named_in_record c.in-Named.name c.in-Rec.on)
    ∙ (λ i. step_to (step_of (sym c.in-Named.is i)) false (template_of (sym c.in-Rec.is i)))
