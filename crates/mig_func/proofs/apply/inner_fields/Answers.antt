use Rattle.std.proofs.Common.{Some, sym, ap, ◌∙◌}
use Rattle.std.specs.Prelude.{option_map}
use Rattle.mig_template.specs.View.{template_of}
use Rattle.mig_field.specs.NewRecord.{inner_fields}
use Rattle.mig_func.proofs.Within.{record_within}
use Rattle.mig_func.proofs.apply.inner_fields.Goals as goal

pub returns-in-None : goal.returns-in-None
returns-in-None c =
    ap Some c.fields.ensures
    ∙ (record_within c.in-Rec.record.fields c.in-Rec.record.choice c.in-Rec.record.rest (sym c.choice.ensures ∙ ap (option_map (λ t. t.now)) c.in-None.is)
    ∙ ap (λ t. inner_fields (template_of t)) (sym c.in-Rec.is))
