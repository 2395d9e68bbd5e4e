use Rattle.std.proofs.Common.{◌≡◌, ◌∙◌, sym, ap, subst, List, Option, map, length}
use Rattle.std.specs.Prelude.{option_map}
use Rattle.std.proofs.lemmas.List.{length-map}
use Rattle.mig_model.specs.Template.{Field}
use Rattle.mig_model.specs.Record.{IsRecord, Cases}
use Rattle.mig_template.specs.Retyped.{with_templates}
use Rattle.mig_template.specs.View.{template_of, given_templates}
use Rattle.mig_template.proofs.Retyped.{still_record}
use Rattle.mig_template.proofs.record.Record.with_templates.Goals as goal

pub invariant_of-result : goal.invariant_of-result
invariant_of-result c =
    let p = c.args.self.now in
    let oss = map given_templates c.args.cased.items in
    let as_many : length (given_templates c.args.common) ≡ length p.fields = length-map c.args.common.items (option_map template_of) ∙ c.requires.common in
    let still = still_record (given_templates c.args.common) oss p.fields p.choice as_many c.requires.cased c.keeps.ensures.0 in (
      subst (λ (q : List Field × Option Cases). IsRecord q.0 q.1) (λ i. (sym (c.in_ok-fields.ensures ∙ ap (with_templates (given_templates c.args.common)) c.fields.ensures) i, sym c.in_ok-choice.ensures.choice i)) still,
      (c.keeps-2.ensures.1, c.in_ok-choice.ensures.keep),
    )
