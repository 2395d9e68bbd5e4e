use Rattle.std.proofs.Common.{◌∙◌, List, map, sym, ap, subst₂}
use Rattle.std.proofs.lemmas.Result.{IfOk-weaker}
use Rattle.mig_model.specs.Template.{Field}
use Rattle.mig_model.specs.Record.{IsRecordOf, is_twice_named}
use Rattle.mig_template.specs.View.{field_of}
use Rattle.mig_func.proofs.Outcomes.{fault_map}
use Rattle.mig_func.proofs.Rebuilt.{common_made}
use Rattle.mig_func.proofs.Scopes.{common_clash}
use Rattle.mig_func.proofs.records.with_common.Goals as goal

pub returns : goal.returns
returns c =
    let p = c.args.on.now in
    let es : List Field = map field_of c.args.list.items in
    let clash = sym (common_clash p.fields es p.choice c.keeps.ensures.0.distinct) ∙ ap (is_twice_named es) (sym c.in_ok-choice.ensures) in
    record {
      made = IfOk-weaker c.record_of.result _ _ (λ r h. common_made p r es c.keeps.ensures (subst₂ (λ o t. IsRecordOf es o t r) c.in_ok-choice.ensures c.rest.ensures h)) c.record_of.ensures.made;
      once = IfOk-weaker c.record_of.result _ _ (λ r h. clash ∙ h) c.record_of.ensures.once;
      misfit = fault_map c.record_of.result _ _ (λ h. clash ∙ h) c.record_of.ensures.misfit;
    }
