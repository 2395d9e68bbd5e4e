use Rattle.std.proofs.Common.{◌∙◌, sym, ap, map}
use Rattle.std.specs.Prelude.{option_map, unwrap_or}
use Rattle.mig_model.specs.Family.{find_type}
use Rattle.mig_model.specs.Template.{any}
use Rattle.mig_template.specs.View.{template_of}
use Rattle.mig_rule.specs.Path.{end_kind, whole}
use Rattle.mig_rule.specs.View.{step_of}
use Rattle.mig_rule.proofs.Paths.{end_at_any}
use Rattle.mig_rule.proofs.path.end_kind.Goals as goal

pub returns-in_err-body : goal.returns-in_err-body
returns-in_err-body c =
    let f = c.args.family.now in
    let steps = map step_of c.args.steps.now in
    let none = ap (λ n. find_type n f.types) (sym c.root.ensures) ∙ sym c.body.ensures ∙ ap (option_map (λ t. template_of t.now)) c.in_err-body.was in
    c.from_residual.ensures
    ∙ sym (ap (λ o. end_kind f steps (whole (unwrap_or o any))) none ∙ end_at_any f steps)
