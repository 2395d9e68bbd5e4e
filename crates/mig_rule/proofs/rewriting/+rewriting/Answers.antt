use Rattle.std.proofs.Common.{◌≡◌, ◌∙◌, sym, ap, subst}
use Rattle.std.specs.Prelude.{IfOk, option_map}
use Rattle.mig_template.specs.View.{template_of}
use Rattle.mig_rule.specs.Rule as model
use Rattle.mig_rule.specs.Target.{target}
use Rattle.mig_rule.specs.View.{rule_of}
use Rattle.mig_rule.proofs.rewriting.+rewriting.Goals as goal

pub rewritten-returns-in-All : goal.rewritten-returns-in-All
rewritten-returns-in-All t c =
    let V = template_of c.args.template.now in
    let n = c.args.name.now in
    let rule : model.all (rule_of c.get-in-All.result.now) ≡ rule_of c.args.rule.now = ap model.all c.get-in-All.ensures ∙ ap rule_of (sym c.in-All.is) in
    subst (λ r. IfOk c.in_children.result (λ x. option_map template_of x ≡ target r n V)) rule c.in_children.ensures
