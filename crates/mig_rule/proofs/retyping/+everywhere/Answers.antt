use Rattle.std.proofs.Common.{◌≡◌, ◌∙◌, ◌<◌, ◌-◌, Some, None, sym, ap, arith}
use Rattle.std.specs.Prelude.{option_map}
use Rattle.mig_template.specs.View.{template_of}
use Rattle.mig_rule.specs.Target.{all_children, everywhere_within, then_itself}
use Rattle.mig_rule.proofs.OneLevel.{everywhere_step}
use Rattle.mig_rule.proofs.Rebuilt.{ok_then}
use Rattle.mig_rule.proofs.retyping.+everywhere.Goals as goal

pub returns-in-Some : goal.returns-in-Some
returns-in-Some g t c = λ R h.
    let V = template_of c.args.template.now in
    let some : 0 < c.args.levels = omega (arith, c.if-levels-eq0.false) in
    let parts : Some (template_of c.in-Some.changed) ≡ all_children (everywhere_within R (c.args.levels - 1)) V =
    sym (ap (option_map template_of) c.in-Some.is) ∙ c.in_ok-changed.ensures (everywhere_within R (c.args.levels - 1)) (λ part r p. p R h) in
    ok_then c.then_itself.result (λ x e. e ∙ ap (then_itself R V) parts ∙ sym (everywhere_step R c.args.levels V some)) (c.then_itself.ensures R h)

pub returns-in-None : goal.returns-in-None
returns-in-None g t c = λ R h.
    let V = template_of c.args.template.now in
    let some : 0 < c.args.levels = omega (arith, c.if-levels-eq0.false) in
    let parts : None ≡ all_children (everywhere_within R (c.args.levels - 1)) V =
    sym (ap (option_map template_of) c.in-None.is) ∙ c.in_ok-changed.ensures (everywhere_within R (c.args.levels - 1)) (λ part r p. p R h) in
    ok_then c.retype.result (λ x e. e ∙ ap (then_itself R V) parts ∙ sym (everywhere_step R c.args.levels V some)) (h _ c.retype.result c.retype.ensures)
