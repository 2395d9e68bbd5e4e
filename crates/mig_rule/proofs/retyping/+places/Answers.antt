use Rattle.std.proofs.Common.{◌∙◌, ◌<◌, ◌-◌, sym, arith}
use Rattle.mig_template.specs.View.{template_of}
use Rattle.mig_rule.specs.Target.{place_or, places_within}
use Rattle.mig_rule.proofs.OneLevel.{places_step}
use Rattle.mig_rule.proofs.Rebuilt.{ok_then}
use Rattle.mig_rule.proofs.retyping.+places.Goals as goal

pub returns : goal.returns
returns g t c = λ R h.
    let x = c.args.name.now in
    let V = template_of c.args.template.now in
    let some : 0 < c.args.levels = omega (arith, c.if-levels-eq0.false) in
    ok_then c.by_children.result (λ o e. e ∙ sym (places_step x R c.args.levels V some)) (c.by_children.ensures (place_or x R (places_within x R (c.args.levels - 1))) (λ child r p. p.1 R h))
