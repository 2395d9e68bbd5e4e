use Rattle.std.proofs.Common.{◌∙◌, ap}
use Rattle.mig_rule.specs.Target.{if_it_fits, changed}
use Rattle.mig_rule.proofs.retyping.all_children.Goals as goal

pub returns : goal.returns
returns g c = λ R h. c.changed.ensures ∙ ap changed (c.in_ok-outcome.ensures (λ k. if_it_fits (R k.1)) (λ child r p. p.1 R h))
