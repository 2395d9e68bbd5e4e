use Rattle.std.proofs.Common.{◌∙◌, ap, length}
use Rattle.mig_rule.specs.Chain.{Chain, fixes}
use Rattle.mig_rule.specs.ChainView.{steps_of}
use Rattle.mig_rule.proofs.ChainLookups.{as_many_fixes}
use Rattle.mig_rule.proofs.chain.Chain.fixes.Goals as goal

pub returns : goal.returns
returns c =
    ap length (c.as_slice.ensures.value ∙ c.self.invariant.fixes_are) ∙ as_many_fixes 0 (steps_of c.self.inside.steps.items) ∙ ap (λ (d : Chain). length (fixes d.steps)) c.self.view_is
