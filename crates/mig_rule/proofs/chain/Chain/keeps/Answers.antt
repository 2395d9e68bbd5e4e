use Rattle.std.proofs.Common.{ℕ, subst}
use Rattle.mig_rule.specs.Chain.{Chain, IsRefusedAt}
use Rattle.mig_rule.specs.ChainView.{steps_of}
use Rattle.mig_rule.specs.declared.fault.Walk.{Walk}
use Rattle.mig_rule.proofs.Walks.{not_refused}
use Rattle.mig_rule.proofs.chain.Chain.keeps.Goals as goal

pub returns-clause-none_wrong : goal.returns-clause-none_wrong
returns-clause-none_wrong c =
    let chain = c.self.inside in
    subst (λ (d : Chain). (k : ℕ) (w : Walk) → IsRefusedAt d k w → ⊥) c.self.view_is (not_refused chain.form chain.version (steps_of chain.steps.items) c.self.invariant.accepted)
