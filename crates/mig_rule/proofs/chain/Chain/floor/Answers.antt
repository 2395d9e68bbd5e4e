use Rattle.std.proofs.Common.{◌∙◌, ◌<◌, ℕ, sym, ap, subst}
use Rattle.std.specs.Prelude.{Contains, IfNone}
use Rattle.std.specs.List.Sorted.{IsNonDecreasingBy}
use Rattle.mig_rule.specs.Chain.{Chain, versions}
use Rattle.mig_rule.specs.ChainView.{steps_of}
use Rattle.mig_rule.proofs.Floors.{versions_rise}
use Rattle.mig_rule.proofs.chain.Chain.floor.Goals as goal

pub floor_of-requires : goal.floor_of-requires
floor_of-requires c =
    let chain = c.self.inside in
    subst (IsNonDecreasingBy (λ v. v)) (sym (c.deref.ensures.value ∙ c.self.invariant.versions_are)) (versions_rise chain.form chain.version (steps_of chain.steps.items) c.self.invariant.accepted)

pub returns-clause-none : goal.returns-clause-none
returns-clause-none c =
    subst (λ l. IfNone c.floor_of.result ((v : ℕ) → Contains l v → c.args.version < v)) (c.deref.ensures.value ∙ c.self.invariant.versions_are ∙ ap (λ (d : Chain). versions d.steps) c.self.view_is) c.floor_of.ensures.none
