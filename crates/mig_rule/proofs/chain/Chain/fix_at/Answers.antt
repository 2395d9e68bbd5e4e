use Rattle.std.proofs.Common.{◌≡◌, ◌∙◌, Some, None, sym, ap}
use Rattle.std.specs.Prelude.{slice_get}
use Rattle.mig_rule.specs.Chain.{Chain, fixes}
use Rattle.mig_rule.specs.ChainView.{fix_in, fix_places, steps_of}
use Rattle.mig_rule.proofs.ChainLookups.{no_fix, fix_found}
use Rattle.mig_rule.proofs.chain.Chain.fix_at.Goals as goal

pub returns-in-Some : goal.returns-in-Some
returns-in-Some c =
    let xs = steps_of c.self.inside.steps.items in
    let i = c.args.place in
    let place : slice_get (fix_places 0 xs) i ≡ Some c.in-Some.at = ap (λ l. slice_get l i) (sym (c.deref.ensures.value ∙ c.self.invariant.fixes_are)) ∙ sym c.number_at.ensures ∙ c.in-Some.is in
    c.fix_of_step.ensures
    ∙ ap (λ l. fix_in (slice_get (steps_of l) c.in-Some.at)) c.deref-in-Some.ensures.value
    ∙ sym (fix_found xs i c.in-Some.at place)
    ∙ ap (λ (d : Chain). slice_get (fixes d.steps) i) c.self.view_is

pub returns-in-None : goal.returns-in-None
returns-in-None c =
    let xs = steps_of c.self.inside.steps.items in
    let i = c.args.place in
    let none : slice_get (fix_places 0 xs) i ≡ None = ap (λ l. slice_get l i) (sym (c.deref.ensures.value ∙ c.self.invariant.fixes_are)) ∙ sym c.number_at.ensures ∙ c.in-None.is in
    sym (no_fix 0 xs i none) ∙ ap (λ (d : Chain). slice_get (fixes d.steps) i) c.self.view_is
