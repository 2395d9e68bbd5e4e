use Rattle.std.proofs.Common.{◌≡◌, ◌∙◌, ◌+◌, ◌<◌, ◌∷◌, ℕ, List, length, get_or, sym, ap, drop, subst, arith}
use Rattle.mig_rule.specs.Chain.{next_schema}
use Rattle.mig_rule.specs.ChainView.{chain_step_of, steps_of}
use Rattle.mig_rule.specs.Walking.{known_of, IsReached}
use Rattle.mig_tree.proofs.Places.{drop_here}
use Rattle.mig_rule.specs.declared.chain_step.ChainStep.{ChainStep}
use Rattle.mig_rule.proofs.Walks.{none_yet, one_further, wrong_later}
use Rattle.mig_rule.proofs.walking.follow.Goals as goal

-- the step at the place, and those behind it
ahead : (xs ys : List ChainStep) (i : ℕ) (x : ChainStep) → i < length xs → x ≡ get_or xs i x → ys ≡ drop (i + 1) xs → steps_of (drop i xs) ≡ chain_step_of x ∷ steps_of ys
ahead xs ys i x l e behind = ap steps_of (drop_here xs i x l e) ∙ ap (λ l. chain_step_of x ∷ steps_of l) (sym behind)

pub loop-place-init : goal.loop-place-init
loop-place-init c = (none_yet c.args.form c.args.path.now (known_of c.args.known) (steps_of c.args.steps.now), c.requires)

pub loop-place-preserved : goal.loop-place-preserved
loop-place-preserved c =
    let xs = c.args.steps.now in
    let i = c.loop-place.place in
    let x = c.index-steps-place.result in
    let ys = c.later_than-later.result.now in
    let next = ahead xs ys i x (omega arith) c.index-steps-place.is c.later_than-later.ensures in
    let before = subst (IsReached c.args.form c.args.path.now (known_of c.args.known) (steps_of xs) i (known_of c.loop-place.known)) next c.loop-place.invariant.0 in
    let now = one_further c.args.form c.args.path.now (known_of c.args.known) (known_of c.loop-place.known) (known_of c.in-Ok.next) (steps_of xs) (steps_of ys) (chain_step_of x) i before c.in-Ok.ensures.passed c.in-Ok.ensures.known in
    (subst (λ l. IsReached c.args.form c.args.path.now (known_of c.args.known) (steps_of xs) (i + 1) (known_of c.in-Ok.next) (steps_of l)) c.later_than-later.ensures now, c.in-Ok.ensures.ahead ∙ ap (λ l. next_schema (steps_of l)) c.later_than-later.ensures)

pub returns-in-Err-clause-wrong : goal.returns-in-Err-clause-wrong
returns-in-Err-clause-wrong c =
    let xs = c.args.steps.now in
    let i = c.loop-place.place in
    let x = c.index-steps-place.result in
    let ys = c.later_than-later.result.now in
    let next = ahead xs ys i x (omega arith) c.index-steps-place.is c.later_than-later.ensures in
    let before = subst (IsReached c.args.form c.args.path.now (known_of c.args.known) (steps_of xs) i (known_of c.loop-place.known)) next c.loop-place.invariant.0 in
    wrong_later c.args.form c.args.path.now (known_of c.args.known) (known_of c.loop-place.known) (steps_of xs) (steps_of ys) (chain_step_of x) i c.in-Err.fault before c.in-Err.ensures.wrong
