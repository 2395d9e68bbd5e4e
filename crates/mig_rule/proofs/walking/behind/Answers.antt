use Rattle.std.proofs.Common.{◌≡◌, ◌∙◌, ◌∷◌, Some, refl, sym, ap, subst}
use Rattle.mig_rule.specs.Chain.{IsWrong, IsFirst, IsPassed, after, next_schema}
use Rattle.mig_rule.specs.ChainView.{chain_step_of, steps_of}
use Rattle.mig_rule.specs.Walking.{known_of, IsWrongThere}
use Rattle.mig_rule.proofs.Walks.{every_ok}
use Rattle.mig_rule.proofs.walking.behind.Goals as goal

pub returns-in-Some-clause-wrong : goal.returns-in-Some-clause-wrong
returns-in-Some-clause-wrong c =
    let later = steps_of c.args.later.now in
    (refl, subst (λ x. IsFirst (IsWrong c.args.form c.args.path.now (known_of c.args.known) x later) c.in-Some.walk) (ap chain_step_of (sym c.in-Schema.is)) (c.in-Some.ensures.some later))

pub returns-in-Ok-clause-known : goal.returns-in-Ok-clause-known
returns-in-Ok-clause-known c =
    ap (λ f. Some (c.args.known.version, f)) c.in-Ok.ensures.family ∙ ap (λ x. after (known_of c.args.known) (chain_step_of x)) (sym c.in-Fix.is)

pub returns-clause-wrong : goal.returns-clause-wrong
returns-clause-wrong c =
    let later = steps_of c.args.later.now in
    let ahead : c.args.known.ahead ≡ next_schema later = c.requires ∙ ap (λ x. next_schema (chain_step_of x ∷ later)) c.in-Fix.is in
    subst (λ x. IsWrongThere c.in-Err.fault c.args.place (IsWrong c.args.form c.args.path.now (known_of c.args.known) x later)) (ap chain_step_of (sym c.in-Fix.is)) (c.in-Err.ensures.wrong c.args.form c.args.path.now later ahead)

pub returns-in-Schema-clause-passed : goal.returns-in-Schema-clause-passed
returns-in-Schema-clause-passed c =
    let later = steps_of c.args.later.now in
    every_ok c.behind_schema.result (subst (λ x. IsPassed c.args.form c.args.path.now (known_of c.args.known) x later) (ap chain_step_of (sym c.in-Schema.is)) (c.in-None.ensures.none later))

pub returns-in-Ok-clause-passed : goal.returns-in-Ok-clause-passed
returns-in-Ok-clause-passed c =
    let later = steps_of c.args.later.now in
    let ahead : c.args.known.ahead ≡ next_schema later = c.requires ∙ ap (λ x. next_schema (chain_step_of x ∷ later)) c.in-Fix.is in
    subst (λ x. IsPassed c.args.form c.args.path.now (known_of c.args.known) x later) (ap chain_step_of (sym c.in-Fix.is)) (c.in-Ok.ensures.passed c.args.form c.args.path.now later ahead)
