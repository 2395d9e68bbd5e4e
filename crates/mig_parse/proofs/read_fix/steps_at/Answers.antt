use Rattle.std.proofs.Common.{◌≡◌, ◌++◌, ◌∷◌, [], length, map, true, false, ap, ◌∙◌, rules}
use Rattle.std.proofs.lemmas.List.{map-append}
use Rattle.std.proofs.lemmas.Result.{err_from_is_err_and}
use Rattle.mig_token.specs.declared.mark.Mark.TheVariants as M
use Rattle.mig_token.specs.Token.{toks}
use Rattle.mig_syntax.specs.DeclView.{step_of}
use Rattle.mig_reader.specs.Reading.{begins}
use Rattle.mig_parse.specs.Reading.{steps_at}
use Rattle.mig_parse.proofs.FixLaws.{no_step, last_step, further_step, no_more_step}
use Rattle.mig_parse.proofs.read_fix.steps_at.Goals as goal

pub returns-in_err-step : goal.returns-in_err-step
returns-in_err-step c =
    let n = length c.args.tokens.now in
    let p = err_from_is_err_and c.from_residual.result c.from_residual.ensures.1 in
    rw (p.1, p.2) (no_step c.in_err-step.field-0.0 (map step_of c.loop.steps.items) n c.loop.counter (toks c.loop.rest.now) (steps_at n (toks c.args.tokens.now)) c.loop-test.true c.in_err-step.ensures c.loop.invariant)

pub returns-then-begins : goal.returns-then-begins
returns-then-begins c =
    let n = length c.args.tokens.now in
    let ends : begins M.Colon (toks c.in_ok-step.after.now) ≡ true = search rules in
    let pushed : map step_of c.push.new.self.items ≡ map step_of c.loop.steps.items ++ step_of c.in_ok-step.step ∷ [] = ap (map step_of) c.in_ok-push.ensures.items ∙ map-append step_of c.loop.steps.items (c.in_ok-step.step ∷ []) in
    rw pushed (last_step (map step_of c.loop.steps.items) n c.loop.counter (toks c.loop.rest.now) (step_of c.in_ok-step.step) (toks c.in_ok-step.after.now) (steps_at n (toks c.args.tokens.now)) c.loop-test.true c.in_ok-step.ensures ends c.loop.invariant)

pub loop-preserved : goal.loop-preserved
loop-preserved c =
    let n = length c.args.tokens.now in
    let more : begins M.Colon (toks c.in_ok-step.after.now) ≡ false = search rules in
    let pushed : map step_of c.push.new.self.items ≡ map step_of c.loop.steps.items ++ step_of c.in_ok-step.step ∷ [] = ap (map step_of) c.in_ok-push.ensures.items ∙ map-append step_of c.loop.steps.items (c.in_ok-step.step ∷ []) in
    let e : toks c.onward-rest.result.now ≡ toks c.in_ok-step.after.now = search rules in
    rw (pushed, e) (further_step (map step_of c.loop.steps.items) n c.loop.counter (toks c.loop.rest.now) (step_of c.in_ok-step.step) (toks c.in_ok-step.after.now) (steps_at n (toks c.args.tokens.now)) c.loop-test.true c.in_ok-step.ensures more c.loop.invariant)

pub returns : goal.returns
returns c =
    let n = length c.args.tokens.now in
    no_more_step (map step_of c.loop.steps.items) n c.loop.counter (toks c.loop.rest.now) (steps_at n (toks c.args.tokens.now)) c.loop-test.false c.loop.invariant
