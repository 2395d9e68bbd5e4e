use Rattle.std.proofs.Common.{◌≡◌, drop, length, true, false, rules}
use Rattle.std.proofs.lemmas.Result.{err_from_is_err_and}
use Rattle.mig_token.specs.declared.mark.Mark.TheVariants as M
use Rattle.mig_token.specs.Token.{toks}
use Rattle.mig_reader.specs.Reading.{begins, text_at, listed_at}
use Rattle.mig_reader.proofs.Lists.{no_item, last_item, further_item, no_turn}
use Rattle.mig_parse_function.proofs.function.texts_at.Goals as goal

pub returns-in_err-name : goal.returns-in_err-name
returns-in_err-name c =
    let n = length c.args.tokens.now in
    let p = err_from_is_err_and c.from_residual.result c.from_residual.ensures.1 in
    rw (p.1, p.2) (no_item text_at c.in_err-name.field-0.0 c.loop.names.items n c.loop.counter (toks c.loop.rest.now) (listed_at text_at n (toks c.args.tokens.now)) c.loop-test.true c.in_err-name.ensures c.loop.invariant)

pub returns-then-not-begins : goal.returns-then-not-begins
returns-then-not-begins c =
    let n = length c.args.tokens.now in
    let ends : begins M.Comma (toks c.in_ok-name.after.now) ≡ false = search rules in
    rw c.in_ok-push.ensures.items (last_item text_at c.loop.names.items n c.loop.counter (toks c.loop.rest.now) c.in_ok-name.name (toks c.in_ok-name.after.now) (listed_at text_at n (toks c.args.tokens.now)) c.loop-test.true c.in_ok-name.ensures ends c.loop.invariant)

pub loop-preserved : goal.loop-preserved
loop-preserved c =
    let n = length c.args.tokens.now in
    let more : begins M.Comma (toks c.in_ok-name.after.now) ≡ true = search rules in
    let e : toks c.behind_first-rest.result.now ≡ drop 1 (toks c.in_ok-name.after.now) = search rules in
    rw (c.in_ok-push.ensures.items, e) (further_item text_at c.loop.names.items n c.loop.counter (toks c.loop.rest.now) c.in_ok-name.name (toks c.in_ok-name.after.now) (listed_at text_at n (toks c.args.tokens.now)) c.loop-test.true c.in_ok-name.ensures more c.loop.invariant)

pub returns : goal.returns
returns c =
    let n = length c.args.tokens.now in
    no_turn text_at c.loop.names.items n c.loop.counter (toks c.loop.rest.now) (listed_at text_at n (toks c.args.tokens.now)) c.loop-test.false c.loop.invariant
