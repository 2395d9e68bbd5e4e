use Rattle.std.proofs.Common.{◌≡◌, drop, length, true, false, rules}
use Rattle.std.proofs.lemmas.Result.{err_from_is_err_and}
use Rattle.mig_token.specs.declared.mark.Mark.TheVariants as M
use Rattle.mig_token.specs.Token.{toks}
use Rattle.mig_reader.specs.Reading.{begins, listed_at}
use Rattle.mig_parse_leaf.specs.Reading.{pair_at}
use Rattle.mig_reader.proofs.Lists.{no_item, last_item, further_item, no_turn}
use Rattle.mig_parse_leaf.proofs.leaf.pairs_at.Goals as goal

pub returns-in_err-pair : goal.returns-in_err-pair
returns-in_err-pair c =
    let n = length c.args.tokens.now in
    let p = err_from_is_err_and c.from_residual.result c.from_residual.ensures.1 in
    rw (p.1, p.2) (no_item pair_at c.in_err-pair.field-0.0 c.loop.pairs.items n c.loop.counter (toks c.loop.rest.now) (listed_at pair_at n (toks c.args.tokens.now)) c.loop-test.true c.in_err-pair.ensures c.loop.invariant)

pub returns-then-not-begins : goal.returns-then-not-begins
returns-then-not-begins c =
    let n = length c.args.tokens.now in
    let ends : begins M.Comma (toks c.in_ok-pair.after.now) ≡ false = search rules in
    rw c.in_ok-push.ensures.items (last_item pair_at c.loop.pairs.items n c.loop.counter (toks c.loop.rest.now) c.in_ok-pair.pair (toks c.in_ok-pair.after.now) (listed_at pair_at n (toks c.args.tokens.now)) c.loop-test.true c.in_ok-pair.ensures ends c.loop.invariant)

pub loop-preserved : goal.loop-preserved
loop-preserved c =
    let n = length c.args.tokens.now in
    let more : begins M.Comma (toks c.in_ok-pair.after.now) ≡ true = search rules in
    let e : toks c.behind_first-rest.result.now ≡ drop 1 (toks c.in_ok-pair.after.now) = search rules in
    rw (c.in_ok-push.ensures.items, e) (further_item pair_at c.loop.pairs.items n c.loop.counter (toks c.loop.rest.now) c.in_ok-pair.pair (toks c.in_ok-pair.after.now) (listed_at pair_at n (toks c.args.tokens.now)) c.loop-test.true c.in_ok-pair.ensures more c.loop.invariant)

pub returns : goal.returns
returns c =
    let n = length c.args.tokens.now in
    no_turn pair_at c.loop.pairs.items n c.loop.counter (toks c.loop.rest.now) (listed_at pair_at n (toks c.args.tokens.now)) c.loop-test.false c.loop.invariant
