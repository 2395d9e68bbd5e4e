use Rattle.std.proofs.Common.{◌≡◌, ◌++◌, ◌∷◌, [], ap, ◌∙◌, length}
use Rattle.std.proofs.lemmas.List.{map-append}
use Rattle.mig_token.specs.Token.{tok_of, toks}
use Rattle.mig_lex.proofs.Lists.{some_left, none_left}
use Rattle.mig_lex.proofs.Sequences.{begin, begin_more, begin_smaller, all_read, none_read, one_reading}
use Rattle.mig_lex.proofs.read.tokens.Goals as goal

pub loop-rest-init : goal.loop-rest-init
loop-rest-init c = record {
  begun = rw c.new-tokens.ensures.items (begin c.args.bytes.now c.after_white-rest.result.now c.after_white-rest.ensures);
  fresh = c.after_white-rest.ensures.last;
}

pub loop-rest-preserved : goal.loop-rest-preserved
loop-rest-preserved c =
    let before = c.loop-rest.tokens.items in
    let pushed : toks c.push.new.self.items ≡ toks before ++ tok_of c.in-Some.token ∷ [] = ap toks c.in_ok-push.ensures.items ∙ map-append tok_of before (c.in-Some.token ∷ []) in
    record {
      begun = rw pushed (begin_more c.args.bytes.now (toks before) c.loop-rest.rest.now c.in-Some.after.now c.after_white-rest-in-loop-rest.result.now (tok_of c.in-Some.token) c.loop-rest.invariant.begun c.in-Some.ensures c.after_white-rest-in-loop-rest.ensures);
      fresh = c.after_white-rest-in-loop-rest.ensures.last;
    }

pub loop-rest-smaller : goal.loop-rest-smaller
loop-rest-smaller c = begin_smaller c.loop-rest.rest.now c.in-Some.after.now c.after_white-rest-in-loop-rest.result.now (tok_of c.in-Some.token) c.in-Some.ensures c.after_white-rest-in-loop-rest.ensures

pub returns-in_default-clause-wrong : goal.returns-in_default-clause-wrong
returns-in_default-clause-wrong c = λ e ts x.
    let some = some_left (length c.loop-rest.rest.now) c.is_empty.result c.is_empty.ensures c.loop-rest-test.true in
    none_read c.args.bytes.now (toks c.loop-rest.tokens.items) c.loop-rest.rest.now c.loop-rest.invariant.begun c.loop-rest.invariant.fresh some c.in_default.ensures ts x

pub returns-clause-found : goal.returns-clause-found
returns-clause-found c =
    all_read c.args.bytes.now (toks c.loop-rest.tokens.items) c.loop-rest.rest.now c.loop-rest.invariant.begun (none_left (length c.loop-rest.rest.now) c.is_empty.result c.is_empty.ensures c.loop-rest-test.false)

pub returns-clause-only : goal.returns-clause-only
returns-clause-only c = λ us x. one_reading c.args.bytes.now us (toks c.loop-rest.tokens.items) x (all_read c.args.bytes.now (toks c.loop-rest.tokens.items) c.loop-rest.rest.now c.loop-rest.invariant.begun (none_left (length c.loop-rest.rest.now) c.is_empty.result c.is_empty.ensures c.loop-rest-test.false))
