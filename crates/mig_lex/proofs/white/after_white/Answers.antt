use Rattle.std.proofs.Common.{arith}
use Rattle.std.proofs.lemmas.List.{take_rest}
use Rattle.mig_lex.proofs.Lists.{skips}
use Rattle.mig_lex.proofs.white.after_white.Goals as goal

pub returns-then-not-is_white : goal.returns-then-not-is_white
returns-then-not-is_white c = skips c.args.bytes.now _ c.loop-i.i (omega arith) c.loop-i.invariant (take_rest c.args.bytes.now c.loop-i.i) (λ h w. let t = c.is_white.ensures.1 w in let f = c.if-not-is_white.true in absurd cc)

pub returns : goal.returns
returns c = skips c.args.bytes.now _ _ (omega arith) (λ k h. c.loop-i.invariant k (omega arith)) (take_rest c.args.bytes.now _) (λ h w. omega arith)
