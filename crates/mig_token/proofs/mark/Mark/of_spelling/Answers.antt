use Rattle.std.proofs.Common.{arith}
use Rattle.mig_token.proofs.Marks.{no_mark}
use Rattle.mig_token.proofs.mark.Mark.of_spelling.Goals as goal

pub returns : goal.returns
returns c = no_mark c.args.word.now (λ k h. c.loop-mark.invariant k (omega arith))
