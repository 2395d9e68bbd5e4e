use Rattle.mig_lex.proofs.Lists.{blank}
use Rattle.mig_lex.proofs.white.is_blank.Goals as goal

pub returns : goal.returns
returns c = let h = blank c.args.bytes.now c.after_white.result.now c.after_white.ensures in let e = c.is_empty.ensures in rw e h
