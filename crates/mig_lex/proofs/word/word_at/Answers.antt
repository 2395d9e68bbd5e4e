use Rattle.mig_lex.proofs.Words.{mark_read, name_read}
use Rattle.mig_lex.proofs.word.word_at.Goals as goal

pub returns-in-Some : goal.returns-in-Some
returns-in-Some c = mark_read c.args.bytes.now c.word_len.result c.word_len.ensures c.requires c.split_at.result.0.now c.split_at.result.1.now c.in-Some.mark c.split_at.ensures.front c.split_at.ensures.back c.in-Some.ensures

pub returns-in-None : goal.returns-in-None
returns-in-None c = name_read c.args.bytes.now c.word_len.result c.word_len.ensures c.requires c.split_at.result.0.now c.split_at.result.1.now c.split_at.ensures.front c.split_at.ensures.back c.in-None.ensures
