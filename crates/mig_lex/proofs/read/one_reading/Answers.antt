use Rattle.mig_lex.proofs.Sequences.{one_reading}
use Rattle.mig_lex.proofs.read.one_reading.Goals as goal

pub returns : goal.returns
returns c = one_reading
