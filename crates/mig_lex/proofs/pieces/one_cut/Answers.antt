use Rattle.mig_lex.proofs.Cutting.{one_cut}
use Rattle.mig_lex.proofs.pieces.one_cut.Goals as goal

pub returns : goal.returns
returns c = one_cut
