use Rattle.mig_parse.proofs.TextLaws.{one_syntax}
use Rattle.mig_parse.proofs.law.one_syntax.Goals as goal

pub returns : goal.returns
returns c = one_syntax
