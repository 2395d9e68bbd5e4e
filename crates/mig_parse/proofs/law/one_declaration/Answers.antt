use Rattle.mig_parse.proofs.DeclarationLaws.{one_declaration}
use Rattle.mig_parse.proofs.law.one_declaration.Goals as goal

pub returns : goal.returns
returns c = one_declaration
