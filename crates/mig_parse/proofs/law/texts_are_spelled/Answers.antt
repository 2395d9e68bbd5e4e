use Rattle.mig_parse.proofs.DeclarationTexts.{texts_are_spelled}
use Rattle.mig_parse.proofs.law.texts_are_spelled.Goals as goal

pub returns : goal.returns
returns c = texts_are_spelled
