use Rattle.mig_parse.proofs.TextLaws.{one_fault}
use Rattle.mig_parse.proofs.law.one_fault.Goals as goal

pub returns : goal.returns
returns c = one_fault
