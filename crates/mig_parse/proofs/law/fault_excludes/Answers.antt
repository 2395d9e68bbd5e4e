use Rattle.mig_parse.proofs.TextLaws.{fault_excludes}
use Rattle.mig_parse.proofs.law.fault_excludes.Goals as goal

pub returns : goal.returns
returns c = fault_excludes
