use Rattle.std.proofs.Common.{map, take}
use Rattle.mig_template.specs.View.{case_of}
use Rattle.mig_template.proofs.KeepMore.{Kept}
use Rattle.mig_template.proofs.cases.cases_are_kept.Given as goal

abbrev pub invariant-loop-case : goal.invariant-loop-case
invariant-loop-case l = Kept (map case_of (take l.case-index l.list))
