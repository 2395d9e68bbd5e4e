use Rattle.std.proofs.Common.{◌≡◌, map, take}
use Rattle.mig_template.specs.View.{case_of, given_case}
use Rattle.mig_func.proofs.records.copy_cases.Given as goal

abbrev pub invariant-loop-case : goal.invariant-loop-case
invariant-loop-case l = map given_case l.cases.items ≡ map case_of (take l.case-index l.case-items)
