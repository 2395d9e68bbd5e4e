use Rattle.std.proofs.Common.{◌≡◌, map, take}
use Rattle.std.specs.Prelude.{not}
use Rattle.std.specs.List.{filter}
use Rattle.mig_model.specs.Names.{same_name}
use Rattle.mig_template.specs.View.{case_of, given_case}
use Rattle.mig_func.proofs.records.cases_but.Given as goal

abbrev pub invariant-loop-case : goal.invariant-loop-case
invariant-loop-case l = map given_case l.cases.items ≡ filter (λ e. not (same_name e.0 l.literal)) (map case_of (take l.case-index l.case-items))
