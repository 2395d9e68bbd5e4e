use Rattle.std.proofs.Common.{◌≡◌, map, drop}
use Rattle.mig_model.specs.Fields.{is_case_field}
use Rattle.mig_model.specs.Template.{cases_of}
use Rattle.mig_template.specs.View.{case_of}
use Rattle.mig_schema.proofs.parts.is_in_choice.Given as goal

abbrev pub invariant-loop-case : goal.invariant-loop-case
invariant-loop-case l = is_case_field l.name (cases_of (map case_of (drop l.case-index l.case-items))) ≡ is_case_field l.name (cases_of l.choice.1)
