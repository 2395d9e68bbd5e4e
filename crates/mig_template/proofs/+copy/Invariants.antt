use Rattle.std.proofs.Common.{◌≡◌, map, take}
use Rattle.mig_template.specs.View.{field_of, case_of}
use Rattle.mig_template.proofs.+copy.Given as goal

abbrev pub invariant-fields::Fields::copy-loop-field : goal.invariant-fields::Fields::copy-loop-field
invariant-fields::Fields::copy-loop-field l = map field_of l.list.items ≡ map field_of (take l.field-index l.field-items)

abbrev pub invariant-record::Choice::copy-loop-case : goal.invariant-record::Choice::copy-loop-case
invariant-record::Choice::copy-loop-case l = map case_of l.cases.items ≡ map case_of (take l.case-index l.case-items)
