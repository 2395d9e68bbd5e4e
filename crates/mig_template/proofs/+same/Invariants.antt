use Rattle.std.proofs.Common.{◌≡◌, ◌+◌, ◌*◌, map, take}
use Rattle.mig_template.specs.Size.{template_size, field_list_size, cases_in_size, record_size}
use Rattle.mig_template.specs.View.{template_of, field_of, case_of}
use Rattle.mig_template.proofs.+same.Given as goal

abbrev pub invariant-fields::Fields::same-loop-at : goal.invariant-fields::Fields::same-loop-at
invariant-fields::Fields::same-loop-at l = map field_of (take l.at l.list) ≡ map field_of (take l.at l.others)

abbrev pub invariant-record::Choice::same-loop-at : goal.invariant-record::Choice::same-loop-at
invariant-record::Choice::same-loop-at l = map case_of (take l.at l.list) ≡ map case_of (take l.at l.others)

abbrev pub decreases-template::Template::same : goal.decreases-template::Template::same
decreases-template::Template::same l = 2 * template_size (template_of l.self.now)

abbrev pub decreases-fields::Field::same : goal.decreases-fields::Field::same
decreases-fields::Field::same l = 2 * template_size (template_of l.self.now.template) + 1

abbrev pub decreases-fields::Fields::same : goal.decreases-fields::Fields::same
decreases-fields::Fields::same l = 2 * field_list_size l.self.now

abbrev pub decreases-record::Case::same : goal.decreases-record::Case::same
decreases-record::Case::same l = 2 * field_list_size l.self.now.fields + 1

abbrev pub decreases-record::Choice::same : goal.decreases-record::Choice::same
decreases-record::Choice::same l = 2 * cases_in_size l.self.now

abbrev pub decreases-record::Record::same : goal.decreases-record::Record::same
decreases-record::Record::same l = 2 * record_size l.self.now
