use Rattle.std.proofs.Common.{◌≡◌, ◌+◌, ◌*◌, ◌-◌, map, length}
use Rattle.mig_token.specs.Token.{toks}
use Rattle.mig_syntax.specs.TemplateView.{field_of, case_of}
use Rattle.mig_reader.specs.Reading.{listed_at, after_items}
use Rattle.mig_parse_template.specs.Reading.{field_at, cases_at, members_at, template_at, after_fields}
use Rattle.mig_parse_template.proofs.levels.+part.Given as goal

abbrev pub decreases-part_at : goal.decreases-part_at
decreases-part_at l = 12 * l.levels

abbrev pub decreases-template_at : goal.decreases-template_at
decreases-template_at l = 12 * l.levels + 1

abbrev pub decreases-field_at : goal.decreases-field_at
decreases-field_at l = 12 * l.levels + 2

abbrev pub decreases-fields_at : goal.decreases-fields_at
decreases-fields_at l = 12 * l.levels + 3

abbrev pub decreases-braced_at : goal.decreases-braced_at
decreases-braced_at l = 12 * l.levels + 4

abbrev pub decreases-case_at : goal.decreases-case_at
decreases-case_at l = 12 * l.levels + 5

abbrev pub decreases-cases_at : goal.decreases-cases_at
decreases-cases_at l = 12 * l.levels + 6

abbrev pub decreases-choice_at : goal.decreases-choice_at
decreases-choice_at l = 12 * l.levels + 7

abbrev pub decreases-last_choice_at : goal.decreases-last_choice_at
decreases-last_choice_at l = 12 * l.levels + 8

abbrev pub decreases-members_at : goal.decreases-members_at
decreases-members_at l = 12 * l.levels + 9

abbrev pub decreases-record_at : goal.decreases-record_at
decreases-record_at l = 12 * l.levels + 10

abbrev pub decreases-compound_at : goal.decreases-compound_at
decreases-compound_at l = 12 * l.levels + 11

abbrev pub invariant-members_at-loop : goal.invariant-members_at-loop
invariant-members_at-loop l =
    after_fields (map field_of l.fields.items) (members_at (template_at l.levels) (length l.tokens - l.counter) (toks l.rest))
    ≡ members_at (template_at l.levels) (length l.tokens) (toks l.tokens)

abbrev pub invariant-fields_at-loop : goal.invariant-fields_at-loop
invariant-fields_at-loop l =
    after_items (map field_of l.fields.items) (listed_at (field_at (template_at l.levels)) (length l.tokens - l.counter) (toks l.rest))
    ≡ listed_at (field_at (template_at l.levels)) (length l.tokens) (toks l.tokens)

abbrev pub invariant-cases_at-loop : goal.invariant-cases_at-loop
invariant-cases_at-loop l =
    after_items (map case_of l.cases.items) (cases_at (template_at l.levels) (length l.tokens - l.counter) (toks l.rest))
    ≡ cases_at (template_at l.levels) (length l.tokens) (toks l.tokens)
