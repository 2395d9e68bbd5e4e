use Rattle.std.proofs.Common.{◌≡◌, ◌+◌, ◌*◌, ◌-◌, map}
use Rattle.mig_token.specs.Token.{toks}
use Rattle.mig_syntax.specs.RuleView.{rule_of}
use Rattle.mig_reader.specs.Reading.{after_items}
use Rattle.mig_parse_rule.specs.Reading.{rules_at}
use Rattle.mig_parse_rule.proofs.levels.+rule.Given as goal

abbrev pub decreases-rule_at : goal.decreases-rule_at
decreases-rule_at l = 5 * l.levels

abbrev pub decreases-rules_at : goal.decreases-rules_at
decreases-rules_at l = 5 * l.levels + 1

abbrev pub decreases-on_at : goal.decreases-on_at
decreases-on_at l = 5 * l.levels + 1

abbrev pub decreases-places_at : goal.decreases-places_at
decreases-places_at l = 5 * l.levels + 1

abbrev pub decreases-seq_at : goal.decreases-seq_at
decreases-seq_at l = 5 * l.levels + 2

abbrev pub decreases-or_else_at : goal.decreases-or_else_at
decreases-or_else_at l = 5 * l.levels + 1

abbrev pub decreases-joined_at : goal.decreases-joined_at
decreases-joined_at l = 5 * l.levels + 3

abbrev pub decreases-rule_with : goal.decreases-rule_with
decreases-rule_with l = 5 * l.levels + 4

abbrev pub invariant-rules_at-loop-used : goal.invariant-rules_at-loop-used
invariant-rules_at-loop-used l =
    after_items (map rule_of l.rules.items) (rules_at (l.levels - l.used) (toks l.rest)) ≡ rules_at l.levels (toks l.tokens)
