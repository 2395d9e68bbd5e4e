use Rattle.std.proofs.Common.{◌+◌, ◌*◌, map}
use Rattle.mig_syntax.specs.RuleSyntax.{rule_size, rule_list_size}
use Rattle.mig_syntax.specs.RuleView.{rule_of}
use Rattle.mig_resolve_rule.proofs.rules.+resolving.Given as goal

abbrev pub decreases-rule : goal.decreases-rule
decreases-rule l = 4 * rule_size (rule_of l.text.now)

abbrev pub decreases-on_heap : goal.decreases-on_heap
decreases-on_heap l = 4 * rule_size (rule_of l.text.now) + 1

abbrev pub decreases-either : goal.decreases-either
decreases-either l = 4 * (rule_size (rule_of l.one.now) + rule_size (rule_of l.other.now)) + 3

abbrev pub decreases-in_order : goal.decreases-in_order
decreases-in_order l = 4 * rule_list_size (map rule_of l.rules.now) + 3

abbrev pub decreases-then : goal.decreases-then
decreases-then l = 4 * (rule_size (rule_of l.first.now) + rule_list_size (map rule_of l.later.now)) + 2
