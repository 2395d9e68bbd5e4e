use Rattle.std.proofs.Common.{◌+◌, ◌*◌, map}
use Rattle.mig_syntax.specs.RuleSyntax.{rule_size, rule_list_size}
use Rattle.mig_syntax.specs.RuleView.{rule_of}
use Rattle.mig_resolve_rule.proofs.walk.+walk.Given as goal

abbrev pub decreases-any_function : goal.decreases-any_function
decreases-any_function g l = 2 * rule_size (rule_of l.rule.now)

abbrev pub decreases-any_function_of : goal.decreases-any_function_of
decreases-any_function_of g l = 2 * rule_list_size (map rule_of l.rules.now) + 1
