use Rattle.std.proofs.Common.{◌+◌, ◌*◌}
use Rattle.mig_rule.specs.Code.{rule_size}
use Rattle.mig_rule.specs.View.{rule_of}
use Rattle.mig_rule.proofs.rewriting.+rewriting.Given as goal

abbrev pub decreases-rewritten : goal.decreases-rewritten
decreases-rewritten l = 4 * rule_size (rule_of l.rule.now)

abbrev pub decreases-in_children : goal.decreases-in_children
decreases-in_children l = 4 * rule_size (rule_of l.rule.now) + 2

abbrev pub decreases-in_children-retype : goal.decreases-in_children-retype
decreases-in_children-retype l = 4 * rule_size (rule_of l.rule.now) + 1

abbrev pub decreases-in_all_parts : goal.decreases-in_all_parts
decreases-in_all_parts l = 4 * rule_size (rule_of l.rule.now) + 2

abbrev pub decreases-in_all_parts-retype : goal.decreases-in_all_parts-retype
decreases-in_all_parts-retype l = 4 * rule_size (rule_of l.rule.now) + 1

abbrev pub decreases-at_places : goal.decreases-at_places
decreases-at_places l = 4 * rule_size (rule_of l.rule.now) + 2

abbrev pub decreases-at_places-retype : goal.decreases-at_places-retype
decreases-at_places-retype l = 4 * rule_size (rule_of l.rule.now) + 1

abbrev pub decreases-in_turn : goal.decreases-in_turn
decreases-in_turn l = 4 * (rule_size (rule_of l.first.now) + rule_size (rule_of l.second.now)) + 2

abbrev pub decreases-by_either : goal.decreases-by_either
decreases-by_either l = 4 * (rule_size (rule_of l.first.now) + rule_size (rule_of l.second.now)) + 2

abbrev pub decreases-at_type : goal.decreases-at_type
decreases-at_type l = 4 * rule_size (rule_of l.rule.now) + 2
