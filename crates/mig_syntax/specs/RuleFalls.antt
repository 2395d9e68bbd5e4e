-- A rule nests no deeper than its syntax is large.
use Rattle.std.specs.Prelude.{◌≤◌, List, [], ◌∷◌, map}
use Rattle.std.proofs.Common.{arith}
use denote.Param.Weighed.{most}
use Rattle.mig_syntax.specs.declared.rule.RuleText.{RuleText}
use Rattle.mig_syntax.specs.declared.rule.RuleText.TheVariants as R
use Rattle.mig_syntax.specs.declared.rule.RuleBox.TheDeep.{deep-RuleText}
use Rattle.mig_syntax.specs.RuleSyntax.{rule_size, rule_list_size}
use Rattle.mig_syntax.specs.RuleView.{rule_of}

pub depth_rule : (r : RuleText) → deep-RuleText r ≤ rule_size (rule_of r)
depth_rule (R.All r) = omega arith
depth_rule (R.Everywhere r) = omega arith
depth_rule (R.On n r) = omega arith
depth_rule (R.At x r) = omega arith
depth_rule (R.Seq rs) = omega arith
depth_rule (R.OrElse r s) = omega arith
depth_rule r = omega arith

pub depth_rules : (rs : List RuleText) → most deep-RuleText rs ≤ rule_list_size (map rule_of rs)
depth_rules [] = omega arith
depth_rules (r ∷ rs) = omega (arith, depth_rule r, depth_rules rs)
