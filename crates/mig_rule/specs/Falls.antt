-- A rule nests no deeper than it is large.
use Rattle.std.specs.Prelude.{◌≤◌}
use Rattle.std.proofs.Common.{arith}
use Rattle.mig_rule.specs.declared.rule.Rule.{Rule}
use Rattle.mig_rule.specs.declared.rule.Rule.TheVariants as R
use Rattle.mig_rule.specs.declared.rule.RuleBox.TheDeep.{deep-Rule}
use Rattle.mig_rule.specs.Code.{rule_size}
use Rattle.mig_rule.specs.View.{rule_of}

pub deep_rule : (r : Rule) → deep-Rule r ≤ rule_size (rule_of r)
deep_rule (R.On n r) = omega arith
deep_rule (R.At x r) = omega arith
deep_rule (R.Seq r s) = omega arith
deep_rule (R.OrElse r s) = omega arith
deep_rule (R.All r) = omega arith
deep_rule (R.Everywhere r) = omega arith
deep_rule r = omega arith
