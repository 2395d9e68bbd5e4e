-- The rule that a value stands for, wherever its parts lie in memory: one level, since what is inside is seen as plain data already.
use Rattle.std.specs.Prelude.{map}
use Rattle.mig_template.specs.View.{template_of}
use Rattle.mig_leaf.specs.View.{leaf_fn_of}
use Rattle.mig_func.specs.View.{field_fn_of}
use Rattle.mig_rule.specs.Rule as model
use Rattle.mig_rule.specs.declared.rule.Rule.{Rule}
use Rattle.mig_rule.specs.declared.rule.Rule.TheVariants as R
use Rattle.mig_rule.specs.declared.fix.PathStep.{PathStep}
use Rattle.mig_rule.specs.declared.fix.PathStep.TheVariants as P
use Rattle.mig_rule.specs.declared.fix.Fix.{Fix}
use Rattle.mig_rule.specs.declared.fix.Fix.TheVariants as F

abbrev pub rule_of : Rule → model.Rule
rule_of R.Nop = model.nop
rule_of (R.Fn f) = model.function (field_fn_of f)
rule_of (R.On n r) = model.on n r
rule_of (R.At x r) = model.at x r
rule_of (R.Seq r s) = model.seq r s
rule_of (R.OrElse r s) = model.or_else r s
rule_of (R.All r) = model.all r
rule_of (R.Everywhere r) = model.everywhere r

abbrev pub step_of : PathStep → model.PathStep
step_of (P.Named x) = model.named x
step_of P.Each = model.each
step_of P.Left = model.left
step_of P.Right = model.right
step_of (P.Case l) = model.in_case l

abbrev pub fix_of : Fix → model.Fix
fix_of (F.Rule r) = model.rule (rule_of r)
fix_of (F.Deep steps g) = model.deep (map step_of steps.items) (leaf_fn_of g)
fix_of (F.NewType n t) = model.new_type n (template_of t)
fix_of (F.DropType n) = model.drop_type n
