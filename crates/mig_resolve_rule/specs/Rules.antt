-- What the rules and fixes of a text stand for, and what may be wrong with them.
use Rattle.std.specs.Prelude.{Bool, false, not, ◌||◌, map}
use Rattle.mig_model.specs.declared.form.Form.{Form}
use Rattle.mig_rule.specs.Rule as rule
use Rattle.mig_rule.specs.Rule.{Rule, PathStep, Fix}
use Rattle.mig_syntax.specs.RuleSyntax as syntax
use Rattle.mig_syntax.specs.RuleSyntax.{FunctionSyntax, RuleSyntax, RulesSyntax}
use Rattle.mig_syntax.specs.DeclSyntax as decl
use Rattle.mig_syntax.specs.DeclSyntax.{StepSyntax, FixSyntax}
use Rattle.mig_resolve_template.specs.Constants.{leaf_from, leaf_is_wrong, leaf_in_range, leaf_is_twice}
use Rattle.mig_resolve_template.specs.Templates.{template_from, template_is_wrong, template_is_twice, nests_above, most_levels}
use Rattle.mig_resolve_rule.specs.Functions.{scope_from, op_from, function_is_wrong, function_in_range, function_is_twice, function_is_deep}

-- a rule, and then those that follow it in a `seq`
abbrev pub then_rules : Rule → RulesSyntax → Rule → Rule
then_rules r syntax.no_rule rest = r
then_rules r (syntax.rule s rs) rest = rule.seq r rest

-- `seq` of several rules is the first and then the `seq` of the others, and of one rule is that rule; of none, which the grammar has not, it is `nop`
abbrev mutual
  pub rule_from : RuleSyntax → Rule
  rule_from syntax.nop = rule.nop
  rule_from (syntax.all r) = rule.all (rule_from r)
  rule_from (syntax.everywhere r) = rule.everywhere (rule_from r)
  rule_from (syntax.on n r) = rule.on n (rule_from r)
  rule_from (syntax.at x r) = rule.at x (rule_from r)
  rule_from (syntax.seq rs) = rules_from rs
  rule_from (syntax.or_else r s) = rule.or_else (rule_from r) (rule_from s)
  rule_from (syntax.function l f) = rule.function (record { scope = scope_from l; op = op_from f })

  pub rules_from : RulesSyntax → Rule
  rules_from syntax.no_rule = rule.nop
  rules_from (syntax.rule r rs) = then_rules (rule_from r) rs (rules_from rs)

abbrev pub step_from : StepSyntax → PathStep
step_from (decl.field x) = rule.named x
step_from decl.each = rule.each
step_from decl.left = rule.left
step_from decl.right = rule.right
step_from (decl.case l) = rule.in_case l

abbrev pub fix_from : FixSyntax → Fix
fix_from (decl.new_type n t) = rule.new_type n (template_from t)
fix_from (decl.drop_type n) = rule.drop_type n
fix_from (decl.deep ss f) = rule.deep (map step_from ss) (leaf_from f)
fix_from (decl.rule r) = rule.rule (rule_from r)

-- a field function in the rule passes the test
abbrev mutual
  pub any_function : (FunctionSyntax → Bool) → RuleSyntax → Bool
  any_function p syntax.nop = false
  any_function p (syntax.all r) = any_function p r
  any_function p (syntax.everywhere r) = any_function p r
  any_function p (syntax.on n r) = any_function p r
  any_function p (syntax.at x r) = any_function p r
  any_function p (syntax.seq rs) = any_function_of p rs
  any_function p (syntax.or_else r s) = any_function p r || any_function p s
  any_function p (syntax.function l f) = p f

  pub any_function_of : (FunctionSyntax → Bool) → RulesSyntax → Bool
  any_function_of p syntax.no_rule = false
  any_function_of p (syntax.rule r rs) = any_function p r || any_function_of p rs

-- a kind word is no leaf kind of the form
abbrev pub fix_is_wrong : Form → FixSyntax → Bool
fix_is_wrong form (decl.new_type n t) = template_is_wrong form t
fix_is_wrong form (decl.drop_type n) = false
fix_is_wrong form (decl.deep ss f) = leaf_is_wrong form f
fix_is_wrong form (decl.rule r) = any_function (function_is_wrong form) r

-- a number is outside the range of its place
abbrev pub fix_is_out_of_range : FixSyntax → Bool
fix_is_out_of_range (decl.deep ss f) = not (leaf_in_range f)
fix_is_out_of_range (decl.rule r) = any_function (λ f. not (function_in_range f)) r
fix_is_out_of_range x = false

-- two names that must be distinct are equal
abbrev pub fix_is_twice : FixSyntax → Bool
fix_is_twice (decl.new_type n t) = template_is_twice t
fix_is_twice (decl.drop_type n) = false
fix_is_twice (decl.deep ss f) = leaf_is_twice f
fix_is_twice (decl.rule r) = any_function function_is_twice r

-- a template that it brings nests too deep
abbrev pub fix_is_deep : FixSyntax → Bool
fix_is_deep (decl.new_type n t) = nests_above most_levels t
fix_is_deep (decl.rule r) = any_function function_is_deep r
fix_is_deep x = false
