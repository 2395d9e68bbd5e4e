-- A test of rules that are one alone is the test of that one.
use Rattle.std.proofs.Common.{◌≡◌, ◌∙◌, ◌≤◌, ◌<◌, ◌||◌, Bool, true, false, List, [], ◌∷◌, map, length, get_or, refl, sym, ap, arith}
use Rattle.mig_syntax.specs.RuleSyntax.{FunctionSyntax, rules_of}
use Rattle.mig_syntax.specs.RuleView.{rule_of}
use Rattle.mig_syntax.specs.declared.rule.RuleText.{RuleText}
use Rattle.mig_resolve_rule.specs.Rules.{any_function, any_function_of}

or_false : (b : Bool) → (b || false) ≡ b
or_false true = refl
or_false false = refl

pub one_alone : (p : FunctionSyntax → Bool) (xs : List RuleText) (x : RuleText) → 1 ≤ length xs → length xs < 2 → x ≡ get_or xs 0 x → any_function p (rule_of x) ≡ any_function_of p (rules_of (map rule_of xs))
one_alone p [] x some few is = absurd (omega arith)
one_alone p (y ∷ []) x some few is = ap (λ r. any_function p (rule_of r)) is ∙ sym (or_false (any_function p (rule_of y)))
one_alone p (y ∷ z ∷ xs) x some few is = absurd (omega arith)
