-- What a test of field functions answers.
use Rattle.std.specs.Prelude.{◌≡◌, Bool}
use denote.Ref.{Bor}
use Rattle.mig_syntax.specs.declared.rule.FunctionText.{FunctionText}
use Rattle.mig_syntax.specs.RuleSyntax.{FunctionSyntax}
use Rattle.mig_syntax.specs.RuleView.{function_of}

-- the answers are those of p
abbrev pub IsTestOf : (Bor FunctionText → Bool → Type 0) → (FunctionSyntax → Bool) → Type 0
IsTestOf post p = (f : Bor FunctionText) (b : Bool) → post f b → b ≡ p (function_of f.now)
