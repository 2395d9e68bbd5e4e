use Rattle.std.proofs.Common.{◌≡◌, sym, subst}
use Rattle.std.specs.Prelude.{IfOk}
use Rattle.mig_rule.specs.ChainView.{chain_step_of, family_then}
use Rattle.mig_rule.proofs.families.behind_step.Goals as goal

pub returns-in-Fix : goal.returns-in-Fix
returns-in-Fix c = subst (λ x. IfOk c.after_fix.result (λ f. f ≡ family_then c.args.family (chain_step_of x))) (sym c.in-Fix.is) c.after_fix.ensures
