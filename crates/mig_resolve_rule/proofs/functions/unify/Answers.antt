use Rattle.std.proofs.Common.{◌∙◌, sym, ap}
use Rattle.std.specs.Prelude.{is_some}
use Rattle.mig_resolve_template.specs.Constants.{leaf_is_twice}
use Rattle.mig_syntax.specs.RuleView.{leaf_of}
use Rattle.mig_resolve_rule.proofs.Neither.{neither}
use Rattle.mig_resolve_rule.proofs.functions.unify.Goals as goal

pub returns-in_ok-copy-in-Some-2-clause-twice : goal.returns-in_ok-copy-in-Some-2-clause-twice
returns-in_ok-copy-in-Some-2-clause-twice c =
    neither (leaf_is_twice (leaf_of c.args.one.now)) (leaf_is_twice (leaf_of c.args.other.now))
    (sym (ap is_some c.in-Some.is) ∙ c.in_ok-left.ensures.twice)
    (sym (ap is_some c.in-Some-2.is) ∙ c.in_ok-right.ensures.twice)
