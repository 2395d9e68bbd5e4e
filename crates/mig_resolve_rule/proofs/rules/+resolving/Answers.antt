use Rattle.std.proofs.Common.{◌∙◌, ap}
use Rattle.std.specs.Prelude.{not}
use Rattle.std.proofs.lemmas.Result.{IfOk-weaker}
use Rattle.mig_resolve_rule.specs.Functions.{function_is_twice}
use Rattle.mig_resolve_rule.proofs.Alone.{one_alone}
use Rattle.mig_resolve_rule.proofs.rules.+resolving.Goals as goal

pub in_order-returns-in-len1-clause-twice : goal.in_order-returns-in-len1-clause-twice
in_order-returns-in-len1-clause-twice t c =
    let alone = one_alone function_is_twice c.args.rules.now c.only-item.result c.in-len1.len_at_least c.in-len1.len_below c.only-item.is in
    IfOk-weaker c.rule.result _ _ (λ o told. told ∙ ap not alone) c.rule.ensures.twice
