use Rattle.std.proofs.Common.{rules, ◌≡◌, ◌∙◌, ◌∷◌, ◌++◌, [], true, map, sym, ap}
use Rattle.mig_model.specs.declared.presence.Presence.TheVariants.{May}
use Rattle.mig_template.specs.View.{field_of}
use Rattle.mig_func.proofs.Offers.{learn_offers}
use Rattle.mig_func.proofs.ops.with_learned.Goals as goal

pub returns-clause-offers : goal.returns-clause-offers
returns-clause-offers c =
    let told : c.can_be_learned.result ≡ true = search rules in
    let told_open : c.is_open.result ≡ true = search rules in
    learn_offers c.args.rest c.args.name.now c.args.kind c.args.fields.now (map field_of c.in_ok-list.list.items) c.in_ok-list.ensures.ascend
    (sym c.is_open.ensures ∙ told_open) (sym c.can_be_learned.ensures ∙ told)
    (c.in_ok-list.ensures.list ∙ ap (λ V. c.args.fields.now ++ (c.args.name.now, (May, V)) ∷ []) c.learned.ensures)
