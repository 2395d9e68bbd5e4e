use Rattle.std.proofs.Common.{rules, ◌≡◌, ◌∙◌, ◌∷◌, ◌++◌, [], true, map, sym, ap}
use Rattle.mig_model.specs.declared.presence.Presence.TheVariants.{Must}
use Rattle.mig_field.specs.FieldFn.{fill_template}
use Rattle.mig_field.specs.NewRecord.{is_clear}
use Rattle.mig_template.specs.View.{field_of}
use Rattle.mig_func.specs.View.{fill_of}
use Rattle.mig_func.proofs.Offers.{add_offers}
use Rattle.mig_func.proofs.ops.add_field.Goals as goal

pub returns-clause-offers : goal.returns-clause-offers
returns-clause-offers c r =
    let told : c.is_clear.result ≡ true = search rules in
    let clear : is_clear (fill_template (fill_of c.args.fill.now)) ≡ true = ap is_clear (sym c.in_ok-template.ensures) ∙ sym c.is_clear.ensures ∙ told in
    add_offers r c.args.name.now (fill_of c.args.fill.now) c.args.fields.now (map field_of c.in_ok-list.list.items) c.in_ok-list.ensures.ascend clear
    (c.in_ok-list.ensures.list ∙ ap (λ V. c.args.fields.now ++ (c.args.name.now, (Must, V)) ∷ []) c.in_ok-template.ensures)
