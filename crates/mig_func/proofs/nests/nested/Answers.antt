use Rattle.std.proofs.Common.{rules, ◌≡◌, ◌∙◌, ◌∷◌, ◌++◌, [], true, false, map, sym, ap}
use Rattle.std.specs.List.{list_all}
use Rattle.mig_model.specs.declared.presence.Presence.TheVariants.{Must}
use Rattle.mig_model.specs.Names.{has_twice, has, others}
use Rattle.mig_field.specs.NewRecord.{is_some_name}
use Rattle.mig_template.specs.View.{field_of}
use Rattle.mig_func.proofs.Nesting.{nest_offers}
use Rattle.mig_func.proofs.nests.nested.Goals as goal

pub returns-in_ok-list-in-Ok-clause-offers : goal.returns-in_ok-list-in-Ok-clause-offers
returns-in_ok-list-in-Ok-clause-offers c r =
    let xs = c.args.names.now in
    let y = c.args.name.now in
    let fs = c.args.fields.now in
    let told_some : c.is_some_name.result ≡ true = search rules in
    let told_once : c.has_twice.result ≡ false = search rules in
    let told_all : c.have_all.result ≡ true = search rules in
    let some : is_some_name xs ≡ true = ap is_some_name (sym c.as_slice.ensures) ∙ sym c.is_some_name.ensures ∙ told_some in
    let once : has_twice xs ≡ false = sym c.has_twice.ensures ∙ told_once in
    let all : list_all (λ x. has x fs) xs ≡ true = ap (list_all (λ x. has x fs)) (sym c.as_slice-2.ensures) ∙ sym c.have_all.ensures ∙ told_all in
    nest_offers r xs y fs (map field_of c.in_ok-list-in-Ok.list.items) c.in_ok-list-in-Ok.ensures.ascend some once all
    (c.in_ok-list-in-Ok.ensures.list ∙ ap (λ V. others xs fs ++ (y, (Must, V)) ∷ []) c.in-Ok.ensures.made)
