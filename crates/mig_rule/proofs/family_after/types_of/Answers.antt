use Rattle.std.proofs.Common.{◌∙◌, ◌++◌, [], ◌∷◌, sym, ap}
use Rattle.mig_schema.specs.Types.{named_all, named_of}
use Rattle.std.proofs.lemmas.List.{map-append}
use Rattle.mig_rule.proofs.FamiliesAfter.{take_one}
use Rattle.mig_rule.proofs.family_after.types_of.Goals as goal

pub loop-place-preserved : goal.loop-place-preserved
loop-place-preserved c =
    let named = c.in_ok-type_at.field-0 in
    ap named_all c.in_ok-push.ensures.items
    ∙ map-append named_of c.loop-place.types.items (named ∷ [])
    ∙ (λ i. c.loop-place.invariant i ++ named_of named ∷ [])
    ∙ sym (take_one c.args.family.now.types c.loop-place.place (named_of named) c.in_ok-type_at.ensures)
