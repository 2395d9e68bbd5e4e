use Rattle.std.proofs.Common.{◌∙◌, refl, sym, ap, map, arith, ◌++◌, [], ◌∷◌}
use Rattle.std.proofs.lemmas.List.{take_all}
use Rattle.std.specs.List.{list_any}
use Rattle.std.specs.Prelude.{◌||◌}
use Rattle.mig_schema.specs.Types.{named_all, named_of}
use Rattle.std.proofs.lemmas.List.{map-append}
use Rattle.mig_rule.specs.Fix.{fits_type, type_after}
use Rattle.mig_rule.specs.View.{rule_of}
use Rattle.mig_rule.proofs.OneMore.{map_more, any_more}
use Rattle.mig_rule.proofs.family_after.types_after.Goals as goal
use Rattle.mig_rule.proofs.family_after.types_after.Goals.{then-fits, else-fits}

pub loop-place-init : goal.loop-place-init
loop-place-init c = (ap named_all c.new-types.ensures.items, refl)

pub loop-place-preserved : goal.loop-place-preserved
loop-place-preserved c =
    let types = c.args.family.now.types in
    let r = rule_of c.args.rule.now in
    let named = c.in_ok-named.named in (
      ap named_all c.in_ok-push.ensures.items
          ∙ map-append named_of c.loop-place.types.items (named ∷ [])
          ∙ (λ i. c.loop-place.invariant.0 i ++ named_of named ∷ [])
          ∙ sym (map_more (type_after r) types c.loop-place.place (named_of named) c.in_ok-named.ensures.new),
      (elim c.if-fits.branch [
        | then-fits w ↦ w.fits-is ∙ w.if-fits.true ∙ ap (λ b. b || c.in_ok-named.fitting) (sym w.if-fits.true)
        | else-fits w ↦ w.fits-is ∙ ap (λ b. b || c.in_ok-named.fitting) (sym w.if-fits.false)
      ])
          ∙ ap (λ b. b || c.in_ok-named.fitting) c.loop-place.invariant.1
          ∙ sym (any_more (fits_type r) types c.loop-place.place c.in_ok-named.fitting c.in_ok-named.ensures.fits),
    )

pub returns-clause-types : goal.returns-clause-types
returns-clause-types c = c.loop-place.invariant.0 ∙ ap (map (type_after (rule_of c.args.rule.now))) (take_all c.loop-place.place c.args.family.now.types (omega (arith, c.loop-place-test.false, c.len-place-end.ensures)))

pub returns-clause-fits : goal.returns-clause-fits
returns-clause-fits c = c.loop-place.invariant.1 ∙ ap (list_any (fits_type (rule_of c.args.rule.now))) (take_all c.loop-place.place c.args.family.now.types (omega (arith, c.loop-place-test.false, c.len-place-end.ensures)))
