use Rattle.std.proofs.Common.{◌∙◌, ◌++◌, [], ◌∷◌, Some, sym, ap}
use Rattle.std.specs.Prelude.{not}
use Rattle.mig_schema.specs.Types.{Named, named_all, named_of}
use Rattle.mig_model.specs.Names.{same_name}
use Rattle.std.proofs.lemmas.List.{map-append}
use Rattle.mig_rule.proofs.FamiliesAfter.{filter_more, filter_same}
use Rattle.mig_rule.proofs.family_after.types_without.Goals as goal
use Rattle.mig_rule.proofs.family_after.types_without.Goals.{then-is_other+in_ok-type_at+in_ok-push, else-is_other}

pub loop-place-preserved : goal.loop-place-preserved
loop-place-preserved c =
    let types = c.args.family.now.types in
    elim c.if-is_other.branch [
      | then-is_other+in_ok-type_at+in_ok-push w ↦
          let named = w.in_ok-type_at.field-0 in
          ap (λ v. named_all v.items) w.types-is
          ∙ ap named_all w.in_ok-push.ensures.items
          ∙ map-append named_of c.loop-place.types.items (named ∷ [])
          ∙ (λ i. c.loop-place.invariant i ++ named_of named ∷ [])
          ∙ sym (filter_more (λ (t : Named). not (same_name c.args.name.now t.0)) types c.loop-place.place (named_of named) w.in_ok-type_at.ensures (c.is_other.ensures ∙ ap Some w.if-is_other.true))
      | else-is_other w ↦
          ap (λ v. named_all v.items) w.types-is
          ∙ c.loop-place.invariant
          ∙ sym (filter_same (λ (t : Named). not (same_name c.args.name.now t.0)) types c.loop-place.place (c.is_other.ensures ∙ ap Some w.if-is_other.false))
    ]
