use Rattle.std.proofs.Common.{◌≡◌, ◌∙◌, ap, sym, refl, rules, List, [], ◌∷◌, ◌++◌, length, false}
use Rattle.std.proofs.lemmas.List.{append-nil, drop_all}
use Rattle.std.specs.Prelude.{flat_map, ◌==◌}
use Rattle.mig_tree.specs.declared.place.Step.{Step}
use Rattle.mig_tree.specs.Place.{step_of, step_text, place_of, place_text}
use Rattle.mig_tree.proofs.place.Place.text.Goals as goal

steps_text : (ss : List Step) → flat_map step_text (place_of ss) ≡ flat_map (λ s. step_text (step_of s)) ss
steps_text [] = refl
steps_text (s ∷ ss) = ap (λ l. step_text (step_of s) ++ l) (steps_text ss)

text_of_some : (ss : List Step) → (length ss == 0) ≡ false → place_text (place_of ss) ≡ flat_map (λ s. step_text (step_of s)) ss
text_of_some [] some = cc
text_of_some (s ∷ ss) some = steps_text (s ∷ ss)

pub returns : goal.returns
returns c =
    let steps = c.as_slice-steps.result.now in
    let whole : c.loop-step.out.items ≡ flat_map (λ s. step_text (step_of s)) steps =
    sym (append-nil c.loop-step.out.items)
    ∙ ap (λ ss. c.loop-step.out.items ++ flat_map (λ s. step_text (step_of s)) ss) (sym (drop_all c.loop-step.step-index steps c.loop-step-test.false))
    ∙ c.loop-step.invariant in
    let some : (length steps == 0) ≡ false = search rules in
    whole ∙ sym (text_of_some steps some) ∙ ap place_text c.as_slice-steps.ensures
