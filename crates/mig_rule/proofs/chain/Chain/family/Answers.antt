use Rattle.std.proofs.Common.{◌≡◌, ◌∙◌, ◌+◌, ◌<◌, ◌≤◌, take, length, Some, None, sym, ap, subst, arith}
use Rattle.std.proofs.lemmas.List.{length-map}
use Rattle.std.specs.Prelude.{slice_get, option_map}
use Rattle.mig_rule.specs.Chain.{Chain, families, versions}
use Rattle.mig_rule.specs.ChainView.{chain_step_of, steps_of, first_given, family_behind, schema_places}
use Rattle.mig_rule.proofs.FamiliesAt.{begin_with, family_there, is_a_place, no_schema, take_steps}
use Rattle.mig_rule.proofs.Rebuilt.{ok_then}
use Rattle.mig_rule.proofs.chain.Chain.family.Goals as goal

pub unreachable-requires : goal.unreachable-requires
unreachable-requires c =
    let xs = steps_of c.self.inside.steps.items in
    let i = c.args.place in
    let none : slice_get (schema_places 0 xs) i ≡ None = ap (λ l. slice_get l i) (sym (c.deref.ensures.value ∙ c.self.invariant.schemas_are)) ∙ sym c.number_at.ensures ∙ c.in_default.is in
    let past : length (versions xs) ≤ i = no_schema 0 xs i none in
    let same : length (versions xs) ≡ length (versions c.args.self.now.steps) = ap (λ (d : Chain). length (versions d.steps)) c.self.view_is in
    omega (arith, c.requires, past, same)

pub up_to-requires : goal.up_to-requires
up_to-requires c =
    let items = c.self.inside.steps.items in
    let place : slice_get (schema_places 0 (steps_of items)) c.args.place ≡ Some c.in-Some.at = ap (λ l. slice_get l c.args.place) (sym (c.deref.ensures.value ∙ c.self.invariant.schemas_are)) ∙ sym c.number_at.ensures ∙ c.in-Some.is in
    let within : c.in-Some.at < length items = omega (arith, is_a_place c.in-Some-first_family.first.now (steps_of items) c.args.place c.in-Some.at place, length-map items chain_step_of) in
    subst (λ l. c.in-Some.at < length l) (sym c.deref-3.ensures.value) within

pub returns : goal.returns
returns c =
    let items = c.self.inside.steps.items in
    let xs = steps_of items in
    let i = c.args.place in
    let at = c.in-Some.at in
    let f = c.in-Some-first_family.first.now in
    let place : slice_get (schema_places 0 xs) i ≡ Some at = ap (λ l. slice_get l i) (sym (c.deref.ensures.value ∙ c.self.invariant.schemas_are)) ∙ sym c.number_at.ensures ∙ c.in-Some.is in
    let given : first_given xs ≡ Some f =
    ap (λ l. first_given (steps_of l)) (sym c.deref-2.ensures.value) ∙ sym c.first_family.ensures ∙ ap (option_map (λ b. b.now)) c.in-Some-first_family.is in
    let steps : take (at + 1) xs ≡ steps_of c.up_to.result.now =
    take_steps (at + 1) items ∙ ap (λ l. steps_of (take (at + 1) l)) (sym c.deref-3.ensures.value) ∙ ap steps_of (sym c.up_to.ensures) in
    ok_then c.behind_steps.result (λ g e.
    ap (λ (d : Chain). slice_get (families d.steps) i) (sym c.self.view_is)
    ∙ ap (λ l. slice_get l i) (begin_with xs f given)
    ∙ family_there f xs i at place
    ∙ ap (λ l. Some (family_behind f l)) steps
    ∙ ap Some (sym e)) c.behind_steps.ensures
