use Rattle.std.proofs.Common.{◌≡◌, ◌∙◌, ◌<◌, ◌≤◌, ◌∷◌, [], ℕ, List, Some, nat_eq, length, get_or, sym, ap, subst, arith}
use Rattle.std.proofs.lemmas.List.Elements.{Contains-get_or}
use Rattle.std.specs.List.{slice_get}
use Rattle.std.specs.Map.{values_of}
use Rattle.indexmap.specs.IndexSet.{insert_all}
use Rattle.mig_template.specs.View.{template_of}
use Rattle.mig_schema.specs.Reach.{points, places, Uses}
use Rattle.mig_schema.specs.Types.{Named}
use Rattle.mig_schema.proofs.Reached.{are_reached, place_below, used_below, uses_of_body}
use Rattle.mig_schema.proofs.Searched.{searched_start, searched_more, found_below, found_at_most}
use Rattle.mig_schema.proofs.parts.Parts.reached.Goals as goal

pub loop-at-init : goal.loop-at-init
loop-at-init c =
    let ts = c.args.self.now.types in
    let n = c.args.from.now in
    searched_start (Uses ts) (places ts (n ∷ [])) c.add_place.new.found.keys
    (c.in_ok-add_place.ensures ∙ (λ i. insert_all nat_eq (c.new-found.ensures.empty i) (places (c.types-types.ensures i) (n ∷ []))))

pub body_at-body-requires : goal.body_at-body-requires
body_at-body-requires c =
    let ts = c.args.self.now.types in
    let starts = places ts (c.args.from.now ∷ []) in
    let found = c.loop-at.found.keys in
    let at = c.loop-at.at in
    let inside : at < length found = omega (arith, c.len.ensures.len, c.loop-at-test.true) in
    let below : get_or found at 0 < length ts = found_below (Uses ts) starts found at c.loop-at.invariant (length ts) (place_below ts (c.args.from.now ∷ [])) (used_below ts) (get_or found at 0) (Contains-get_or found at 0 inside) in
    subst (λ (ks : List ℕ). get_or ks at 0 < length c.types-types.result.now) (sym c.as_slice.ensures.keys) (subst (λ (ts : List Named). get_or found at 0 < length ts) (sym c.types-types.ensures) below)

pub loop-at-smaller : goal.loop-at-smaller
loop-at-smaller c =
    let ts = c.args.self.now.types in
    let fewer = found_at_most (Uses ts) (places ts (c.args.from.now ∷ [])) c.loop-at.found.keys c.loop-at.at c.loop-at.invariant (length ts) (place_below ts (c.args.from.now ∷ [])) (used_below ts) c.len.ensures.unique in
    omega (arith, fewer, c.len.ensures.len, c.loop-at-test.true)

pub loop-at-preserved : goal.loop-at-preserved
loop-at-preserved c =
    let ts = c.args.self.now.types in
    let found = c.loop-at.found.keys in
    let at = c.loop-at.at in
    let V = template_of c.body_at-body.result.now in
    let inside : at < length found = omega (arith, c.len.ensures.len, c.loop-at-test.true) in
    let is : slice_get (values_of ts) (get_or found at 0) ≡ Some V = (λ i. slice_get (values_of (sym c.types-types.ensures i)) (get_or (sym c.as_slice.ensures.keys i) at 0)) ∙ c.body_at-body.ensures in
    searched_more (Uses ts) (places ts (c.args.from.now ∷ [])) found at c.loop-at.invariant (places ts (points V)) c.add_places.new.found.keys inside (uses_of_body ts (get_or found at 0) V is)
    (c.in_ok-add_places.ensures ∙ ap (λ ts. insert_all nat_eq found (places ts (points V))) c.types-types.ensures)

pub returns : goal.returns
returns c =
    let all : length c.loop-at.found.keys ≤ c.loop-at.at = omega (arith, c.len.ensures.len, c.loop-at-test.false) in
    are_reached c.args.self.now c.keeps.ensures.once c.args.from.now c.loop-at.found.keys c.loop-at.at c.loop-at.invariant all
