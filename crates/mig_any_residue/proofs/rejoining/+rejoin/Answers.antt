use Rattle.std.proofs.Common.{◌≡◌, ◌∙◌, ℕ, List, ap, subst, sym, length, map, arith}
use Rattle.std.proofs.lemmas.Iterator.Adapters.{YieldsList-from_vec}
use Rattle.std.proofs.lemmas.Iterator.Consumers.{YieldsList-turn}
use Rattle.mig_value.specs.View.{typed_of}
use Rattle.mig_any_residue.specs.HeldView.{group_pair}
use Rattle.mig_any_residue.specs.RestCode.{rest_size}
use Rattle.mig_path.specs.Rest.{Residual, both, groups_of, joins, FitsFoci}
use Rattle.std.proofs.lemmas.List.{length_push}
use Rattle.mig_typed_optic.proofs.Thens.{outer_fits, front_fits, rejoins_next}
use Rattle.mig_any_residue.proofs.Sizes.{smaller}
use Rattle.mig_any_residue.proofs.rejoining.+rejoin.Goals as goal

pub rejoin_any-rejoin_any-requires : goal.rejoin_any-rejoin_any-requires
rejoin_any-rejoin_any-requires t c =
    let is : both c.in-Both.outer.value (groups_of c.in-Both.inner) ≡ c.args.residue = c.in-Both.ensures in
    let fits : FitsFoci (both c.in-Both.outer.value (groups_of c.in-Both.inner)) (length c.args.foci.items) = subst (λ (r : Residual). FitsFoci r (length c.args.foci.items)) (sym is) c.requires in
    let inner : FitsFoci c.in-Both.outer.value (length c.in_ok-values-in-Both.values.items) =
    outer_fits c.in-Both.outer.value (groups_of c.in-Both.inner) (map typed_of c.args.foci.items) c.in_ok-values-in-Both.values.items (length c.args.foci.items) fits
    (c.in_ok-values-in-Both.ensures ∙ ap (λ (l : List (ℕ × Residual)). joins (groups_of l) (map typed_of c.args.foci.items)) c.into_vec.ensures) in
    (omega (arith, c.decreases, ap rest_size is, ap rest_size c.into_inner.ensures), subst (λ (r : Residual). FitsFoci r (length c.in_ok-values-in-Both.values.items)) (sym c.into_inner.ensures) inner)

pub rejoin_each-rejoin_any-requires : goal.rejoin_each-rejoin_any-requires
rejoin_each-rejoin_any-requires t c =
    let gives = c.into_iter-group-iterator.ensures.into_iter_gives in
    let turn = YieldsList-turn (YieldsList-from_vec {s = c.into_iter-group-iterator.result} c.args.groups.items gives.0 (◌∙◌ {b = c.args.groups.len} gives.1 c.args.groups.ok.0)) c.loop-group.yielded c.loop-group.group-iterator c.loop-group.yielded_by c.next.result c.next.new.self c.in-Some.group c.in-Some.is c.next.ensures.steps in
    let small = smaller group_pair c.args.groups.items (length c.loop-group.yielded) c.in-Some.group turn.0 turn.1 in
    (omega (arith, c.decreases, small), front_fits group_pair c.args.groups.items _ _ c.loop-group.reversed.items c.in_ok-front.front.items (length c.loop-group.yielded) c.in-Some.group turn.0 turn.1 c.in_ok-front.ensures.front c.loop-group.invariant)

pub rejoin_each-loop-group-preserved : goal.rejoin_each-loop-group-preserved
rejoin_each-loop-group-preserved t c =
    let gives = c.into_iter-group-iterator.ensures.into_iter_gives in
    let turn = YieldsList-turn (YieldsList-from_vec {s = c.into_iter-group-iterator.result} c.args.groups.items gives.0 (◌∙◌ {b = c.args.groups.len} gives.1 c.args.groups.ok.0)) c.loop-group.yielded c.loop-group.group-iterator c.loop-group.yielded_by c.next.result c.next.new.self c.in-Some.group c.in-Some.is c.next.ensures.steps in
    rejoins_next group_pair c.args.groups.items _ c.loop-group.values.items c.push.new.self.items c.loop-group.reversed.items c.take_front.new.reversed.items c.in_ok-front.front.items c.in_ok-rejoin_any.field-0 (length c.loop-group.yielded) _ c.in-Some.group turn.0 turn.1
    (length_push c.loop-group.yielded c.in-Some.group) c.in_ok-push.ensures.items c.in_ok-front.ensures.back c.in_ok-front.ensures.front c.in_ok-rejoin_any.ensures c.loop-group.invariant
