use Rattle.std.proofs.Common.{◌≡◌, ℕ, ap, length, refl, rules}
use Rattle.std.proofs.lemmas.Iterator.Adapters.{YieldsList-from_vec}
use Rattle.std.proofs.lemmas.Iterator.Consumers.{YieldsList-turn}
use Rattle.mig_model.proofs.Loops.{in_hand}
use Rattle.mig_value.specs.View.{typed_of}
use Rattle.mig_path.specs.Path.{Takes, crossed}
use Rattle.mig_typed_optic.proofs.Thens.{taken, parted_next, no_more_crossed}
use Rattle.mig_typed_optic.proofs.then.part_each.Goals as goal

pub part-requires : goal.part-requires
part-requires g c κs =
    let gives = c.into_iter-value-iterator.ensures.into_iter_gives in
    let as_long : c.into_iter-value-iterator.result.rest.len ≡ length c.args.values.items = search rules in
    let turn = YieldsList-turn (YieldsList-from_vec {s = c.into_iter-value-iterator.result} c.args.values.items gives.0 as_long) c.loop-value.yielded c.loop-value.value-iterator c.loop-value.yielded_by c.next.result c.next.new.self c.in-Some.value c.in-Some.is c.next.ensures.steps in
    ((refl, tt), taken (Takes (g.Q.Optic.path c.args.optic.now)) c.args.values.items (length c.loop-value.yielded) c.in-Some.value c.requires turn.0 turn.1)

pub loop-value-preserved : goal.loop-value-preserved
loop-value-preserved g c =
    let more = c.in_ok-more.more in
    let residue = g.Q.Optic.rest c.in_ok-more.residue in
    let counted : c.len-count.result ≡ length more.items = search rules in
    parted_next (g.Q.Optic.path c.args.optic.now) (λ x. (x.count, g.Q.Optic.rest x.residue)) _ _ _ c.loop-value.foci.items c.add_part.new.foci.items more.items residue c.loop-value.groups.items c.add_part.new.groups.items (record { count = c.len-count.result; residue = c.in_ok-more.residue }) c.loop-value.yielded c.in-Some.value
    c.in_ok-add_part.ensures.foci c.in_ok-add_part.ensures.groups (ap (λ (n : ℕ). (n, residue)) counted) c.in_ok-more.ensures.foci c.in_ok-more.ensures.rest c.in_ok-more.ensures.exact c.loop-value.invariant

pub returns-in_err-more-clause-count : goal.returns-in_err-more-clause-count
returns-in_err-more-clause-count g c =
    let q = g.Q.Optic.path c.args.optic.now in
    let as_long : c.into_iter-value-iterator.result.rest.len ≡ length c.args.values.items = search rules in
    let here = in_hand c.into_iter-value-iterator.result c.loop-value.value-iterator c.next.new.self c.args.values.items c.loop-value.yielded c.in-Some.value c.into_iter-value-iterator.ensures.into_iter_gives.0 as_long c.loop-value.yielded_by c.next.result c.in-Some.is c.next.ensures.steps in
    no_more_crossed (crossed q) c.args.values.items c.loop-value.yielded c.in-Some.value (g.C.Counter.counted c.loop-value.steps) (g.C.Counter.counted c.part.new.steps) (g.C.Counter.counted c.args.steps.now) here c.part.ensures.count c.loop-value.invariant.counts

pub returns-in_err-add_part-clause-count : goal.returns-in_err-add_part-clause-count
returns-in_err-add_part-clause-count g c =
    let q = g.Q.Optic.path c.args.optic.now in
    let as_long : c.into_iter-value-iterator.result.rest.len ≡ length c.args.values.items = search rules in
    let here = in_hand c.into_iter-value-iterator.result c.loop-value.value-iterator c.next.new.self c.args.values.items c.loop-value.yielded c.in-Some.value c.into_iter-value-iterator.ensures.into_iter_gives.0 as_long c.loop-value.yielded_by c.next.result c.in-Some.is c.next.ensures.steps in
    no_more_crossed (crossed q) c.args.values.items c.loop-value.yielded c.in-Some.value (g.C.Counter.counted c.loop-value.steps) (g.C.Counter.counted c.part.new.steps) (g.C.Counter.counted c.args.steps.now) here c.part.ensures.count c.loop-value.invariant.counts
