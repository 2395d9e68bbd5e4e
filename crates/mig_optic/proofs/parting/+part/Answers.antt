use Rattle.std.proofs.Common.{◌≡◌, ◌∙◌, ◌+◌, ℕ, ap, length, map, rules, arith}
use Rattle.std.specs.List.{flat_map}
use Rattle.std.proofs.lemmas.Iterator.Adapters.{YieldsList-from_vec}
use Rattle.std.proofs.lemmas.Iterator.Consumers.{YieldsList-turn}
use Rattle.std.proofs.lemmas.Result.{IfOk-weaker}
use Rattle.mig_model.proofs.Loops.{in_hand}
use Rattle.mig_value.specs.View.{typed_of}
use Rattle.mig_any_residue.specs.HeldView.{group_pair}
use Rattle.mig_optic.specs.AnyView.{any_path}
use Rattle.mig_path.specs.Path.{Takes, foci, crossed, total_of, then_}
use Rattle.mig_path.specs.Rest.{rest_for, both, groups_of}
use Rattle.mig_typed_optic.proofs.Thens.{taken, parted_next, no_more_crossed, both_are}
use Rattle.mig_optic.proofs.parting.+part.Goals as goal

pub part_each-part_any-requires : goal.part_each-part_any-requires
part_each-part_any-requires g t c κs within =
    let gives = c.into_iter-value-iterator.ensures.into_iter_gives in
    let turn = YieldsList-turn (YieldsList-from_vec {s = c.into_iter-value-iterator.result} c.args.values.items gives.0 (◌∙◌ {b = c.args.values.len} gives.1 c.args.values.ok.0)) c.loop-value.yielded c.loop-value.value-iterator c.loop-value.yielded_by c.next.result c.next.new.self c.in-Some.value c.in-Some.is c.next.ensures.steps in
    (search rules, (within, taken (Takes (any_path c.args.optic.now)) c.args.values.items (length c.loop-value.yielded) c.in-Some.value c.requires turn.0 turn.1))

pub part_each-loop-value-preserved : goal.part_each-loop-value-preserved
part_each-loop-value-preserved g t c =
    let more = c.in_ok-more.more in
    let counted : c.len-count.result ≡ length more.items = ◌∙◌ {b = more.len} c.len-count.ensures more.ok.0 in
    parted_next (any_path c.args.optic.now) group_pair _ _ _ c.loop-value.foci.items c.add_part.new.foci.items more.items c.in_ok-more.residue c.loop-value.groups.items c.add_part.new.groups.items (record { count = c.len-count.result; residue = c.in_ok-more.residue }) c.loop-value.yielded c.in-Some.value
    c.in_ok-add_part.ensures.foci c.in_ok-add_part.ensures.groups (ap (λ (n : ℕ). (n, c.in_ok-more.residue)) counted) c.in_ok-more.ensures.foci c.in_ok-more.ensures.rest c.in_ok-more.ensures.exact c.loop-value.invariant

pub part_each-returns-in_err-more-clause-count : goal.part_each-returns-in_err-more-clause-count
part_each-returns-in_err-more-clause-count g t c =
    let gives = c.into_iter-value-iterator.ensures.into_iter_gives in
    let here = in_hand c.into_iter-value-iterator.result c.loop-value.value-iterator c.next.new.self c.args.values.items c.loop-value.yielded c.in-Some.value gives.0 (◌∙◌ {b = c.args.values.len} gives.1 c.args.values.ok.0) c.loop-value.yielded_by c.next.result c.in-Some.is c.next.ensures.steps in
    no_more_crossed (crossed (any_path c.args.optic.now)) c.args.values.items c.loop-value.yielded c.in-Some.value (g.C.Counter.counted c.loop-value.steps) (g.C.Counter.counted c.part_any.new.steps) (g.C.Counter.counted c.args.steps.now) here c.part_any.ensures.count c.loop-value.invariant.counts

pub part_each-returns-in_err-add_part-clause-count : goal.part_each-returns-in_err-add_part-clause-count
part_each-returns-in_err-add_part-clause-count g t c =
    let gives = c.into_iter-value-iterator.ensures.into_iter_gives in
    let here = in_hand c.into_iter-value-iterator.result c.loop-value.value-iterator c.next.new.self c.args.values.items c.loop-value.yielded c.in-Some.value gives.0 (◌∙◌ {b = c.args.values.len} gives.1 c.args.values.ok.0) c.loop-value.yielded_by c.next.result c.in-Some.is c.next.ensures.steps in
    no_more_crossed (crossed (any_path c.args.optic.now)) c.args.values.items c.loop-value.yielded c.in-Some.value (g.C.Counter.counted c.loop-value.steps) (g.C.Counter.counted c.part_any.new.steps) (g.C.Counter.counted c.args.steps.now) here c.part_any.ensures.count c.loop-value.invariant.counts

pub part_then-returns-clause-foci : goal.part_then-returns-clause-foci
part_then-returns-clause-foci g t c =
    let path = then_ (any_path c.args.first.now) (any_path c.args.second.now) in
    let found : map typed_of c.in_ok-foci.foci.items ≡ foci path (typed_of c.args.value) = c.in_ok-foci.ensures.foci ∙ ap (flat_map (foci (any_path c.args.second.now))) c.in_ok-values.ensures.foci in
    IfOk-weaker c.with_inner.result (λ x. x.0.items ≡ c.in_ok-foci.foci.items) (λ x. map typed_of x.0.items ≡ foci path (typed_of c.args.value)) (λ x same. ap (map typed_of) same ∙ found) c.with_inner.ensures.foci

pub part_then-returns-clause-rest : goal.part_then-returns-clause-rest
part_then-returns-clause-rest g t c =
    let path = then_ (any_path c.args.first.now) (any_path c.args.second.now) in
    let inner = map group_pair c.in_ok-foci.inner.items in
    let is : both c.in_ok-values.outer (groups_of inner) ≡ rest_for path (typed_of c.args.value) =
    both_are (any_path c.args.first.now) (any_path c.args.second.now) (typed_of c.args.value) c.in_ok-values.outer inner (map typed_of c.in_ok-values.values.items) c.in_ok-values.ensures.rest c.in_ok-foci.ensures.groups c.in_ok-values.ensures.foci in
    IfOk-weaker c.with_inner.result (λ x. x.1 ≡ both c.in_ok-values.outer (groups_of inner)) (λ x. x.1 ≡ rest_for path (typed_of c.args.value)) (λ x same. same ∙ is) c.with_inner.ensures.rest

pub part_then-returns-clause-exact : goal.part_then-returns-clause-exact
part_then-returns-clause-exact g t c =
    let path = then_ (any_path c.args.first.now) (any_path c.args.second.now) in
    let is : g.C.Counter.counted c.part_each.new.steps ≡ g.C.Counter.counted c.args.steps.now + crossed path (typed_of c.args.value) =
    omega (arith, c.in_ok-foci.ensures.exact, c.in_ok-values.ensures.exact, ap (total_of (crossed (any_path c.args.second.now))) c.in_ok-values.ensures.foci) in
    IfOk-weaker c.with_inner.result (λ x. x.0.items ≡ c.in_ok-foci.foci.items) (λ x. g.C.Counter.counted c.part_each.new.steps ≡ g.C.Counter.counted c.args.steps.now + crossed path (typed_of c.args.value)) (λ x same. is) c.with_inner.ensures.foci

pub part_then-returns-in_err-foci-clause-count : goal.part_then-returns-in_err-foci-clause-count
part_then-returns-in_err-foci-clause-count g t c =
    omega (arith, c.part_each.ensures.count, c.in_ok-values.ensures.exact, ap (total_of (crossed (any_path c.args.second.now))) c.in_ok-values.ensures.foci)

pub part_then-returns-clause-count : goal.part_then-returns-clause-count
part_then-returns-clause-count g t c =
    omega (arith, c.in_ok-foci.ensures.exact, c.in_ok-values.ensures.exact, ap (total_of (crossed (any_path c.args.second.now))) c.in_ok-values.ensures.foci)
