use Rattle.std.proofs.Common.{◌≡◌, length, rules}
use Rattle.std.proofs.lemmas.Iterator.Adapters.{YieldsList-from_vec}
use Rattle.std.proofs.lemmas.Iterator.Consumers.{YieldsList-turn}
use Rattle.std.proofs.lemmas.List.{length_push}
use Rattle.mig_typed_optic.proofs.Thens.{rejoins_next}
use Rattle.mig_typed_optic.proofs.then.rejoin_each.Goals as goal

pub loop-group-preserved : goal.loop-group-preserved
loop-group-preserved g c =
    let gives = c.into_iter-group-iterator.ensures.into_iter_gives in
    let as_long : c.into_iter-group-iterator.result.rest.len ≡ length c.args.groups.items = search rules in
    let turn = YieldsList-turn (YieldsList-from_vec {s = c.into_iter-group-iterator.result} c.args.groups.items gives.0 as_long) c.loop-group.yielded c.loop-group.group-iterator c.loop-group.yielded_by c.next.result c.next.new.self c.in-Some.group c.in-Some.is c.next.ensures.steps in
    rejoins_next _ c.args.groups.items _ c.loop-group.values.items c.push.new.self.items c.loop-group.reversed.items c.take_front.new.reversed.items c.in_ok-front.front.items c.in_ok-rejoin.field-0 (length c.loop-group.yielded) _ c.in-Some.group turn.0 turn.1
    (length_push c.loop-group.yielded c.in-Some.group) c.in_ok-push.ensures.items c.in_ok-front.ensures.back c.in_ok-front.ensures.front c.in_ok-rejoin.ensures c.loop-group.invariant
