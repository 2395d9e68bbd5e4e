use Rattle.std.proofs.Common.{◌∙◌, ◌+◌, nat_eq, drop, sym, ap}
use Rattle.std.proofs.lemmas.List.{at_drop_more, at_drop_all}
use Rattle.indexmap.specs.IndexSet.{insert_all}
use Rattle.mig_schema.proofs.reach.add_all.Goals as goal

pub loop-place-preserved : goal.loop-place-preserved
loop-place-preserved c =
    let ps = c.args.places.now in
    let i = c.loop-place.place-index in
    ap (λ ks. insert_all nat_eq ks (drop (i + 1) ps)) c.in_ok-insert.ensures.keys ∙ sym (at_drop_more (insert_all nat_eq c.loop-place.found.keys) ps i 0 c.loop-place-test.true) ∙ c.loop-place.invariant

pub returns : goal.returns
returns c = sym (at_drop_all (insert_all nat_eq c.loop-place.found.keys) c.args.places.now c.loop-place.place-index c.loop-place-test.false) ∙ c.loop-place.invariant
