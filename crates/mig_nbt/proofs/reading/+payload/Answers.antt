use Rattle.std.proofs.Common.{◌≡◌, ◌∙◌, ℕ, List, [], ◌∷◌, ◌++◌, length, map, Some, None, false, ap, arith}
use Rattle.std.proofs.lemmas.List.{map-append}
use Rattle.std.proofs.lemmas.Result.{err_from_is_err_and}
use Rattle.mig_model.proofs.Ascending.{gathered_complete, gathered_none}
use Rattle.mig_tree.specs.declared.entries.Entry.{Entry}
use Rattle.mig_tree.specs.View.{plain_of, entry_of}
use Rattle.mig_nbt.specs.declared.tag.Tag.TheVariants.{End}
use Rattle.mig_nbt.specs.Reading.{leaf_at, payload_at, payloads_at, tags_at, tag_at, is_end}
use Rattle.mig_nbt.proofs.Loops.{payloads_go_on, payloads_end, payloads_done, no_levels, no_tag, at_end, no_name, no_tree, tags_go_on, tags_done, going, gathers}
use Rattle.mig_nbt.proofs.reading.+payload.Goals as goal

pub payload_at-returns-then-levels-eq0 : goal.payload_at-returns-then-levels-eq0
unfolding leaf_at
payload_at-returns-then-levels-eq0 t c =
    let leaf : leaf_at c.args.tag c.args.bytes.now ≡ None = ap (λ k. leaf_at k c.args.bytes.now) c.in-Items.is in
    no_levels c.args.levels c.args.tag c.args.bytes.now (omega arith) leaf

pub payload_at-returns-then-levels-eq0-2 : goal.payload_at-returns-then-levels-eq0-2
unfolding leaf_at
payload_at-returns-then-levels-eq0-2 t c =
    let leaf : leaf_at c.args.tag c.args.bytes.now ≡ None = ap (λ k. leaf_at k c.args.bytes.now) c.in-Compound.is in
    no_levels c.args.levels c.args.tag c.args.bytes.now (omega arith) leaf

pub payloads_at-returns-in_err-tree : goal.payloads_at-returns-in_err-tree
payloads_at-returns-in_err-tree t c =
    let value = payload_at c.args.levels c.args.element in
    let p = err_from_is_err_and c.from_residual.result c.from_residual.ensures.1 in
    rw (p.1, p.2) (payloads_end value c.in_err-tree.field-0.0 c.loop.items c.args.count c.loop.counter c.loop.rest.now (payloads_at value c.args.count c.args.bytes.now) c.loop-test.true c.in_err-tree.ensures c.loop.invariant)

pub payloads_at-loop-preserved : goal.payloads_at-loop-preserved
payloads_at-loop-preserved t c =
    let value = payload_at c.args.levels c.args.element in
    let x = plain_of c.in_ok-tree.tree in
    let e : c.push.new.self ≡ c.loop.items ++ x ∷ [] = c.in_ok-push.ensures.ok in
    rw e (payloads_go_on value c.loop.items c.args.count c.loop.counter c.loop.rest.now x c.in_ok-tree.after.now (payloads_at value c.args.count c.args.bytes.now) c.loop-test.true c.in_ok-tree.ensures c.loop.invariant)

pub payloads_at-returns : goal.payloads_at-returns
payloads_at-returns t c =
    let value = payload_at c.args.levels c.args.element in
    payloads_done value c.loop.items c.args.count c.loop.counter c.loop.rest.now (payloads_at value c.args.count c.args.bytes.now) c.loop-test.false c.loop.invariant

pub map_at-returns-in-Some : goal.map_at-returns-in-Some
map_at-returns-in-Some t c =
    let qs = map entry_of c.in_ok-list.list.items in
    gathers (payload_at c.args.levels) c.args.bytes.now qs c.in_ok-list.rest.now (Some c.in-Some.entries) c.in_ok-list.ensures
    (gathered_complete qs c.in-Some.entries c.in-Some.ensures.found c.in-Some.ensures.keep.0)

pub map_at-returns-in-None : goal.map_at-returns-in-None
map_at-returns-in-None t c =
    let qs = map entry_of c.in_ok-list.list.items in
    gathers (payload_at c.args.levels) c.args.bytes.now qs c.in_ok-list.rest.now None c.in_ok-list.ensures (gathered_none qs c.in-None.ensures.twice)

pub tags_at-returns-in_err-tag : goal.tags_at-returns-in_err-tag
tags_at-returns-in_err-tag t c =
    let value = payload_at c.args.levels in
    let whole = tags_at value (length c.args.bytes.now) c.args.bytes.now in
    let p = err_from_is_err_and c.from_residual.result c.from_residual.ensures.1 in
    rw (p.1, p.2) (no_tag value (length c.args.bytes.now) c.loop.counter (map entry_of c.loop.list.items) c.loop.rest.now whole c.loop-test.true c.loop.invariant c.in_err-tag.field-0.0 c.in_err-tag.ensures)

pub tags_at-returns-in-End : goal.tags_at-returns-in-End
tags_at-returns-in-End t c =
    let value = payload_at c.args.levels in
    let whole = tags_at value (length c.args.bytes.now) c.args.bytes.now in
    let h : tag_at c.loop.rest.now ≡ Some (End, c.in_ok-tag.after.now) = grind arith in
    at_end value (length c.args.bytes.now) c.loop.counter (map entry_of c.loop.list.items) c.loop.rest.now whole c.loop-test.true c.loop.invariant c.in_ok-tag.after.now h

pub tags_at-returns-in_err-name : goal.tags_at-returns-in_err-name
tags_at-returns-in_err-name t c =
    let value = payload_at c.args.levels in
    let whole = tags_at value (length c.args.bytes.now) c.args.bytes.now in
    let p = err_from_is_err_and c.from_residual-in_err-name.result c.from_residual-in_err-name.ensures.1 in
    let goes : is_end c.in_ok-tag.tag ≡ false = going c.in_ok-tag.tag c.in_default.not-End in
    rw (p.1, p.2) (no_name value (length c.args.bytes.now) c.loop.counter (map entry_of c.loop.list.items) c.loop.rest.now whole c.loop-test.true c.loop.invariant
    c.in_ok-tag.tag c.in_ok-tag.after.now c.in_ok-tag.ensures goes c.in_err-name.field-0.0 c.in_err-name.ensures)

pub tags_at-returns-in_err-tree : goal.tags_at-returns-in_err-tree
tags_at-returns-in_err-tree t c =
    let value = payload_at c.args.levels in
    let whole = tags_at value (length c.args.bytes.now) c.args.bytes.now in
    let p = err_from_is_err_and c.from_residual-in_err-tree.result c.from_residual-in_err-tree.ensures.1 in
    let goes : is_end c.in_ok-tag.tag ≡ false = going c.in_ok-tag.tag c.in_default.not-End in
    rw (p.1, p.2) (no_tree value (length c.args.bytes.now) c.loop.counter (map entry_of c.loop.list.items) c.loop.rest.now whole c.loop-test.true c.loop.invariant
    c.in_ok-tag.tag c.in_ok-tag.after.now c.in_ok-tag.ensures goes c.in_ok-name.name.now c.in_ok-name.after.now c.in_ok-name.ensures c.in_err-tree.field-0.0 c.in_err-tree.ensures)

pub tags_at-loop-preserved : goal.tags_at-loop-preserved
tags_at-loop-preserved t c =
    let value = payload_at c.args.levels in
    let whole = tags_at value (length c.args.bytes.now) c.args.bytes.now in
    let goes : is_end c.in_ok-tag.tag ≡ false = going c.in_ok-tag.tag c.in_default.not-End in
    let e : Entry = record { name = c.lent.result; tree = c.in_ok-tree.tree } in
    let more : map entry_of c.push.new.self.items ≡ map entry_of c.loop.list.items ++ (c.in_ok-name.name.now, plain_of c.in_ok-tree.tree) ∷ [] =
    ap (λ (l : List Entry). map entry_of l) c.in_ok-push.ensures.items ∙ map-append entry_of c.loop.list.items (e ∷ [])
    ∙ ap (λ (n : List ℕ). map entry_of c.loop.list.items ++ (n, plain_of c.in_ok-tree.tree) ∷ []) c.lent.ensures in
    rw more (tags_go_on value (length c.args.bytes.now) c.loop.counter (map entry_of c.loop.list.items) c.loop.rest.now whole c.loop-test.true c.loop.invariant
    c.in_ok-tag.tag c.in_ok-tag.after.now c.in_ok-tag.ensures goes c.in_ok-name.name.now c.in_ok-name.after.now c.in_ok-name.ensures (plain_of c.in_ok-tree.tree) c.in_ok-tree.after.now c.in_ok-tree.ensures)

pub tags_at-returns : goal.tags_at-returns
tags_at-returns t c =
    let value = payload_at c.args.levels in
    let whole = tags_at value (length c.args.bytes.now) c.args.bytes.now in
    tags_done value (length c.args.bytes.now) c.loop.counter (map entry_of c.loop.list.items) c.loop.rest.now whole c.loop-test.false c.loop.invariant
