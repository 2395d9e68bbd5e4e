use Rattle.std.proofs.Common.{rules, append_assoc, ◌≡◌, ◌∙◌, ◌++◌, ◌∷◌, [], List, map, length, sym, subst, ap, arith}
use Rattle.std.specs.Prelude.{IsPermutation}
use Rattle.mig_model.specs.Plain as plain
use Rattle.mig_model.specs.Plain.{Plain, pairs_of, trees_of}
use Rattle.mig_model.specs.Keeps.{ItemsKeep}
use Rattle.mig_tree.specs.View.{plain_of, entry_of}
use Rattle.mig_tree.specs.declared.tree.Tree.{Tree}
use Rattle.mig_tree.proofs.Kept.{items_pushed}
use Rattle.std.proofs.lemmas.List.{map-append}
use Rattle.mig_value.specs.Typed.{out, out_items, out_slots, items_of, slots_of}
use Rattle.mig_value.specs.View.{typed_of, slot_of}
use Rattle.mig_value.proofs.Orders.{in_order_named}
use Rattle.mig_write.specs.Lists.{pairs_in}
use Rattle.mig_model.proofs.Loops.{in_hand}
use Rattle.mig_write.proofs.Loops.{item_smaller, slot_smaller, item_counted, slot_counted, item_more, slot_more, items_count, slots_count}
use Rattle.mig_write.proofs.Pairs.{has_order}
use Rattle.mig_write.proofs.writing.+write.Goals as goal

pub write_items-write-requires : goal.write_items-write-requires
write_items-write-requires g t c κs within =
    let as_long : c.into_iter-value-iterator.result.rest.len ≡ length c.args.values.items = search rules in
    let here = in_hand c.into_iter-value-iterator.result c.loop-value.value-iterator c.next.new.self c.args.values.items c.loop-value.yielded c.in-Some.value c.into_iter-value-iterator.ensures.into_iter_gives.0 as_long c.loop-value.yielded_by c.next.result c.in-Some.is c.next.ensures.steps in
    (omega (arith, item_smaller c.args.values.items c.loop-value.yielded c.in-Some.value here), within)

pub write_items-returns-in_err-tree-clause-count : goal.write_items-returns-in_err-tree-clause-count
write_items-returns-in_err-tree-clause-count g t c =
    let as_long : c.into_iter-value-iterator.result.rest.len ≡ length c.args.values.items = search rules in
    let here = in_hand c.into_iter-value-iterator.result c.loop-value.value-iterator c.next.new.self c.args.values.items c.loop-value.yielded c.in-Some.value c.into_iter-value-iterator.ensures.into_iter_gives.0 as_long c.loop-value.yielded_by c.next.result c.in-Some.is c.next.ensures.steps in
    omega (arith, item_counted c.args.values.items c.loop-value.yielded c.in-Some.value here, c.loop-value.invariant.1, c.write.ensures.count)

pub write_items-loop-value-preserved : goal.write_items-loop-value-preserved
write_items-loop-value-preserved g t c =
    let ys = c.loop-value.yielded in
    let v = c.in-Some.value in
    let before = c.loop-value.list.items in
    let pushed = c.in_ok-push.ensures.items in
    let seen : map typed_of (ys ++ v ∷ []) ≡ map typed_of ys ++ typed_of v ∷ [] = map-append typed_of ys (v ∷ []) in
    let made : map plain_of c.push.new.self.items ≡ map plain_of before ++ plain_of c.in_ok-tree.tree ∷ [] = ap (λ (l : List Tree). map plain_of l) pushed ∙ map-append plain_of before (c.in_ok-tree.tree ∷ []) in (
      ap trees_of made ∙ item_more (map plain_of before) (map typed_of ys) (plain_of c.in_ok-tree.tree) (typed_of v) c.loop-value.invariant.0 c.in_ok-tree.ensures.tree ∙ ap (λ l. out_items (items_of l)) (sym seen),
      omega (arith, items_count ys [] v, c.loop-value.invariant.1, c.in_ok-tree.ensures.exact),
      subst (λ (l : List Tree). ItemsKeep (map plain_of l)) (sym pushed) (items_pushed before c.in_ok-tree.tree c.loop-value.invariant.2 c.keeps.ensures (omega (arith, ap length pushed))),
    )

pub write_items-returns-in_err-push-clause-count : goal.write_items-returns-in_err-push-clause-count
write_items-returns-in_err-push-clause-count g t c =
    let as_long : c.into_iter-value-iterator.result.rest.len ≡ length c.args.values.items = search rules in
    let here = in_hand c.into_iter-value-iterator.result c.loop-value.value-iterator c.next.new.self c.args.values.items c.loop-value.yielded c.in-Some.value c.into_iter-value-iterator.ensures.into_iter_gives.0 as_long c.loop-value.yielded_by c.next.result c.in-Some.is c.next.ensures.steps in
    omega (arith, item_counted c.args.values.items c.loop-value.yielded c.in-Some.value here, c.loop-value.invariant.1, c.write.ensures.count)

pub write_slots-write-requires : goal.write_slots-write-requires
write_slots-write-requires g t c κs within =
    let as_long : c.into_iter-slot-iterator.result.rest.len ≡ length c.args.slots.items = search rules in
    let here = in_hand c.into_iter-slot-iterator.result c.loop-slot.slot-iterator c.next.new.self c.args.slots.items c.loop-slot.yielded c.in-Some.slot c.into_iter-slot-iterator.ensures.into_iter_gives.0 as_long c.loop-slot.yielded_by c.next.result c.in-Some.is c.next.ensures.steps in
    (omega (arith, slot_smaller c.args.slots.items c.loop-slot.yielded c.in-Some.slot here), within)

pub write_slots-returns-in_err-tree-clause-count : goal.write_slots-returns-in_err-tree-clause-count
write_slots-returns-in_err-tree-clause-count g t c =
    let as_long : c.into_iter-slot-iterator.result.rest.len ≡ length c.args.slots.items = search rules in
    let here = in_hand c.into_iter-slot-iterator.result c.loop-slot.slot-iterator c.next.new.self c.args.slots.items c.loop-slot.yielded c.in-Some.slot c.into_iter-slot-iterator.ensures.into_iter_gives.0 as_long c.loop-slot.yielded_by c.next.result c.in-Some.is c.next.ensures.steps in
    omega (arith, slot_counted c.args.slots.items c.loop-slot.yielded c.in-Some.slot here, c.loop-slot.invariant.1, c.write.ensures.count)

pub write_slots-loop-slot-preserved : goal.write_slots-loop-slot-preserved
write_slots-loop-slot-preserved g t c =
    let ys = c.loop-slot.yielded in
    let s = c.in-Some.slot in
    let before = c.loop-slot.list.items in
    let start = map entry_of c.args.list.now.items in
    let pushed : map entry_of c.push.new.self.items ≡ map entry_of before ++ (s.name, plain_of c.in_ok-tree.tree) ∷ [] = ap (map entry_of) c.in_ok-push.ensures.items ∙ map-append entry_of before _ in
    let pair : (s.name, plain_of c.in_ok-tree.tree) ≡ (s.name, out (typed_of s.value)) = ap (λ x. (s.name, x)) c.in_ok-tree.ensures.tree in (
      pushed ∙ (λ i. c.loop-slot.invariant.0 i ++ pair i ∷ []) ∙ append_assoc start (out_slots (slots_of (map slot_of ys))) ((s.name, out (typed_of s.value)) ∷ []) ∙ ap (λ l. start ++ l) (sym (slot_more ys s)),
      omega (arith, slots_count ys [] s, c.loop-slot.invariant.1, c.in_ok-tree.ensures.exact),
    )

pub write_slots-returns-in_err-push-clause-count : goal.write_slots-returns-in_err-push-clause-count
write_slots-returns-in_err-push-clause-count g t c =
    let as_long : c.into_iter-slot-iterator.result.rest.len ≡ length c.args.slots.items = search rules in
    let here = in_hand c.into_iter-slot-iterator.result c.loop-slot.slot-iterator c.next.new.self c.args.slots.items c.loop-slot.yielded c.in-Some.slot c.into_iter-slot-iterator.ensures.into_iter_gives.0 as_long c.loop-slot.yielded_by c.next.result c.in-Some.is c.next.ensures.steps in
    omega (arith, slot_counted c.args.slots.items c.loop-slot.yielded c.in-Some.slot here, c.loop-slot.invariant.1, c.write.ensures.count)

pub write_record-unreachable-requires : goal.write_record-unreachable-requires
write_record-unreachable-requires g t c =
    let order = has_order c.args.parts c.keeps.ensures.0 in
    c.in-None.ensures.twice order.0 (subst (λ l. IsPermutation l order.0) (sym c.in_ok-list.ensures.pairs) order.1) order.2

pub write_record-returns-clause-map : goal.write_record-returns-clause-map
write_record-returns-clause-map g t c =
    ap (λ ps. plain.map (pairs_of ps)) (sym (in_order_named (pairs_in c.args.parts) c.in-Some.entries (subst (λ l. IsPermutation l c.in-Some.entries) c.in_ok-list.ensures.pairs c.in-Some.ensures.found) c.in-Some.ensures.keep.0))
