use Rattle.std.proofs.Common.{◌≡◌, ◌++◌, ◌∷◌, List, [], map, length, ap, ◌∙◌, rules, arith}
use Rattle.std.specs.Prelude.{not, if◌then◌else◌}
use Rattle.mig_model.specs.Names.{is_among, those, others}
use Rattle.mig_value.specs.View.{slot_of}
use Rattle.mig_value.specs.declared.slots.Slot.{Slot}
use Rattle.mig_slots.proofs.Filtered.{kept_more}
use Rattle.mig_model.proofs.Loops.{all_behind}
use Rattle.mig_slots.proofs.nesting.parted.Goals as goal

pub loop-slot-preserved : goal.loop-slot-preserved
loop-slot-preserved c =
    let names = c.args.names.now in
    let s = c.in-Some.slot in
    let ys = c.loop-slot.yielded in
    let outside : c.put_apart.new.outside.items ≡ (if not (is_among names s.name) then c.loop-slot.outside.items ++ s ∷ [] else c.loop-slot.outside.items) = grind (arith, c.in_ok-put_apart.ensures.outside) in
    record {
      inside = kept_more (is_among names) ys c.loop-slot.inside.items c.put_apart.new.inside.items s c.loop-slot.invariant.inside c.in_ok-put_apart.ensures.inside;
      outside = kept_more (λ n. not (is_among names n)) ys c.loop-slot.outside.items c.put_apart.new.outside.items s c.loop-slot.invariant.outside outside;
    }

pub returns : goal.returns
returns c =
    let all = c.args.slots.items in
    let as_long : c.into_iter-slot-iterator.result.rest.len ≡ length all = search rules in
    let done = all_behind c.into_iter-slot-iterator.result c.loop-slot.slot-iterator c.next.new.self all c.loop-slot.yielded c.into_iter-slot-iterator.ensures.into_iter_gives.0 as_long c.loop-slot.yielded_by c.next.result c.in-None.is c.next.ensures.steps in
    record {
      those = c.loop-slot.invariant.inside ∙ ap (λ (l : List Slot). those c.args.names.now (map slot_of l)) done;
      others = c.loop-slot.invariant.outside ∙ ap (λ (l : List Slot). others c.args.names.now (map slot_of l)) done;
    }
