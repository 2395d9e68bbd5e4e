use Rattle.std.proofs.Common.{map}
use Rattle.mig_model.specs.Plain as plain
use Rattle.mig_value.specs.Typed.{atom, list, item, no_item}
use Rattle.mig_value.specs.View.{typed_of, slot_of}
use Rattle.mig_slots.proofs.Changes.{changed_by, unchanged}
use Rattle.mig_slots.proofs.leaves.wrap.Goals as goal

pub returns-in-Err : goal.returns-in-Err
returns-in-Err c =
    let m = c.args.moving in
    unchanged c.args.x.now (λ v. list (item v no_item)) m.slots.items c.as_slice.result.now c.bytes.result.now c.in-Err.field-0 (map slot_of m.rest.items)
    c.requires.slots c.as_slice.ensures.value c.bytes.ensures c.in-Err.ensures.place

pub returns-in_ok-value-in-Ok : goal.returns-in_ok-value-in-Ok
returns-in_ok-value-in-Ok c =
    let m = c.args.moving in
    let value = c.take_value_at-value in
    changed_by c.args.x.now (λ v. list (item v no_item)) m.slots.items c.as_slice.result.now c.bytes.result.now c.in-Ok.at (atom plain.null)
    (typed_of value.result) (typed_of c.in_ok-value-in-Ok.value) (map slot_of value.new.slots.items) (map slot_of c.set_value_at.new.slots.items) (map slot_of m.rest.items)
    c.requires.slots c.as_slice.ensures.value c.bytes.ensures c.in-Ok.ensures.place value.ensures.value value.ensures.rest c.in_ok-value-in-Ok.ensures c.set_value_at.ensures
