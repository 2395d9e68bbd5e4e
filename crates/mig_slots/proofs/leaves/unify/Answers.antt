use Rattle.std.proofs.Common.{map}
use Rattle.mig_model.specs.Plain as plain
use Rattle.mig_leaf.specs.View.{leaf_fn_of}
use Rattle.mig_field.specs.Act.{unified}
use Rattle.mig_action.specs.Moves.{at_side}
use Rattle.mig_slots.specs.Fitting.{OneFitsSide}
use Rattle.mig_value.specs.Typed.{atom}
use Rattle.mig_value.specs.View.{typed_of, slot_of}
use Rattle.mig_slots.proofs.Changes.{asked_there, changed_by, unchanged}
use Rattle.mig_slots.proofs.leaves.unify.Goals as goal

pub returns-in_default : goal.returns-in_default
returns-in_default c =
    let m = c.args.moving in
    unchanged c.args.x.now (at_side (unified (leaf_fn_of c.args.first.now) (leaf_fn_of c.args.second.now) c.args.kind)) m.slots.items c.as_slice.result.now c.bytes.result.now c.in_default.field-0 (map slot_of m.rest.items)
    c.requires.ordered.slots c.as_slice.ensures.value c.bytes.ensures c.in_default.ensures.place

pub side_mapped-requires : goal.side_mapped-requires
side_mapped-requires c =
    let m = c.args.moving in
    let value = c.take_value_at-value in
    asked_there c.args.x.now (OneFitsSide (leaf_fn_of c.args.first.now) (leaf_fn_of c.args.second.now) c.args.kind) m.slots.items c.as_slice.result.now c.bytes.result.now c.in-Ok.at (typed_of value.result) c.as_slice.ensures.value c.bytes.ensures c.in-Ok.ensures.place value.ensures.value c.requires.fits

pub returns : goal.returns
returns c =
    let m = c.args.moving in
    let value = c.take_value_at-value in
    changed_by c.args.x.now (at_side (unified (leaf_fn_of c.args.first.now) (leaf_fn_of c.args.second.now) c.args.kind)) m.slots.items c.as_slice.result.now c.bytes.result.now c.in-Ok.at (atom plain.null)
    (typed_of value.result) (typed_of c.in_ok-value.value) (map slot_of value.new.slots.items) (map slot_of c.set_value_at.new.slots.items) (map slot_of m.rest.items)
    c.requires.ordered.slots c.as_slice.ensures.value c.bytes.ensures c.in-Ok.ensures.place value.ensures.value value.ensures.rest c.in_ok-value.ensures c.set_value_at.ensures
