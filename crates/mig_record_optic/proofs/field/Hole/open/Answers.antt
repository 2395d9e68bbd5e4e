use Rattle.std.proofs.Common.{◌≡◌, Some, None}
use Rattle.mig_value.specs.Places.{slot_place}
use Rattle.mig_value.specs.View.{typed_of}
use Rattle.mig_record_optic.proofs.Openings.{at_name, no_name, hole_first, focus_is, hole_is}
use Rattle.mig_record_optic.proofs.field.Hole.open.Goals as goal

pub swap-focus-requires : goal.swap-focus-requires
swap-focus-requires c =
    let e : slot_place c.args.name.now c.args.value ≡ Some c.in-Some.place = cc in
    (at_name c.args.name.now c.in-Some.place c.args.value e).is_place

pub invariant_of-result : goal.invariant_of-result
invariant_of-result c =
    let e : slot_place c.args.name.now c.args.value ≡ Some c.in-Some.place = cc in
    hole_first c.args.name.now c.in-Some.place c.args.value c.swap-focus.new.self e c.swap-focus.ensures.rest

pub returns-in-Some-clause-focus : goal.returns-in-Some-clause-focus
returns-in-Some-clause-focus c =
    let e : slot_place c.args.name.now c.args.value ≡ Some c.in-Some.place = cc in
    focus_is c.args.name.now c.in-Some.place c.args.value (typed_of c.swap-focus.result) e c.swap-focus.ensures.value

pub returns-in-Some-clause-hole : goal.returns-in-Some-clause-hole
returns-in-Some-clause-hole c =
    let e : slot_place c.args.name.now c.args.value ≡ Some c.in-Some.place = cc in
    hole_is c.args.name.now c.in-Some.place c.args.value c.swap-focus.new.self e c.swap-focus.ensures.rest

pub returns-in-None-clause-absent : goal.returns-in-None-clause-absent
returns-in-None-clause-absent c =
    let e : slot_place c.args.name.now c.args.value ≡ None = cc in
    no_name c.args.name.now c.args.value e
