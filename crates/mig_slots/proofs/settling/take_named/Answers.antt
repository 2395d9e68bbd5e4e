use Rattle.std.proofs.Common.{map, sym, arith}
use Rattle.std.proofs.lemmas.Cmp.{nat_list_cmp_total}
use Rattle.mig_model.specs.Plain as plain
use Rattle.mig_model.proofs.Searches.{not_found}
use Rattle.mig_value.specs.Typed.{atom}
use Rattle.mig_value.specs.View.{typed_of, slot_of}
use Rattle.mig_slots.proofs.Taking.{taken_there, elsewhere_there, others_there, still_ascends}
use Rattle.mig_slots.proofs.settling.take_named.Goals as goal

pub returns-in-Ok-clause-taken : goal.returns-in-Ok-clause-taken
returns-in-Ok-clause-taken c =
    taken_there c.args.name.now c.args.slots.now.items c.as_slice.result.now c.in-Ok.at c.as_slice.ensures.value c.in-Ok.ensures.place (typed_of c.take_value_at.result) c.take_value_at.ensures.value

pub returns-in-Ok-clause-elsewhere : goal.returns-in-Ok-clause-elsewhere
returns-in-Ok-clause-elsewhere c n h =
    elsewhere_there c.args.name.now c.args.slots.now.items c.as_slice.result.now c.in-Ok.at c.as_slice.ensures.value c.in-Ok.ensures.place (atom plain.null) (map slot_of c.take_value_at.new.slots.items) c.take_value_at.ensures.rest n h

pub returns-in-Ok-clause-others : goal.returns-in-Ok-clause-others
returns-in-Ok-clause-others c xs h =
    others_there c.args.name.now c.args.slots.now.items c.as_slice.result.now c.in-Ok.at c.as_slice.ensures.value c.in-Ok.ensures.place (atom plain.null) (map slot_of c.take_value_at.new.slots.items) c.take_value_at.ensures.rest xs h

pub returns-in-Ok-clause-ascend : goal.returns-in-Ok-clause-ascend
returns-in-Ok-clause-ascend c =
    still_ascends (atom plain.null) (map slot_of c.args.slots.now.items) (map slot_of c.take_value_at.new.slots.items) c.in-Ok.at c.take_value_at.ensures.rest c.requires

pub returns-in-Err-clause-taken : goal.returns-in-Err-clause-taken
returns-in-Err-clause-taken c = sym (not_found nat_list_cmp_total slot_of c.args.name.now c.args.slots.now.items c.in-Err.field-0 c.requires (grind arith))
