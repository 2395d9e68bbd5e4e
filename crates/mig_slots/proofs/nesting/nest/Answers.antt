use Rattle.std.proofs.Common.{map, sym, subst}
use Rattle.mig_model.specs.Names.{Ascends}
use Rattle.mig_value.specs.View.{slot_of}
use Rattle.mig_model.proofs.Edits.{ascends-those, ascends-others}
use Rattle.mig_slots.proofs.nesting.nest.Goals as goal

pub open_record-requires : goal.open_record-requires
open_record-requires c = subst Ascends (sym c.in_ok-inside.ensures.those) (ascends-those c.args.xs.now (map slot_of c.args.moving.slots.items) c.requires.slots)

pub put_value-requires : goal.put_value-requires
put_value-requires c = subst Ascends (sym c.in_ok-inside.ensures.others) (ascends-others c.args.xs.now (map slot_of c.args.moving.slots.items) c.requires.slots)
