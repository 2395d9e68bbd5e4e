use Rattle.std.proofs.Common.{◌≡◌, ◌++◌, map, drop}
use Rattle.std.specs.Map.{keys_of}
use Rattle.mig_model.specs.Names.{Ascends, others}
use Rattle.mig_template.specs.View.{field_of}
use Rattle.mig_value.specs.View.{slot_of}
use Rattle.mig_action.specs.Moves.{settled_value}
use Rattle.mig_slots.proofs.Taking.{collected}
use Rattle.mig_slots.proofs.settling.taken.Given as goal

abbrev pub invariant-loop-field : goal.invariant-loop-field
invariant-loop-field l = record {
  taken : map slot_of l.list.items ++ collected settled_value (map field_of (drop l.field-index l.field-items)) (map slot_of l.rest.items) ≡ collected settled_value l.fields (map slot_of l.fn.given.items);
  others : others (keys_of l.fields) (map slot_of l.rest.items) ≡ others (keys_of l.fields) (map slot_of l.fn.given.items);
  ascend : Ascends (map slot_of l.rest.items);
}
