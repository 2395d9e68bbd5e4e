use Rattle.std.proofs.Common.{◌≡◌, ◌∙◌, sym, ap, subst, List, map, rules, arith}
use Rattle.std.specs.List.{remove}
use Rattle.std.proofs.lemmas.Cmp.{nat_list_cmp_total}
use Rattle.std.proofs.lemmas.Map.Lookups.{exact_bytes}
use Rattle.mig_model.specs.Names.{Ascends}
use Rattle.mig_model.proofs.Searches.{found_there, key_there, not_found, nothing_removed, removed}
use Rattle.mig_value.specs.View.{slot_of}
use Rattle.mig_value.specs.declared.slots.Slot.{Slot}
use Rattle.mig_model.proofs.Edits.{ascends-without}
use Rattle.mig_slots.proofs.edits.take_slot.Goals as goal

pub returns-in-Ok-clause-taken : goal.returns-in-Ok-clause-taken
returns-in-Ok-clause-taken c =
    sym (found_there nat_list_cmp_total slot_of c.args.name.now c.args.slots.now.items c.in-Ok.at c.remove.result (grind arith) (grind arith) (search rules))

pub returns-in-Ok-clause-named : goal.returns-in-Ok-clause-named
returns-in-Ok-clause-named c =
    key_there exact_bytes slot_of c.args.name.now c.args.slots.now.items c.in-Ok.at c.remove.result (grind arith) (grind arith) (search rules)

pub returns-in-Ok-clause-rest : goal.returns-in-Ok-clause-rest
returns-in-Ok-clause-rest c =
    let xs = c.args.slots.now.items in
    let is : c.remove.new.self.items ≡ remove xs c.in-Ok.at = search rules in
    ap (λ (l : List Slot). map slot_of l) is ∙ removed nat_list_cmp_total slot_of c.args.name.now xs c.in-Ok.at (grind arith)

pub returns-in-Ok-clause-ascend : goal.returns-in-Ok-clause-ascend
returns-in-Ok-clause-ascend c = subst Ascends (sym (returns-in-Ok-clause-rest c)) (ascends-without c.args.name.now (map slot_of c.args.slots.now.items) c.requires)

pub returns-in-Err-clause-taken : goal.returns-in-Err-clause-taken
returns-in-Err-clause-taken c = sym (not_found nat_list_cmp_total slot_of c.args.name.now c.args.slots.now.items c.in-Err.field-0 c.requires (grind arith))

pub returns-in-Err-clause-rest : goal.returns-in-Err-clause-rest
returns-in-Err-clause-rest c = sym (nothing_removed nat_list_cmp_total slot_of c.args.name.now c.args.slots.now.items c.in-Err.field-0 c.requires (grind arith))
