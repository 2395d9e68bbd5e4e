use Rattle.std.proofs.Common.{◌≡◌, ◌∙◌, sym, ap, subst, List, map, rules, arith, slice_set}
use Rattle.std.specs.List.{insert}
use Rattle.std.proofs.lemmas.Map.Lookups.{exact_bytes}
use Rattle.mig_model.specs.Names.{Ascends}
use Rattle.mig_model.proofs.Searches.{inserted, replaced}
use Rattle.mig_value.specs.View.{typed_of, slot_of}
use Rattle.mig_value.specs.declared.slots.Slot.{Slot}
use Rattle.mig_model.proofs.Edits.{ascends-put}
use Rattle.mig_slots.proofs.edits.put_slot.Goals as goal

pub returns-in-Ok-clause-put : goal.returns-in-Ok-clause-put
returns-in-Ok-clause-put c =
    let xs = c.args.slots.now.items in
    let is : c.replace-old.new.dest ≡ c.args.slot = search rules in
    ap (λ (x : Slot). map slot_of (slice_set xs c.in-Ok.at x)) is ∙ replaced exact_bytes slot_of xs c.in-Ok.at c.args.slot (grind arith)

pub returns-in-Ok-clause-ascend : goal.returns-in-Ok-clause-ascend
returns-in-Ok-clause-ascend c =
    subst Ascends (sym (returns-in-Ok-clause-put c)) (ascends-put c.args.slot.name (typed_of c.args.slot.value) (map slot_of c.args.slots.now.items) c.requires)

pub returns-in_ok-insert-in-Err-clause-put : goal.returns-in_ok-insert-in-Err-clause-put
returns-in_ok-insert-in-Err-clause-put c =
    let xs = c.args.slots.now.items in
    let is : c.insert.new.self.items ≡ insert xs c.in-Err.at c.args.slot = search rules in
    ap (λ (l : List Slot). map slot_of l) is ∙ inserted exact_bytes slot_of xs c.in-Err.at c.args.slot (grind arith)

pub returns-in_ok-insert-in-Err-clause-ascend : goal.returns-in_ok-insert-in-Err-clause-ascend
returns-in_ok-insert-in-Err-clause-ascend c =
    subst Ascends (sym (returns-in_ok-insert-in-Err-clause-put c)) (ascends-put c.args.slot.name (typed_of c.args.slot.value) (map slot_of c.args.slots.now.items) c.requires)
