use Rattle.std.proofs.Common.{ap, ◌∙◌, map}
use Rattle.mig_value.specs.Places.{with_value_at}
use Rattle.mig_value.specs.View.{typed_of, slot_of}
use Rattle.mig_value.specs.declared.slots.Slot as code
use Rattle.mig_value.proofs.Places.{slot_set}
use Rattle.mig_slots.proofs.edits.set_value_at.Goals as goal

pub returns : goal.returns
returns c =
    let xs = c.args.slots.now.items in
    let old = c.index_mut.result.now in
    let t : code.Slot = record { name = old.name; value = c.replace-old.new.dest } in
    slot_set xs c.args.at old t (ap (λ (s : code.Slot). s.name) c.index_mut.ensures.value) ∙ ap (λ v. with_value_at c.args.at (typed_of v) (map slot_of xs)) c.replace-old.ensures.after
