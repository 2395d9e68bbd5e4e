use Rattle.std.proofs.Common.{ap, ◌∙◌, map}
use Rattle.mig_value.specs.Places.{with_value_at}
use Rattle.mig_value.specs.View.{typed_of, slot_of}
use Rattle.mig_value.specs.declared.slots.Slot as code
use Rattle.mig_value.proofs.Places.{slot_value, slot_set}
use Rattle.mig_slots.proofs.edits.take_value_at.Goals as goal

pub returns-clause-value : goal.returns-clause-value
returns-clause-value c =
    let xs = c.args.slots.now.items in
    let old = c.index_mut.result.now in
    ap typed_of c.replace.ensures.value ∙ ap (λ (s : code.Slot). typed_of s.value) c.index_mut.ensures.value ∙ slot_value xs c.args.at old c.requires

pub returns-clause-rest : goal.returns-clause-rest
returns-clause-rest c =
    let xs = c.args.slots.now.items in
    let old = c.index_mut.result.now in
    let t : code.Slot = record { name = old.name; value = c.replace.new.dest } in
    slot_set xs c.args.at old t (ap (λ (s : code.Slot). s.name) c.index_mut.ensures.value) ∙ ap (λ v. with_value_at c.args.at (typed_of v) (map slot_of xs)) c.replace.ensures.after
