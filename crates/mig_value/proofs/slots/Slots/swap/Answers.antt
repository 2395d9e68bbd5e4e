use Rattle.std.proofs.Common.{◌≡◌, ◌<◌, ◌∙◌, sym, ap, subst, length, map, slice_set, arith}
use Rattle.std.proofs.lemmas.List.{length-map}
use Rattle.mig_value.specs.Kept.{ValueKept, SlotListKept}
use Rattle.mig_value.specs.Places.{value_at, with_value_at}
use Rattle.mig_value.specs.View.{typed_of, slot_of}
use Rattle.mig_value.specs.declared.slots.Slot as code
use Rattle.mig_value.proofs.Places.{slot_value, slot_set, list_kept}
use Rattle.mig_value.proofs.slots.Slots.swap.Goals as goal

pub invariant_of-self : goal.invariant_of-self
invariant_of-self c =
    let xs = c.self.inside.list.items in
    let old = c.index_mut.result.now in
    let t : code.Slot = record { name = old.name; value = c.replace.new.dest } in
    let is : map slot_of (slice_set xs c.args.at t) ≡ with_value_at c.args.at (typed_of t.value) (map slot_of xs) = slot_set xs c.args.at old t (ap (λ (s : code.Slot). s.name) c.index_mut.ensures.value) in
    let kept : ValueKept (typed_of t.value) = subst (λ v. ValueKept (typed_of v)) (sym c.replace.ensures.after) c.keeps.ensures in
    subst SlotListKept (sym is) (list_kept c.args.at (typed_of t.value) (map slot_of xs) kept c.self.invariant)

pub returns-clause-value : goal.returns-clause-value
returns-clause-value c =
    let xs = c.self.inside.list.items in
    let old = c.index_mut.result.now in
    let below : c.args.at < length xs = omega (arith, ap length c.self.view_is, length-map xs slot_of, c.requires) in
    ap typed_of c.replace.ensures.value ∙ ap (λ (s : code.Slot). typed_of s.value) c.index_mut.ensures.value ∙ slot_value xs c.args.at old below ∙ ap (value_at c.args.at) c.self.view_is

pub returns-clause-rest : goal.returns-clause-rest
returns-clause-rest c =
    let xs = c.self.inside.list.items in
    let old = c.index_mut.result.now in
    let t : code.Slot = record { name = old.name; value = c.replace.new.dest } in
    slot_set xs c.args.at old t (ap (λ (s : code.Slot). s.name) c.index_mut.ensures.value)
    ∙ ap (with_value_at c.args.at (typed_of c.replace.new.dest)) c.self.view_is
    ∙ ap (λ v. with_value_at c.args.at (typed_of v) c.args.self.now) c.replace.ensures.after

pub returns-clause-keep : goal.returns-clause-keep
returns-clause-keep c = invariant_of-self c
