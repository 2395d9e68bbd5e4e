use Rattle.std.proofs.Common.{◌≡◌, ◌+◌, ◌∷◌, ◌++◌, [], List, map, take, subst, sym, ap, ◌∙◌}
use Rattle.std.proofs.lemmas.List.{take_more}
use Rattle.mig_value.specs.Typed.{slots_of}
use Rattle.mig_value.specs.Kept.{ValueKept, SlotsKept}
use Rattle.mig_value.specs.View.{typed_of, slot_of}
use Rattle.mig_value.specs.declared.slots.Slot.{Slot}
use Rattle.mig_value.proofs.keeping.slots_are_kept.Goals as goal

keeps_more : (xs : List Slot) (s : Slot) → SlotsKept (slots_of (map slot_of xs)) → ValueKept (typed_of s.value) → SlotsKept (slots_of (map slot_of (xs ++ s ∷ [])))
keeps_more [] s k h = (h, tt)
keeps_more (x ∷ xs) s k h = (k.0, keeps_more xs s k.1 h)

pub loop-slot-preserved : goal.loop-slot-preserved
loop-slot-preserved c =
    let xs = c.args.list.now in
    let i = c.loop-slot.slot-index in
    let s = c.slot-item.result in
    let more : take (i + 1) xs ≡ take i xs ++ s ∷ [] = take_more xs i s c.loop-slot-test.true ∙ ap (λ x. take i xs ++ x ∷ []) (sym c.slot-item.is) in
    subst (λ (l : List Slot). SlotsKept (slots_of (map slot_of l))) (sym more) (keeps_more (take i xs) s c.loop-slot.invariant c.keeps.ensures)
