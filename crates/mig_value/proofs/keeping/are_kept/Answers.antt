use Rattle.std.proofs.Common.{◌≡◌, ◌+◌, ◌∷◌, ◌++◌, [], List, map, take, subst, sym, ap, ◌∙◌}
use Rattle.std.proofs.lemmas.List.{take_more}
use Rattle.mig_value.specs.Typed.{items_of}
use Rattle.mig_value.specs.Kept.{ValueKept, ItemsKept}
use Rattle.mig_value.specs.View.{typed_of}
use Rattle.mig_value.specs.declared.value.Value.{Value}
use Rattle.mig_value.proofs.keeping.are_kept.Goals as goal

keeps_more : (xs : List Value) (v : Value) → ItemsKept (items_of (map typed_of xs)) → ValueKept (typed_of v) → ItemsKept (items_of (map typed_of (xs ++ v ∷ [])))
keeps_more [] v k h = (h, tt)
keeps_more (x ∷ xs) v k h = (k.0, keeps_more xs v k.1 h)

pub loop-value-preserved : goal.loop-value-preserved
loop-value-preserved c =
    let xs = c.args.list.now in
    let i = c.loop-value.value-index in
    let v = c.value-item.result in
    let more : take (i + 1) xs ≡ take i xs ++ v ∷ [] = take_more xs i v c.loop-value-test.true ∙ ap (λ x. take i xs ++ x ∷ []) (sym c.value-item.is) in
    subst (λ (l : List Value). ItemsKept (items_of (map typed_of l))) (sym more) (keeps_more (take i xs) v c.loop-value.invariant c.keeps.ensures)
