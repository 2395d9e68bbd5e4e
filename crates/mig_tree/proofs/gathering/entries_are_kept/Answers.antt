use Rattle.std.proofs.Common.{◌≡◌, ◌+◌, ◌∷◌, ◌++◌, [], List, map, take, subst, sym, ap, ◌∙◌}
use Rattle.std.proofs.lemmas.List.{take_more}
use Rattle.mig_model.specs.Plain.{pairs_of}
use Rattle.mig_model.specs.Keeps.{AllPairsKeep}
use Rattle.mig_tree.specs.View.{entry_of}
use Rattle.mig_tree.specs.declared.entries.Entry.{Entry}
use Rattle.mig_tree.proofs.Sorted.{keeps_more}
use Rattle.mig_tree.proofs.gathering.entries_are_kept.Goals as goal

pub loop-entry-preserved : goal.loop-entry-preserved
loop-entry-preserved c =
    let xs = c.args.list.now in
    let i = c.loop-entry.entry-index in
    let e = c.entry-item.result in
    let more : take (i + 1) xs ≡ take i xs ++ e ∷ [] = take_more xs i e c.loop-entry-test.true ∙ ap (λ x. take i xs ++ x ∷ []) (sym c.entry-item.is) in
    subst (λ (l : List Entry). AllPairsKeep (pairs_of (map entry_of l))) (sym more) (keeps_more (take i xs) e c.loop-entry.invariant c.keeps.ensures c.keeps-in-loop-entry.ensures)
