use Rattle.std.proofs.Common.{◌≡◌, ◌+◌, ◌++◌, ◌∷◌, [], map, take, sym, subst}
use Rattle.mig_template.specs.View.{case_of}
use Rattle.mig_template.proofs.Alike.{one_more}
use Rattle.mig_template.proofs.KeepMore.{Kept, keeps_more}
use Rattle.mig_template.proofs.cases.cases_are_kept.Goals as goal

pub loop-case-preserved : goal.loop-case-preserved
loop-case-preserved c =
    let xs = c.args.list.now in
    let i = c.loop-case.case-index in
    let item = c.case-item.result in
    let more : map case_of (take (i + 1) xs) ≡ map case_of (take i xs) ++ case_of item ∷ [] = one_more case_of xs i item c.loop-case-test.true c.case-item.is in
    subst (λ l. Kept l) (sym more) (keeps_more (map case_of (take i xs)) (case_of item) c.loop-case.invariant c.keeps.ensures)
