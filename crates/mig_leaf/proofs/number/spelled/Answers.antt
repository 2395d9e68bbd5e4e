use Rattle.std.proofs.Common.{◌∙◌, rules}
use Rattle.std.specs.Prelude.{FitsSigned}
use Rattle.std.specs.Int.{w64}
use Rattle.std.proofs.lemmas.Int.{to_z-of_z}
use Rattle.mig_leaf.proofs.Numbers.{spelled_text}
use Rattle.mig_leaf.proofs.number.spelled.Goals as goal

pub returns-clause-value : goal.returns-clause-value
returns-clause-value c =
    let z = c.in_ok-number.number in
    let fits : FitsSigned w64 z = search rules in
    let test = c.is_in.ensures in
    c.then_some.ensures ∙ (rw test (simp (to_z-of_z w64 z fits) (spelled_text c.args.kind c.args.text.now z fits c.in_ok-number.ensures.found)))
