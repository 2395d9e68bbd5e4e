use Rattle.std.proofs.Common.{◌≡◌, sym, ◌∙◌, Some, rules}
use Rattle.std.specs.Prelude.{FitsSigned}
use Rattle.std.specs.Int.{w64}
use Rattle.std.proofs.lemmas.Int.{to_z-of_z}
use Rattle.mig_model.specs.Const.{const_kind}
use Rattle.mig_model.specs.Leaf.{clamped, spelled}
use Rattle.mig_leaf.specs.View.{const_of}
use Rattle.mig_leaf.proofs.Numbers.{read_number}
use Rattle.mig_leaf.proofs.leaf_fn.read_or.Goals as goal

pub returns-in-Some : goal.returns-in-Some
returns-in-Some c =
    let z = c.in-Some.number in
    let constant = const_of c.args.constant.now in
    let fits : FitsSigned w64 z = search rules in
    let is : spelled (const_kind constant) c.args.text ≡ Some z = (λ i. spelled (sym c.kind-kind.ensures i) (sym c.bytes.ensures i)) ∙ sym c.in-Some.ensures.value in
    c.clamped.ensures ∙ (λ i. clamped (c.kind-kind.ensures i) (to_z-of_z w64 z fits i)) ∙ read_number constant c.args.text z is
