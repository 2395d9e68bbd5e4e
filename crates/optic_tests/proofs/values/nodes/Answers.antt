use Rattle.std.proofs.Common.{◌≡◌, [], ◌∷◌, ap, map, rules}
use Rattle.mig_value.specs.Typed.{Typed}
use Rattle.mig_value.specs.View.{typed_of}
use Rattle.optic_tests.specs.Chain.{full_node, bare_node}
use Rattle.optic_tests.proofs.Samples.{taken, on_left, on_right, other_case}
use Rattle.optic_tests.proofs.values.nodes.Goals as goal

pub returns : goal.returns
returns g c =
    let made : c.expect-list.result.items ≡ c.full-first.result ∷ c.full-second.result ∷ c.full-third.result ∷ c.bare.result ∷ [] = search rules in
    let seen : map typed_of c.expect-list.result.items ≡ typed_of c.full-first.result ∷ typed_of c.full-second.result ∷ typed_of c.full-third.result ∷ typed_of c.bare.result ∷ [] = ap (map typed_of) made in
    let are : c.new.result ≡ full_node (typed_of c.of_case-focused.result) ∷ full_node (typed_of c.of_case-sided.result) ∷ full_node (typed_of c.of_case-cased.result) ∷ bare_node ∷ [] = cc in
    taken c.new.result (typed_of c.of_case-focused.result) (typed_of c.of_case-sided.result) (typed_of c.of_case-cased.result) are
    (on_left _ _ _ c.of_case-focused.ensures c.on_left-left.ensures) (on_right _ _ _ c.of_case-sided.ensures c.on_right-right.ensures) (other_case _ _ c.of_case-cased.ensures)
