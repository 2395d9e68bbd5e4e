use Rattle.std.proofs.Common.{rules, ◌∷◌, List, map, subst, sym}
use Rattle.std.specs.Prelude.{IsPermutation, IsTrue}
use Rattle.std.specs.Map.{keys_of}
use Rattle.std.proofs.lemmas.List.Sorted.{IsPermutation-map}
use Rattle.mig_model.specs.Record as parts
use Rattle.mig_model.specs.Names.{Ascends, AscendBy}
use Rattle.mig_model.proofs.Rising.{ascend_by, by_ascends}
use Rattle.mig_model.specs.Record.{has_twice_in, is_twice_in}
use Rattle.mig_template.specs.View.{case_of, given_case}
use Rattle.mig_template.specs.declared.record.Case.{Case}
use Rattle.mig_template.proofs.CaseLists.{keys_twice, keys_once}
use Rattle.mig_template.proofs.Sorted.{twice_if_not, once_if_ascends}
use Rattle.mig_template.proofs.cases.order_cases.Goals as goal

pub returns-then-not-ascends-clause-twice : goal.returns-then-not-ascends-clause-twice
returns-then-not-ascends-clause-twice c =
    let others = c.args.tag.now ∷ keys_of c.args.common.now in
    let given : List parts.Case = map given_case c.args.given.items in
    let ds : List parts.Case = map case_of c.in_ok-cases.cases.items in
    let after = c.sort_by_key.new.list.items in
    let moved : IsPermutation ds (map case_of after) = IsPermutation-map case_of c.in_ok-cases.cases.items after c.sort_by_key.ensures.permutation in
    keys_twice others given ds (map case_of after) c.in_ok-cases.ensures.ordered moved
    (twice_if_not case_of after c.sort_by_key.ensures.sorted
    (λ rises. let told : IsTrue c.ascends.result = c.ascends.ensures.1 (subst (λ (l : List Case). AscendBy (λ x. x.literal) l) (sym c.deref.ensures.value) (ascend_by case_of after rises)) in absurd cc))

pub returns-clause-ordered : goal.returns-clause-ordered
returns-clause-ordered c =
    let ds : List parts.Case = map case_of c.in_ok-cases.cases.items in
    let after = c.sort_by_key.new.list.items in
    let rises : Ascends (map case_of after) = by_ascends case_of after (subst (λ (l : List Case). AscendBy (λ x. x.literal) l) c.deref.ensures.value (c.ascends.ensures.0 (search rules))) in
    (ds, (c.in_ok-cases.ensures.ordered, record { same = IsPermutation-map case_of c.in_ok-cases.cases.items after c.sort_by_key.ensures.permutation; ascend = rises }))

pub returns-clause-once : goal.returns-clause-once
returns-clause-once c =
    let others = c.args.tag.now ∷ keys_of c.args.common.now in
    let given : List parts.Case = map given_case c.args.given.items in
    let ds : List parts.Case = map case_of c.in_ok-cases.cases.items in
    let after = c.sort_by_key.new.list.items in
    let rises : Ascends (map case_of after) = by_ascends case_of after (subst (λ (l : List Case). AscendBy (λ x. x.literal) l) c.deref.ensures.value (c.ascends.ensures.0 (search rules))) in
    let moved : IsPermutation ds (map case_of after) = IsPermutation-map case_of c.in_ok-cases.cases.items after c.sort_by_key.ensures.permutation in
    keys_once others given ds (map case_of after) c.in_ok-cases.ensures.ordered moved c.in_ok-cases.ensures.once (once_if_ascends (map case_of after) rises)
