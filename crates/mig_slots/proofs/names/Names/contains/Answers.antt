use Rattle.std.proofs.Common.{◌≡◌, ◌∙◌, List, ℕ, subst, sym}
use Rattle.std.proofs.lemmas.List.Sorted.{list_any-IsPermutation}
use Rattle.mig_model.specs.Names.{is_among, same_name}
use Rattle.mig_slots.specs.Sorted.{AreSorted}
use Rattle.mig_slots.proofs.SearchNames.{search_tells}
use Rattle.mig_slots.proofs.names.Names.contains.Goals as goal

pub returns : goal.returns
returns c =
    let given = c.self.inside.list.items in
    let ns = c.as_slice.result.now in
    let name = c.args.name.now in
    let is : ns ≡ c.self.inside.sorted.items = c.as_slice.ensures.value in
    c.is_ok.ensures.value
    ∙ search_tells ns name c.place_by_key.result (subst AreSorted (sym is) c.self.invariant.sorted) c.place_by_key.ensures.bound c.place_by_key.ensures.place
    ∙ (λ i. is_among (is i) name)
    ∙ sym (list_any-IsPermutation (same_name name) given c.self.inside.sorted.items c.self.invariant.same)
    ∙ (λ i. is_among (c.self.view_is i) name)
