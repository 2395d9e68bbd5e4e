use Rattle.std.proofs.Common.{◌∙◌, ap, sym, subst}
use Rattle.mig_model.specs.Names.{has_twice}
use Rattle.mig_model.proofs.Rising.{ascend_by, by_ascends}
use Rattle.mig_template.proofs.Names.{twice_moved}
use Rattle.mig_slots.specs.Sorted.{AreSorted, alone}
use Rattle.mig_slots.proofs.SearchNames.{twice_told}
use Rattle.mig_slots.proofs.names.Names.has_twice.Goals as goal

pub returns : goal.returns
returns c =
    let ns = c.as_slice.result.now in
    twice_told c.ascends.result ns (subst AreSorted (sym c.as_slice.ensures.value) c.self.invariant.sorted)
    (λ told. by_ascends alone ns (c.ascends.ensures.0 told), λ rises. c.ascends.ensures.1 (ascend_by alone ns rises))
    ∙ ap has_twice c.as_slice.ensures.value
    ∙ sym (twice_moved c.self.inside.list.items c.self.inside.sorted.items c.self.invariant.same)
    ∙ ap has_twice c.self.view_is
