use Rattle.std.proofs.Common.{Option, subst}
use Rattle.mig_value.specs.Kept.{RecordValueKept}
use Rattle.mig_value.specs.Parts.{Besides, beside, with_besides}
use Rattle.mig_value.proofs.Places.{fields_kept, besides_kept}
use Rattle.mig_value.proofs.record.RecValue.swap.Goals as goal

pub invariant_of-self : goal.invariant_of-self
invariant_of-self c = fields_kept _ _ _ _ _ _ _ c.swap.ensures.rest c.swap.ensures.keep c.self.invariant

pub invariant_of-self-in-Cased : goal.invariant_of-self-in-Cased
invariant_of-self-in-Cased c =
    let fs = c.self.inside.fields in
    let kept = subst (λ (o : Option Besides). RecordValueKept (with_besides fs (beside o))) c.in-Some.is c.self.invariant in
    besides_kept _ _ fs c.in-Some.extras c.swap_cased.new.self c.swap_cased.ensures.rest c.swap_cased.ensures.keep kept
