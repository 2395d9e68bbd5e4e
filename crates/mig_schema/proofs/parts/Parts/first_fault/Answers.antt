use Rattle.std.proofs.Common.{◌≡◌, None, subst, sym}
use Rattle.mig_model.specs.Family.{first_of}
use Rattle.mig_schema.specs.Fault.{IsFound, first_flaws}
use Rattle.mig_schema.proofs.First.{found_first, later_is}
use Rattle.mig_schema.proofs.parts.Parts.first_fault.Goals as goal

pub returns-in-Some : goal.returns-in-Some
returns-in-Some c =
    let f = c.args.self.now in
    found_first f c.in-Some.fault c.keeps.ensures.once (subst (λ r. IsFound r (first_of first_flaws f)) c.in-Some.is c.first_body_fault.ensures)

pub returns-in-None : goal.returns-in-None
returns-in-None c =
    let f = c.args.self.now in
    let none : first_of first_flaws f ≡ None = subst (λ r. IsFound r (first_of first_flaws f)) c.in-None.is c.first_body_fault.ensures in
    subst (IsFound c.first_later_fault.result) (sym (later_is f c.keeps.ensures.once none)) c.first_later_fault.ensures
