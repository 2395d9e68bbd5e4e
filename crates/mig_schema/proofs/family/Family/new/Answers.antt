use Rattle.std.proofs.Common.{◌≡◌, ◌∙◌, subst, ap}
use Rattle.mig_model.specs.Family.{first_flaw}
use Rattle.mig_schema.specs.Fault.{IsFound, IsFamilyFault}
use Rattle.mig_schema.specs.Types.{family_of, named_all}
use Rattle.mig_schema.proofs.First.{found_is_fault}
use Rattle.mig_schema.proofs.family.Family.new.Goals as goal

pub returns-in-Some-clause-fault : goal.returns-in-Some-clause-fault
returns-in-Some-clause-fault c =
    let e = c.in-Some.fault in
    let made = c.new-parts.result in
    let is : made ≡ family_of c.args.form c.args.version (named_all c.args.types.items) c.args.root = c.new-parts.ensures ∙ ap (λ ts. family_of c.args.form c.args.version ts c.args.root) c.in_ok-types.ensures.types in
    subst (λ f. IsFamilyFault e (first_flaw f)) is (found_is_fault e (first_flaw made) (subst (λ r. IsFound r (first_flaw made)) c.in-Some.is c.first_fault.ensures))
