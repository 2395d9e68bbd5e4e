use Rattle.std.proofs.Common.{◌≡◌, ◌∙◌, sym, subst}
use Rattle.mig_model.specs.Family.{Family, first_flaw}
use Rattle.mig_schema.specs.Types.{named_all, family_of}
use Rattle.mig_schema.specs.Fault.{IsFamilyFault}
use Rattle.mig_rule.specs.Fix.{if_formed, with_types}
use Rattle.mig_rule.specs.Fault.{IsRefused}
use Rattle.mig_rule.proofs.FamiliesAfter.{formed_is, refused_by_flaw}
use Rattle.mig_rule.proofs.family_after.with_types.Goals as goal

pub returns-in-Ok-clause-made : goal.returns-in-Ok-clause-made
returns-in-Ok-clause-made c =
    let types = named_all c.args.types.items in
    let f = with_types types c.args.family.now in
    let same : c.in-Ok.family ≡ f = c.in-Ok.ensures.made ∙ (λ i. family_of (c.form.ensures i) ((c.in_ok-version.ensures ∙ c.version_path.ensures) i) types ((c.in_ok-root.ensures ∙ c.root.ensures) i)) in
    formed_is f c.in-Ok.family same c.in-Ok.ensures.formed

pub returns-in-Err-clause-fault : goal.returns-in-Err-clause-fault
returns-in-Err-clause-fault c =
    let types = named_all c.args.types.items in
    let f = with_types types c.args.family.now in
    let same : family_of c.form.result c.in_ok-version.version types c.in_ok-root.root ≡ f = (λ i. family_of (c.form.ensures i) ((c.in_ok-version.ensures ∙ c.version_path.ensures) i) types ((c.in_ok-root.ensures ∙ c.root.ensures) i)) in
    let first = subst (λ (h : Family). IsFamilyFault c.in-Err.fault (first_flaw h)) same c.in-Err.ensures.fault in
    subst (λ e. IsRefused e (if_formed f (first_flaw f))) (sym c.refused.ensures) (refused_by_flaw f c.in-Err.fault (first_flaw f) first)
