use Rattle.std.proofs.Common.{◌≡◌, ◌∙◌, sym, ap, subst, Ok}
use Rattle.std.specs.Prelude.{not, IfOk, IfErr}
use Rattle.mig_schema.specs.Types.{named_all}
use Rattle.mig_rule.specs.Fault.{IsRefused}
use Rattle.mig_rule.specs.Fix.{next, with_types}
use Rattle.mig_rule.specs.Rule as model
use Rattle.mig_rule.specs.View.{rule_of}
use Rattle.mig_rule.proofs.FamiliesAfter.{next_is, with_types_formed}
use Rattle.mig_rule.proofs.family_after.after_rule.Goals as goal

next_family : (c : goal.After-with_types) → next (model.rule (rule_of c.args.rule.now)) c.args.family.now ≡ with_types_formed (named_all c.in_ok-types.types.items) c.args.family.now
next_family c =
    let f = c.args.family.now in
    next_is (model.rule (rule_of c.args.rule.now)) f (named_all c.in_ok-types.types.items)
    (sym c.rule_lacks.ensures ∙ c.if-rule_lacks.false)
    (ap not (sym c.in_ok-types.ensures.fits) ∙ ap not c.if-not-fits.false)
    (ap (λ ts. with_types ts f) (sym c.in_ok-types.ensures.types))

pub returns-clause-made : goal.returns-clause-made
returns-clause-made c = subst (λ r. IfOk c.with_types.result (λ g. r ≡ Ok g)) (sym (next_family c)) c.with_types.ensures.made

pub returns-clause-fault : goal.returns-clause-fault
returns-clause-fault c = subst (λ r. IfErr c.with_types.result (λ e. IsRefused e r)) (sym (next_family c)) c.with_types.ensures.fault
