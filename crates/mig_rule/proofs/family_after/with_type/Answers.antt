use Rattle.std.proofs.Common.{◌≡◌, ◌∙◌, ◌++◌, ℕ, List, [], ◌∷◌, sym, ap, subst, refl, Ok}
use Rattle.std.specs.Prelude.{IfOk, IfErr}
use Rattle.mig_schema.specs.Types.{named_all, named_of}
use Rattle.mig_template.specs.View.{template_of}
use Rattle.mig_template.specs.declared.template.Template.{Template}
use Rattle.std.proofs.lemmas.List.{map-append}
use Rattle.mig_rule.specs.Fault.{IsRefused}
use Rattle.mig_rule.specs.Fix.{next, with_types}
use Rattle.mig_rule.specs.Rule as model
use Rattle.mig_rule.proofs.FamiliesAfter.{next_is, with_types_formed}
use Rattle.mig_rule.proofs.family_after.with_type.Goals as goal

next_family : (c : goal.After-with_types) → next (model.new_type c.args.name.now (template_of c.args.template.now)) c.args.family.now ≡ with_types_formed (named_all c.push.new.self.items) c.args.family.now
next_family c =
    let f = c.args.family.now in
    let added : List ℕ × Template = (c.in_ok-copy.field-0, c.in_ok-copy-2.field-0) in
    let types =
    ap named_all c.in_ok-push.ensures.items
    ∙ map-append named_of c.in_ok-types.types.items (added ∷ [])
    ∙ (λ i. c.in_ok-types.ensures i ++ (c.in_ok-copy.ensures i, c.in_ok-copy-2.ensures i) ∷ []) in
    next_is (model.new_type c.args.name.now (template_of c.args.template.now)) f (named_all c.push.new.self.items)
    (sym c.is_named.ensures ∙ c.if-is_named.false)
    refl
    (ap (λ ts. with_types ts f) (sym types))

pub returns-clause-made : goal.returns-clause-made
returns-clause-made c = subst (λ r. IfOk c.with_types.result (λ g. r ≡ Ok g)) (sym (next_family c)) c.with_types.ensures.made

pub returns-clause-fault : goal.returns-clause-fault
returns-clause-fault c = subst (λ r. IfErr c.with_types.result (λ e. IsRefused e r)) (sym (next_family c)) c.with_types.ensures.fault
