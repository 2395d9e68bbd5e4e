use Rattle.std.proofs.Common.{◌≡◌, ◌∙◌, sym, ap, subst, refl, Ok, false, is_eq}
use Rattle.std.specs.Prelude.{not, ◌||◌, IfOk, IfErr}
use Rattle.mig_model.specs.Family.{is_named}
use Rattle.mig_model.specs.Names.{same_name}
use Rattle.mig_schema.specs.Types.{named_all}
use Rattle.mig_rule.specs.Fault.{IsRefused}
use Rattle.mig_rule.specs.Fix.{next, with_types}
use Rattle.mig_rule.specs.Rule as model
use Rattle.mig_rule.proofs.FamiliesAfter.{next_is, with_types_formed}
use Rattle.mig_rule.proofs.family_after.without_type.Goals as goal

next_family : (c : goal.After-with_types) → next (model.drop_type c.args.name.now) c.args.family.now ≡ with_types_formed (named_all c.in_ok-types.types.items) c.args.family.now
next_family c =
    let f = c.args.family.now in
    let n = c.args.name.now in
    let is_root : same_name n f.root ≡ false =
    (λ i. same_name (sym c.bytes.ensures i) (sym (c.bytes-2.ensures ∙ c.root.ensures) i)) ∙ sym (c.is_eq.ensures ∙ ap (λ o. is_eq o) c.cmp.ensures) ∙ c.if-is_eq.false in
    let there : not (is_named f n) ≡ false = ap not (sym c.is_named.ensures) ∙ ap not c.if-not-is_named.false in
    next_is (model.drop_type n) f (named_all c.in_ok-types.types.items)
    (ap (λ b. b || not (is_named f n)) is_root ∙ there)
    refl
    (ap (λ ts. with_types ts f) (sym c.in_ok-types.ensures))

pub returns-clause-made : goal.returns-clause-made
returns-clause-made c = subst (λ r. IfOk c.with_types.result (λ g. r ≡ Ok g)) (sym (next_family c)) c.with_types.ensures.made

pub returns-clause-fault : goal.returns-clause-fault
returns-clause-fault c = subst (λ r. IfErr c.with_types.result (λ e. IsRefused e r)) (sym (next_family c)) c.with_types.ensures.fault
