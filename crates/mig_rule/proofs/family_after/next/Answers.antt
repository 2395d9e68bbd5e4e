use Rattle.std.proofs.Common.{◌≡◌, ◌∙◌, sym, ap, subst, map, Ok}
use Rattle.std.specs.Prelude.{IfOk, IfErr}
use Rattle.mig_leaf.specs.View.{leaf_fn_of}
use Rattle.mig_rule.specs.Fault.{IsRefused}
use Rattle.mig_rule.specs.Fix.{next}
use Rattle.mig_rule.specs.Rule as model
use Rattle.mig_rule.specs.View.{fix_of, step_of}
use Rattle.mig_rule.proofs.family_after.next.Goals as goal

pub returns-in-Rule-clause-made : goal.returns-in-Rule-clause-made
returns-in-Rule-clause-made c = subst (λ x. IfOk c.after_rule.result (λ g. next x c.args.family.now ≡ Ok g)) (sym (ap fix_of c.in-Rule.is)) c.after_rule.ensures.made

pub returns-in-Rule-clause-fault : goal.returns-in-Rule-clause-fault
returns-in-Rule-clause-fault c = subst (λ x. IfErr c.after_rule.result (λ e. IsRefused e (next x c.args.family.now))) (sym (ap fix_of c.in-Rule.is)) c.after_rule.ensures.fault

pub returns-in-Deep-clause-made : goal.returns-in-Deep-clause-made
returns-in-Deep-clause-made c = subst (λ x. IfOk c.after_deep.result (λ g. next x c.args.family.now ≡ Ok g)) (sym (ap fix_of c.in-Deep.is ∙ ap (λ l. model.deep (map step_of l) (leaf_fn_of c.in-Deep.function)) (sym c.deref.ensures.value))) c.after_deep.ensures.made

pub returns-in-Deep-clause-fault : goal.returns-in-Deep-clause-fault
returns-in-Deep-clause-fault c = subst (λ x. IfErr c.after_deep.result (λ e. IsRefused e (next x c.args.family.now))) (sym (ap fix_of c.in-Deep.is ∙ ap (λ l. model.deep (map step_of l) (leaf_fn_of c.in-Deep.function)) (sym c.deref.ensures.value))) c.after_deep.ensures.fault

pub returns-in-NewType-clause-made : goal.returns-in-NewType-clause-made
returns-in-NewType-clause-made c = subst (λ x. IfOk c.with_type.result (λ g. next x c.args.family.now ≡ Ok g)) (sym (ap fix_of c.in-NewType.is)) c.with_type.ensures.made

pub returns-in-NewType-clause-fault : goal.returns-in-NewType-clause-fault
returns-in-NewType-clause-fault c = subst (λ x. IfErr c.with_type.result (λ e. IsRefused e (next x c.args.family.now))) (sym (ap fix_of c.in-NewType.is)) c.with_type.ensures.fault

pub returns-in-DropType-clause-made : goal.returns-in-DropType-clause-made
returns-in-DropType-clause-made c = subst (λ x. IfOk c.without_type.result (λ g. next x c.args.family.now ≡ Ok g)) (sym (ap fix_of c.in-DropType.is)) c.without_type.ensures.made

pub returns-in-DropType-clause-fault : goal.returns-in-DropType-clause-fault
returns-in-DropType-clause-fault c = subst (λ x. IfErr c.without_type.result (λ e. IsRefused e (next x c.args.family.now))) (sym (ap fix_of c.in-DropType.is)) c.without_type.ensures.fault
