use Rattle.std.proofs.Common.{◌≡◌, ◌∙◌, Some, None, sym, ap, subst}
use Rattle.std.specs.Prelude.{option_map, option_and_then}
use Rattle.mig_func.specs.New.{IsMisfit}
use Rattle.mig_func.specs.View.{field_fn_of}
use Rattle.mig_model.specs.Record.{RecordParts, record_of}
use Rattle.mig_template.specs.View.{template_of}
use Rattle.mig_template.proofs.Views.{field_list_of, cases_in_of}
use Rattle.mig_field.specs.FieldFn.{FieldFn}
use Rattle.mig_field.specs.NewRecord.{new_record}
use Rattle.mig_rule.specs.Target.{parts_of, new_template}
use Rattle.mig_rule.proofs.rewriting.by_function.Goals as goal

parts_again : (p : RecordParts) → parts_of (record_of p) ≡ Some p
parts_again p = λ i. Some (record { fields = field_list_of p.fields i; choice = cases_in_of p.choice i; rest = p.rest })

on_record : (f : FieldFn) (p : RecordParts) → new_template f (record_of p) ≡ option_map record_of (new_record f p)
on_record f p = ap (option_and_then (λ q. option_map record_of (new_record f q))) (parts_again p)

pub returns-in-Ok : goal.returns-in-Ok
returns-in-Ok c =
    let f = field_fn_of c.args.function.now in
    let p = c.in-Rec.record in
    let made : new_record f p ≡ Some c.in-Ok.record = c.in-Ok.ensures.made in
    ap (option_map record_of) (sym made) ∙ sym (on_record f p) ∙ ap (λ t. new_template f (template_of t)) (sym c.in-Rec.is)

pub returns-in-Err-Misfit : goal.returns-in-Err-Misfit
returns-in-Err-Misfit c =
    let f = field_fn_of c.args.function.now in
    let p = c.in-Rec.record in
    let none : new_record f p ≡ None = subst (λ e. IsMisfit e (new_record f p ≡ None)) c.in-Err-Misfit.field-0-is c.in-Err-Misfit.ensures.misfit in
    ap (option_map record_of) (sym none) ∙ sym (on_record f p) ∙ ap (λ t. new_template f (template_of t)) (sym c.in-Rec.is)
