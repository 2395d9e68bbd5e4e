use Rattle.std.proofs.Common.{◌≡◌, ◌∙◌, ap, map}
use Rattle.mig_model.specs.Template.{fields_of}
use Rattle.mig_model.specs.Record.{choice_of, record_of}
use Rattle.mig_template.specs.Retyped.{record_with, cases_or_none}
use Rattle.mig_template.specs.View.{given_templates}
use Rattle.mig_rule.specs.Children.{children, field_children, choice_children, map_children}
use Rattle.mig_rule.specs.Target.{changed_or}
use Rattle.mig_rule.specs.Step.{met_all, new_templates, case_templates, decided, none_met}
use Rattle.mig_rule.proofs.Rebuilt.{ok_then, decided_is, record_rebuilt, all_met}
use Rattle.mig_rule.proofs.children.of_record.Goals as goal

pub returns : goal.returns
returns g c = λ o h.
    let p = c.args.on.now in
    let met : c.of_choice.new.met ≡ met_all o (children (record_of p)) none_met =
    c.in_ok-cased.ensures.met o h
    ∙ ap (met_all o (choice_children (choice_of p.choice))) (c.in_ok-common.ensures.met o h ∙ ap (λ fs. met_all o (field_children (fields_of fs)) none_met) c.fields.ensures)
    ∙ all_met o p in
    let common : given_templates c.in_ok-common.common ≡ new_templates o (field_children (fields_of p.fields)) = c.in_ok-common.ensures.list o h ∙ ap (λ fs. new_templates o (field_children (fields_of fs))) c.fields.ensures in
    let cased : map given_templates c.in_ok-cased.cased.items ≡ case_templates o (cases_or_none p.choice) = c.in_ok-cased.ensures.list o h in
    let new : record_of (record_with (given_templates c.in_ok-common.common) (map given_templates c.in_ok-cased.cased.items) p) ≡ map_children (λ k. changed_or k.1 (o k)) (record_of p) =
    (λ i. record_of (record_with (common i) (cased i) p)) ∙ record_rebuilt o p in
    ok_then c.decided.result (λ x e. e ∙ (λ i. decided (met i) (new i)) ∙ decided_is o (children (record_of p)) (map_children (λ k. changed_or k.1 (o k)) (record_of p))) c.decided.ensures
