-- A record with the new templates of its children is the record with other children.
use Rattle.std.proofs.Common.{◌≡◌, ◌∙◌, ◌||◌, Bool, true, false, List, [], ◌∷◌, Option, Some, None, refl, sym, ap}
use Rattle.std.proofs.Math.Bool.{or_assoc}
use Rattle.std.specs.Prelude.{Result, Ok, Err, IfOk, option_map, if◌then◌else◌}
use Rattle.std.specs.List.{list_any}
use Rattle.mig_model.specs.Template.{Template, Field, field, fields_of, choice, case, cases_of, rec}
use Rattle.mig_model.specs.Record as parts
use Rattle.mig_model.specs.Record.{RecordParts, Case, choice_of, record_of}
use Rattle.mig_template.specs.Retyped.{with_templates, cases_with, choice_with, cases_or_none, record_with}
use Rattle.mig_rule.specs.Children.{Child, children, field_children, choice_children, map_fields, map_cases, map_choice, map_children}
use Rattle.mig_rule.specs.Target.{Outcome, unfit, becomes, stays, changed_or, is_unfit, is_changed}
use Rattle.mig_rule.specs.Step.{met_one, met_all, new_templates, case_templates, decided, none_met}
use Rattle.mig_rule.specs.declared.outcome.Met.{Met}
use Rattle.mig_rule.proofs.ChildLists.{met_append}

pub ok_then : {A E : Type 0} {P Q : A → Type 0} (r : Result A E) → ((x : A) → P x → Q x) → IfOk r P → IfOk r Q
ok_then (Ok x) f h = f x h
ok_then (Err e) f h = tt

met_unfit : (o : Child → Outcome) (cs : List Child) (m : Met) → (met_all o cs m).unfit ≡ (m.unfit || list_any (λ c. is_unfit (o c)) cs)
met_unfit o [] m = or_none m.unfit
  where
    or_none : (b : Bool) → b ≡ (b || false)
    or_none true = refl
    or_none false = refl
met_unfit o (c ∷ cs) m = met_unfit o cs (met_one (o c) m) ∙ or_assoc m.unfit (is_unfit (o c)) (list_any (λ d. is_unfit (o d)) cs)

met_changed : (o : Child → Outcome) (cs : List Child) (m : Met) → (met_all o cs m).changed ≡ (m.changed || list_any (λ c. is_changed (o c)) cs)
met_changed o [] m = or_none m.changed
  where
    or_none : (b : Bool) → b ≡ (b || false)
    or_none true = refl
    or_none false = refl
met_changed o (c ∷ cs) m = met_changed o cs (met_one (o c) m) ∙ or_assoc m.changed (is_changed (o c)) (list_any (λ d. is_changed (o d)) cs)

pub decided_is : (o : Child → Outcome) (cs : List Child) (W : Template) → decided (met_all o cs none_met) W ≡ (if list_any (λ c. is_unfit (o c)) cs then unfit else (if list_any (λ c. is_changed (o c)) cs then becomes W else stays))
decided_is o cs W = λ i. if met_unfit o cs none_met i then unfit else (if met_changed o cs none_met i then becomes W else stays)

abbrev other : (Child → Outcome) → Child → Template
other o c = changed_or c.1 (o c)

fields_rebuilt : (o : Child → Outcome) (fs : List Field) → fields_of (with_templates (new_templates o (field_children (fields_of fs))) fs) ≡ map_fields (other o) (fields_of fs)
fields_rebuilt o [] = refl
fields_rebuilt o (f ∷ fs) = ap (λ gs. field f.0 f.1.0 (other o (Some f.0, f.1.1)) gs) (fields_rebuilt o fs)

cases_rebuilt : (o : Child → Outcome) (cs : List Case) → cases_of (cases_with (case_templates o cs) cs) ≡ map_cases (other o) (cases_of cs)
cases_rebuilt o [] = refl
cases_rebuilt o (c ∷ cs) = λ i. case c.0 (fields_rebuilt o c.1 i) (cases_rebuilt o cs i)

choice_rebuilt : (o : Child → Outcome) (c : Option parts.Cases) → choice_of (option_map (choice_with (case_templates o (cases_or_none c))) c) ≡ map_choice (other o) (choice_of c)
choice_rebuilt o None = refl
choice_rebuilt o (Some c) = ap (λ cs. choice c.0 cs c.2) (cases_rebuilt o c.1)

pub record_rebuilt : (o : Child → Outcome) (p : RecordParts)
    → record_of (record_with (new_templates o (field_children (fields_of p.fields))) (case_templates o (cases_or_none p.choice)) p) ≡ map_children (other o) (record_of p)
record_rebuilt o p = λ i. rec (fields_rebuilt o p.fields i) (choice_rebuilt o p.choice i) p.rest

-- the children of a record that were met, in their order
pub all_met : (o : Child → Outcome) (p : RecordParts) → met_all o (choice_children (choice_of p.choice)) (met_all o (field_children (fields_of p.fields)) none_met) ≡ met_all o (children (record_of p)) none_met
all_met o p = sym (met_append o (field_children (fields_of p.fields)) (choice_children (choice_of p.choice)) none_met)
