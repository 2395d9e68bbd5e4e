-- Steps of a path, by the parts of a record.
use Rattle.std.proofs.Common.{◌≡◌, ℕ, List, [], ◌∷◌, ◌++◌, Bool, true, false, refl, sym, ap, ◌∙◌}
use Rattle.std.proofs.lemmas.List.{append-nil}
use Rattle.std.specs.Prelude.{Option, Some, None, option_map, if◌then◌else◌}
use Rattle.std.specs.Option.{option_or}
use Rattle.std.specs.Map.{lookup}
use Rattle.mig_model.specs.Template as template
use Rattle.mig_model.specs.declared.presence.Presence.{Presence}
use Rattle.mig_model.specs.Names.{by_bytes, same_name, under}
use Rattle.mig_model.specs.Template.{Field, fields_of, field_list, cases_of, case_list}
use Rattle.std.specs.BTreeMap.{is_at}
use Rattle.mig_model.specs.Record.{RecordParts, Cases, record_of, choice_of, found_case}
use Rattle.mig_template.proofs.Views.{field_list_of, case_list_of}
use Rattle.mig_rule.specs.Path.{Spot, whole, step_to, with_case_alone, end_kind}
use Rattle.mig_model.specs.Family.{Family}
use Rattle.mig_rule.specs.Rule as rule
use Rattle.mig_rule.specs.Rule.{named}
use Rattle.mig_rule.specs.Spot.{alone}
use Rattle.mig_model.proofs.SameNames.{same_name_is}

abbrev pub at_field : Presence × template.Template → Spot
at_field f = whole f.1

-- the case of a literal alone, among the cases of the record
pub case_alone : (l : List ℕ) (p : RecordParts) (c : Cases) → p.choice ≡ Some c → with_case_alone l (record_of p) ≡ option_map (alone p c.0 l) (found_case l p.choice)
case_alone l p c e =
    ap (λ d. with_case_alone l (template.rec (fields_of p.fields) (choice_of d) p.rest)) e
    ∙ ap (λ cs. option_map (alone p c.0 l) (found_case l (Some (c.0, cs, c.2)))) (case_list_of c.1)
    ∙ ap (λ d. option_map (alone p c.0 l) (found_case l d)) (sym e)

pub named_in_record : (x : List ℕ) (p : RecordParts) → step_to (named x) false (record_of p) ≡ option_map at_field (under x p.fields)
named_in_record x p = ap (λ fs. option_map (λ f. whole f.1) (under x fs)) (field_list_of p.fields)

lookup_either : {A : Type 0} (test : List ℕ → Bool) (es fs : List (List ℕ × A)) → lookup test (es ++ fs) ≡ option_or (lookup test es) (lookup test fs)
lookup_either test [] fs = refl
lookup_either {A} test (e ∷ es) fs = by (test e.0) (lookup_either test es fs)
  where
    by : (b : Bool) → lookup test (es ++ fs) ≡ option_or (lookup test es) (lookup test fs) → (if b then Some e.1 else lookup test (es ++ fs)) ≡ option_or (if b then Some e.1 else lookup test es) (lookup test fs)
    by true h = refl
    by false h = h

map_either : {A B : Type 0} (f : A → B) (a b : Option A) → option_map f (option_or a b) ≡ option_or (option_map f a) (option_map f b)
map_either f None b = refl
map_either f (Some a) b = refl

-- a name means a common field, or else one of the case alone
pub named_alone : (x : List ℕ) (p : RecordParts) (tag l : List ℕ) (fs : List Field) → step_to (named x) true (alone p tag l fs).template ≡ option_or (option_map at_field (under x p.fields)) (option_map at_field (under x fs))
named_alone x p tag l fs =
    (λ i. option_map at_field (under x (field_list_of p.fields i ++ append-nil (field_list_of fs i) i)))
    ∙ ap (option_map at_field) (lookup_either (is_at (by_bytes x)) p.fields fs)
    ∙ map_either at_field (under x p.fields) (under x fs)

-- the case alone is chosen again
pub again_alone : (k : List ℕ) (p : RecordParts) (tag l : List ℕ) (fs : List Field) → same_name k l ≡ true → with_case_alone k (alone p tag l fs).template ≡ Some (alone p tag l fs)
again_alone k p tag l fs e =
    ap (λ b. option_map (alone p tag k) (if b then Some (field_list (fields_of fs)) else None)) e
    ∙ (λ i. Some (alone p tag (same_name_is k l e i) (field_list_of fs i)))

-- nothing is at the end of a path from a body that says nothing
pub end_at_any : (f : Family) (steps : List rule.PathStep) → end_kind f steps (whole template.any) ≡ None
end_at_any f [] = refl
end_at_any f (rule.named x ∷ steps) = refl
end_at_any f (rule.each ∷ steps) = refl
end_at_any f (rule.left ∷ steps) = refl
end_at_any f (rule.right ∷ steps) = refl
end_at_any f (rule.in_case l ∷ steps) = refl
