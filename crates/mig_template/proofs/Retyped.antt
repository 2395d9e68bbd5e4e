-- Fields with other templates have the same names, and one more of them is one more field.
use Rattle.std.proofs.Common.{◌≡◌, ℕ, suc, ◌<◌, List, [], ◌∷◌, ◌++◌, length, map, get_or, ◌||◌, Option, Some, None, Vec, refl, sym, ap, subst, ◌∙◌, arith}
use Rattle.std.proofs.lemmas.List.{map-append, length-map}
use Rattle.std.specs.Prelude.{option_map, ◌==◌}
use Rattle.std.specs.List.{AllByRecursion, list_any}
use Rattle.std.specs.List.Sorted.{IsStrictlySortedBy}
use Rattle.std.specs.Map.{keys_of}
use Rattle.mig_model.specs.Names.{Ascends, by_bytes, has_twice}
use Rattle.mig_model.specs.Template.{Template, Field, fields_of, cases_of}
use Rattle.mig_model.specs.TemplateKept.{TemplateKept, FieldsKept, CasesKept}
use Rattle.mig_template.specs.Retyped.{retyped, with_templates, cases_with, choice_with, cases_or_none, HavePlaces}
use Rattle.mig_model.specs.Record.{Case, Cases, IsRecord, has_twice_in}
use Rattle.mig_template.specs.View.{template_of, field_of, case_of, given_templates}
use Rattle.mig_template.specs.declared.template.Template as template_code
use Rattle.mig_template.specs.declared.fields.Field as code
use Rattle.mig_template.specs.declared.record.Case as record_code

pub with_more : (os : List (Option Template)) (o : Option Template) (fs : List code.Field) (f : code.Field) → length os < length fs → f ≡ get_or fs (length os) f
    → with_templates (os ++ o ∷ []) (map field_of fs) ≡ with_templates os (map field_of fs) ++ retyped o (field_of f) ∷ []
with_more os o [] f l e = absurd (omega arith)
with_more [] o (g ∷ fs) f l e = ap (λ h. retyped o (field_of h) ∷ []) (sym e)
with_more (p ∷ os) o (g ∷ fs) f l e = ap (λ hs. retyped p (field_of g) ∷ hs) (with_more os o fs f (omega arith) e)

pub keys_stay : (os : List (Option Template)) (fs : List Field) → length os ≡ length fs → keys_of (with_templates os fs) ≡ keys_of fs
keys_stay [] [] l = refl
keys_stay (o ∷ os) (f ∷ fs) l = ap (λ (ks : List (List ℕ)). f.0 ∷ ks) (keys_stay os fs (omega arith))
keys_stay _ _ l = absurd (omega arith)

pub ascend_still : (os : List (Option Template)) (fs : List Field) → length os ≡ length fs → Ascends fs → Ascends (with_templates os fs)
ascend_still os fs l s = subst (λ ks. IsStrictlySortedBy by_bytes ks) (sym (keys_stay os fs l)) s

pub kept_more : (fs : List code.Field) (f : code.Field) → FieldsKept (fields_of (map field_of fs)) → TemplateKept (template_of f.template) → FieldsKept (fields_of (map field_of (fs ++ f ∷ [])))
kept_more [] f k h = (h, tt)
kept_more (g ∷ fs) f k h = (k.0, kept_more fs f k.1 h)

-- ---- cases
place_here : (oss rest : List (List (Option Template))) (os : List (Option Template)) (cs : List record_code.Case) → HavePlaces (oss ++ os ∷ rest) (map case_of cs) → length oss < length cs
place_here [] rest os [] h = absurd h
place_here [] rest os (c ∷ cs) h = omega arith
place_here (p ∷ oss) rest os [] h = absurd h
place_here (p ∷ oss) rest os (c ∷ cs) h = omega (arith, place_here oss rest os cs h.1)

as_many_here : (oss rest : List (List (Option Template))) (os : List (Option Template)) (cs : List record_code.Case) (c : record_code.Case) → HavePlaces (oss ++ os ∷ rest) (map case_of cs) → c ≡ get_or cs (length oss) c → length os ≡ length c.fields
as_many_here [] rest os [] c h e = absurd h
as_many_here [] rest os (d ∷ cs) c h e = h.0 ∙ ap (λ (z : record_code.Case). length z.fields) (sym e)
as_many_here (p ∷ oss) rest os [] c h e = absurd h
as_many_here (p ∷ oss) rest os (d ∷ cs) c h e = as_many_here oss rest os cs c h.1 e

cases_more : (oss : List (List (Option Template))) (os : List (Option Template)) (cs : List record_code.Case) (c : record_code.Case) → length oss < length cs → c ≡ get_or cs (length oss) c
    → cases_with (oss ++ os ∷ []) (map case_of cs) ≡ cases_with oss (map case_of cs) ++ (c.literal, with_templates os c.fields) ∷ []
cases_more oss os [] c l e = absurd (omega arith)
cases_more [] os (d ∷ cs) c l e = ap (λ (z : record_code.Case). (z.literal, with_templates os z.fields) ∷ []) (sym e)
cases_more (p ∷ oss) os (d ∷ cs) c l e = ap (λ ds. (d.literal, with_templates p d.fields) ∷ ds) (cases_more oss os cs c (omega arith) e)

-- the templates in hand are for the case whose place is the count of those before
module _ {A : Type 0} (all ys : List (Vec (Option template_code.Template) A)) (x : Vec (Option template_code.Template) A) (here : (rest : List (Vec (Option template_code.Template) A)) × (all ≡ ys ++ x ∷ rest))
    (cs : List record_code.Case) (ds : List Case) (same : map case_of cs ≡ ds) (have : HavePlaces (map given_templates all) ds) where
  placed : HavePlaces (map given_templates ys ++ given_templates x ∷ map given_templates here.0) (map case_of cs)
  placed = subst (λ l. HavePlaces l (map case_of cs)) (ap (map given_templates) here.1 ∙ map-append given_templates ys (x ∷ here.0)) (subst (HavePlaces (map given_templates all)) (sym same) have)

  pub case_there : length ys < length cs
  case_there = omega (arith, length-map ys given_templates, place_here (map given_templates ys) (map given_templates here.0) (given_templates x) cs placed)

  module _ (c : record_code.Case) (is : c ≡ get_or cs (length ys) c) where
    at : c ≡ get_or cs (length (map given_templates ys)) c
    at = is ∙ ap (λ n. get_or cs n c) (sym (length-map ys given_templates))

    pub as_many_given : length (given_templates x) ≡ length c.fields
    as_many_given = as_many_here (map given_templates ys) (map given_templates here.0) (given_templates x) cs c placed at

    pub case_more : cases_with (map given_templates (ys ++ x ∷ [])) (map case_of cs) ≡ cases_with (map given_templates ys) (map case_of cs) ++ (c.literal, with_templates (given_templates x) c.fields) ∷ []
    case_more =
        ap (λ l. cases_with l (map case_of cs)) (map-append given_templates ys (x ∷ []))
        ∙ cases_more (map given_templates ys) (given_templates x) cs c (place_here (map given_templates ys) (map given_templates here.0) (given_templates x) cs placed) at

pub cases_kept_more : (cs : List record_code.Case) (c : record_code.Case) → CasesKept (cases_of (map case_of cs)) → FieldsKept (fields_of c.fields) → CasesKept (cases_of (map case_of (cs ++ c ∷ [])))
cases_kept_more [] c k h = (h, tt)
cases_kept_more (d ∷ cs) c k h = (k.0, cases_kept_more cs c k.1 h)

-- ---- the names of a record stay
literals_stay : (oss : List (List (Option Template))) (cs : List Case) → HavePlaces oss cs → keys_of (cases_with oss cs) ≡ keys_of cs
literals_stay [] [] h = refl
literals_stay (os ∷ oss) (c ∷ cs) h = ap (λ (ks : List (List ℕ)). c.0 ∷ ks) (literals_stay oss cs h.1)
literals_stay _ _ h = absurd h

twice_still : (others : List (List ℕ)) (oss : List (List (Option Template))) (cs : List Case) → HavePlaces oss cs → list_any (has_twice_in others) (cases_with oss cs) ≡ list_any (has_twice_in others) cs
twice_still others [] [] h = refl
twice_still others (os ∷ oss) (c ∷ cs) h = λ i. has_twice (keys_stay os c.1 h.0 i ++ others) || twice_still others oss cs h.1 i
twice_still others _ _ h = absurd h

cases_ascend_still : (oss : List (List (Option Template))) (cs : List Case) → HavePlaces oss cs → AllByRecursion (λ (d : Case). Ascends d.1) cs → AllByRecursion (λ (d : Case). Ascends d.1) (cases_with oss cs)
cases_ascend_still [] [] h a = tt
cases_ascend_still (os ∷ oss) (c ∷ cs) h a = (ascend_still os c.1 h.0 a.0, cases_ascend_still oss cs h.1 a.1)
cases_ascend_still _ _ h a = absurd h

as_many_cases : (oss : List (List (Option Template))) (cs : List Case) → HavePlaces oss cs → length (cases_with oss cs) ≡ length cs
as_many_cases [] [] h = refl
as_many_cases (os ∷ oss) (c ∷ cs) h = ap suc (as_many_cases oss cs h.1)
as_many_cases _ _ h = absurd h

pub still_record : (os : List (Option Template)) (oss : List (List (Option Template))) (fs : List Field) (c : Option Cases) → length os ≡ length fs → HavePlaces oss (cases_or_none c) → IsRecord fs c → IsRecord (with_templates os fs) (option_map (choice_with oss) c)
still_record os oss fs None l h r = record {
  fields = ascend_still os fs l r.fields;
  cases = tt;
  distinct = ap has_twice (keys_stay os fs l) ∙ r.distinct;
  some = r.some;
}
still_record os oss fs (Some c) l h r = record {
  fields = ascend_still os fs l r.fields;
  cases = (subst (λ ks. IsStrictlySortedBy by_bytes ks) (sym (literals_stay oss c.1 h)) r.cases.0, cases_ascend_still oss c.1 h r.cases.1);
  distinct =
      (λ i. has_twice (c.0 ∷ keys_stay os fs l i) || (twice_still (c.0 ∷ keys_stay os fs l i) oss c.1 h i || has_twice (literals_stay oss c.1 h i)))
      ∙ r.distinct;
  some = ap (λ n. n == 0) (as_many_cases oss c.1 h) ∙ r.some;
}
