-- What holds of each name of a template's syntax holds of each name of the template, and so for fields and cases in order.
use Rattle.std.proofs.Common.{◌≡◌, ◌∙◌, ◌<◌, ℕ, zero, suc, List, [], ◌∷◌, ◌++◌, Option, Some, None, length, refl, sym, ap, subst, arith}
use Rattle.std.specs.Prelude.{IsPermutation, unwrap_or, map}
use Rattle.std.specs.List.{All, AllByRecursion}
use Rattle.std.proofs.lemmas.List.Sorted.{All-permutation}
use Rattle.mig_model.specs.Names.{gathered}
use Rattle.mig_model.specs.Template.{Template, Field, fields_of, cases_of}
use Rattle.mig_model.specs.Record.{Case, Cases, choice_of}
use Rattle.mig_model.proofs.Ascending.{gathered_sound}
use Rattle.mig_syntax.specs.TemplateSyntax as syntax
use Rattle.mig_syntax.specs.TemplateSyntax.{TemplateSyntax, FieldsSyntax, ChoiceSyntax, CasesSyntax}
use Rattle.mig_parse.specs.Texts.{template_texts, fields_texts, choice_texts, cases_texts}
use Rattle.mig_resolve_template.specs.Templates.{in_order, cases_in_order, choice_in_order, template_from, given_fields, given_choice, given_cases}
use Rattle.mig_rule.specs.Spelled.{template_names, field_names, choice_names, case_names}

-- ---- lists
pub to_all : {X : Type 0} (P : X → Type 0) (xs : List X) → AllByRecursion P xs → All P xs
to_all P [] h k d l = absurd (omega arith)
to_all P (x ∷ xs) h zero d l = h.0
to_all P (x ∷ xs) h (suc k) d l = to_all P xs h.1 k d (omega arith)

pub from_all : {X : Type 0} (P : X → Type 0) (xs : List X) → All P xs → AllByRecursion P xs
from_all P [] h = tt
from_all P (x ∷ xs) h = (h zero x (omega arith), from_all P xs (λ k d l. h (suc k) d (omega arith)))

pub all_permuted : {X : Type 0} (P : X → Type 0) (xs ys : List X) → IsPermutation xs ys → AllByRecursion P xs → AllByRecursion P ys
all_permuted P xs ys p h = from_all P ys (All-permutation P xs ys p (to_all P xs h))

pub all_both : {X : Type 0} (P : X → Type 0) (xs ys : List X) → AllByRecursion P xs → AllByRecursion P ys → AllByRecursion P (xs ++ ys)
all_both P [] ys h k = k
all_both P (x ∷ xs) ys h k = (h.0, all_both P xs ys h.1 k)

pub all_front : {X : Type 0} (P : X → Type 0) (xs ys : List X) → AllByRecursion P (xs ++ ys) → AllByRecursion P xs
all_front P [] ys h = tt
all_front P (x ∷ xs) ys h = (h.0, all_front P xs ys h.1)

pub all_back : {X : Type 0} (P : X → Type 0) (xs ys : List X) → AllByRecursion P (xs ++ ys) → AllByRecursion P ys
all_back P [] ys h = h
all_back P (x ∷ xs) ys h = all_back P xs ys h.1

pub all_in_order : {A : Type 0} (P : List ℕ × A → Type 0) (es : List (List ℕ × A)) → AllByRecursion P es → AllByRecursion P (in_order es)
all_in_order {A} P es h = by (gathered es) refl
  where
    by : (o : Option (List (List ℕ × A))) → gathered es ≡ o → AllByRecursion P (unwrap_or o es)
    by None e = h
    by (Some fs) e = all_permuted P es fs (gathered_sound es fs e).0 h

module _ (P : List ℕ → Type 0) where
  abbrev Each : List (List ℕ) → Type 0
  Each names = AllByRecursion P names

  -- P holds of a field's name and of each name in its template
  abbrev OfField : Field → Type 0
  OfField f = P f.0 × Each (template_names f.1.1)

  abbrev OfCase : Case → Type 0
  OfCase c = P c.0 × AllByRecursion OfField c.1

  of_fields : (fs : List Field) → AllByRecursion OfField fs → Each (field_names (fields_of fs))
  of_fields [] h = tt
  of_fields (f ∷ fs) h = (h.0.0, all_both P (template_names f.1.1) (field_names (fields_of fs)) h.0.1 (of_fields fs h.1))

  of_cases : (cs : List Case) → AllByRecursion OfCase cs → Each (case_names (cases_of cs))
  of_cases [] h = tt
  of_cases (c ∷ cs) h = (h.0.0, all_both P (field_names (fields_of c.1)) (case_names (cases_of cs)) (of_fields c.1 h.0.1) (of_cases cs h.1))

  fields_ordered : (cs : List Case) → AllByRecursion OfCase cs → AllByRecursion OfCase (map (λ (c : Case). (c.0, in_order c.1)) cs)
  fields_ordered [] h = tt
  fields_ordered (c ∷ cs) h = ((h.0.0, all_in_order OfField c.1 h.0.1), fields_ordered cs h.1)

  of_ordered_cases : (cs : List Case) → AllByRecursion OfCase cs → Each (case_names (cases_of (cases_in_order cs)))
  of_ordered_cases cs h = of_cases (cases_in_order cs) (all_in_order OfCase (map (λ (c : Case). (c.0, in_order c.1)) cs) (fields_ordered cs h))

  mutual
    pub of_template : (t : TemplateSyntax) → Each (template_texts t) → Each (template_names (template_from t))
    of_template (syntax.leaf k) h = tt
    of_template syntax.any h = tt
    of_template (syntax.list t) h = of_template t h
    of_template (syntax.record_of fs c dots) h =
        all_both P (field_names (fields_of (in_order (given_fields fs)))) (choice_names (choice_of (choice_in_order (given_choice c))))
        (of_fields (in_order (given_fields fs)) (all_in_order OfField (given_fields fs) (of_given fs (all_front P (fields_texts fs) (choice_texts c) h))))
        (of_choice c (all_back P (fields_texts fs) (choice_texts c) h))
    of_template (syntax.point n) h = h
    of_template (syntax.sum s t) h =
        all_both P (template_names (template_from s)) (template_names (template_from t)) (of_template s (all_front P (template_texts s) (template_texts t) h)) (of_template t (all_back P (template_texts s) (template_texts t) h))

    pub of_given : (fs : FieldsSyntax) → Each (fields_texts fs) → AllByRecursion OfField (given_fields fs)
    of_given syntax.no_field h = tt
    of_given (syntax.field n may t fs) h = ((h.0, of_template t (all_front P (template_texts t) (fields_texts fs) h.1)), of_given fs (all_back P (template_texts t) (fields_texts fs) h.1))

    of_choice : (c : ChoiceSyntax) → Each (choice_texts c) → Each (choice_names (choice_of (choice_in_order (given_choice c))))
    of_choice syntax.no_choice h = tt
    of_choice (syntax.choice tag cs kept) h = (h.0, of_ordered_cases (given_cases cs) (of_given_cases cs h.1))

    of_given_cases : (cs : CasesSyntax) → Each (cases_texts cs) → AllByRecursion OfCase (given_cases cs)
    of_given_cases syntax.no_case h = tt
    of_given_cases (syntax.case l fs cs) h = ((h.0, of_given fs (all_front P (fields_texts fs) (cases_texts cs) h.1)), of_given_cases cs (all_back P (fields_texts fs) (cases_texts cs) h.1))

  pub of_given_fields : (fs : FieldsSyntax) → Each (fields_texts fs) → Each (field_names (fields_of (given_fields fs)))
  of_given_fields fs h = of_fields (given_fields fs) (of_given fs h)
