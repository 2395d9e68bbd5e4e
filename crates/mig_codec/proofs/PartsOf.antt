-- What a part of a body keeps, its parts keep.
use Rattle.std.proofs.Common.{◌≡◌, ◌∙◌, ℕ, ◌<◌, ◌≤◌, List, [], ◌∷◌, Bool, false, Option, Some, refl, sym, ap, subst, arith}
use Rattle.std.specs.Prelude.{◌||◌, if◌then◌else◌}
use Rattle.std.specs.List.{list_any}
use Rattle.mig_model.specs.declared.presence.Presence.{Presence}
use Rattle.mig_model.specs.Template.{Template, list, sum, Field, fields_of, cases_of}
use Rattle.mig_model.specs.Names.{same_name, under}
use Rattle.mig_model.specs.Family.{Family, unguarded, find_type, any_inside, any_in_fields, any_in_choice, any_in_cases, is_point, has_point_side, IsFormed}
use Rattle.mig_model.specs.Record as parts
use Rattle.mig_model.specs.Record.{RecordParts, found_case, choice_of, record_of}
use Rattle.mig_template.specs.Size.{template_size, fields_size, choice_size, cases_size}
use Rattle.mig_laws.proofs.Formed.{no_flaw}
use Rattle.mig_laws.proofs.Named.{by_name, found_has}
use Rattle.mig_codec.specs.Reading.{IsPart, types_size}
use Rattle.mig_model.proofs.Bools.{split_or, first_false, second_false}

pub list_part : (f : Family) (V : Template) → IsPart f (list V) → IsPart f V
list_part f V p = record { size = omega (arith, p.size); guarded = p.guarded }

pub sum_parts : (f : Family) (V W : Template) → IsPart f (sum V W) → (IsPart f V × (is_point V ≡ false)) × (IsPart f W × (is_point W ≡ false))
sum_parts f V W p =
    let here = split_or (is_point V || is_point W) (any_inside has_point_side V || any_inside has_point_side W) p.guarded in
    let points = split_or (is_point V) (is_point W) here.0 in
    let inside = split_or (any_inside has_point_side V) (any_inside has_point_side W) here.1 in
    ((record { size = omega (arith, p.size); guarded = inside.0 }, points.0), (record { size = omega (arith, p.size); guarded = inside.1 }, points.1))

-- a field that is found is one of the fields
field_guarded : (n : List ℕ) (fs : List Field) (s : Presence × Template) → under n fs ≡ Some s → any_in_fields has_point_side (fields_of fs) ≡ false → any_inside has_point_side s.1 ≡ false
field_guarded n =
    found_has n (λ fs s. any_in_fields has_point_side (fields_of fs) ≡ false → any_inside has_point_side s.1 ≡ false)
    (λ g fs h. first_false (any_inside has_point_side g.1.1) (any_in_fields has_point_side (fields_of fs)) h)
    (λ g fs s rest h. rest (second_false (any_inside has_point_side g.1.1) (any_in_fields has_point_side (fields_of fs)) h))

field_size : (n : List ℕ) (fs : List Field) (s : Presence × Template) → under n fs ≡ Some s → template_size s.1 < fields_size (fields_of fs)
field_size n = found_has n (λ fs s. template_size s.1 < fields_size (fields_of fs)) (λ g fs. omega arith) (λ g fs s h. omega (arith, h))

abbrev pub found_in : List ℕ → List parts.Case → Option (List Field)
found_in l cs = found_case l (Some ([], cs, false))

case_guarded : (l : List ℕ) (cs : List parts.Case) (fs : List Field) → found_in l cs ≡ Some fs → any_in_cases has_point_side (cases_of cs) ≡ false → any_in_fields has_point_side (fields_of fs) ≡ false
case_guarded l =
    found_has l (λ cs fs. any_in_cases has_point_side (cases_of cs) ≡ false → any_in_fields has_point_side (fields_of fs) ≡ false)
    (λ c cs h. first_false (any_in_fields has_point_side (fields_of c.1)) (any_in_cases has_point_side (cases_of cs)) h)
    (λ c cs fs rest h. rest (second_false (any_in_fields has_point_side (fields_of c.1)) (any_in_cases has_point_side (cases_of cs)) h))

case_size : (l : List ℕ) (cs : List parts.Case) (fs : List Field) → found_in l cs ≡ Some fs → fields_size (fields_of fs) < cases_size (cases_of cs)
case_size l = found_has l (λ cs fs. fields_size (fields_of fs) < cases_size (cases_of cs)) (λ c cs. omega arith) (λ c cs fs h. omega (arith, h))

-- the fields of a record in a body
module _ (f : Family) (p : RecordParts) (part : IsPart f (record_of p)) where
  inside : (any_in_fields has_point_side (fields_of p.fields) ≡ false) × (any_in_choice has_point_side (choice_of p.choice) ≡ false)
  inside = split_or (any_in_fields has_point_side (fields_of p.fields)) (any_in_choice has_point_side (choice_of p.choice)) part.guarded

  pub common_part : (n : List ℕ) (q : Presence) (V : Template) → under n p.fields ≡ Some (q, V) → IsPart f V
  common_part n q V e = record { size = omega (arith, part.size, field_size n p.fields (q, V) e); guarded = field_guarded n p.fields (q, V) e inside.0 }

  pub cased_part : (c : parts.Cases) → p.choice ≡ Some c → (l : List ℕ) (fs : List Field) → found_in l c.1 ≡ Some fs → (n : List ℕ) (q : Presence) (V : Template) → under n fs ≡ Some (q, V) → IsPart f V
  cased_part c is l fs found n q V e =
      let here : any_in_choice has_point_side (choice_of (Some c)) ≡ false = subst (λ o. any_in_choice has_point_side (choice_of o) ≡ false) is inside.1 in
      record {
        size = omega (arith, part.size, field_size n fs (q, V) e, case_size l c.1 fs found, ap (λ o. choice_size (choice_of o)) is);
        guarded = field_guarded n fs (q, V) e (case_guarded l c.1 fs found here);
      }

-- the body of a named type
type_found : (n : List ℕ) (ts : List (List ℕ × Template)) → find_type n ts ≡ by_name n ts
type_found n [] = refl
type_found n (t ∷ ts) = ap (λ o. if same_name n t.0 then Some t.1 else o) (type_found n ts)

type_size : (n : List ℕ) (ts : List (List ℕ × Template)) (V : Template) → by_name n ts ≡ Some V → template_size V ≤ types_size ts
type_size n = found_has n (λ ts V. template_size V ≤ types_size ts) (λ t ts. omega arith) (λ t ts V h. omega (arith, h))

type_passes : (p : Template → Bool) (n : List ℕ) (ts : List (List ℕ × Template)) (V : Template) → by_name n ts ≡ Some V → list_any (λ t. p t.1) ts ≡ false → p V ≡ false
type_passes p n =
    found_has n (λ ts V. list_any (λ t. p t.1) ts ≡ false → p V ≡ false)
    (λ t ts h. first_false (p t.1) (list_any (λ u. p u.1) ts) h) (λ t ts V rest h. rest (second_false (p t.1) (list_any (λ u. p u.1) ts) h))

pub body_part : (f : Family) → IsFormed f → (n : List ℕ) (V : Template) → find_type n f.types ≡ Some V → IsPart f V × (is_point V ≡ false)
body_part f formed n V e =
    let there = sym (type_found n f.types) ∙ e in
    let both = split_or (is_point V) (any_inside has_point_side V) (type_passes (λ W. is_point W || any_inside has_point_side W) n f.types V there (no_flaw f formed unguarded)) in
    (record { size = type_size n f.types V there; guarded = both.1 }, both.0)
