-- The names of a whole record are distinct exactly where those of one scope are and none is taken outside.
use Rattle.std.proofs.Common.{◌≡◌, ℕ, List, [], ◌∷◌, ◌++◌, false, ◌||◌, Option, Some, None, sym, ap, ◌∙◌, arith}
use Rattle.std.specs.List.{list_any}
use Rattle.std.specs.Map.{keys_of}
use Rattle.mig_model.specs.Names.{has_twice, same_name, is_among, under, has}
use Rattle.mig_model.specs.Fields.{is_case_field, is_field}
use Rattle.mig_model.specs.Template.{Field, fields_of, cases_of}
use Rattle.mig_model.specs.Record as parts
use Rattle.mig_model.specs.Record.{RecordParts, IsRecord, Cases, choice_of, has_twice_in, is_twice_in, is_twice_named}
use Rattle.mig_template.proofs.Names.{twice_in_both, twice_in_more, first_once}
use Rattle.mig_template.proofs.Views.{field_list_of}
use Rattle.mig_func.specs.New.{has_clash, taken_by_choice, taken_by_rest}
use Rattle.mig_func.proofs.Tests.{any_either, any_alike, any_never, any_swap}
use Rattle.mig_model.proofs.Edits.{among_is}
use Rattle.mig_action.proofs.Distinct.{case_once}
use Rattle.std.proofs.Math.Bool.{or-false}
use Rattle.mig_model.proofs.Bools.{split_or}
use Rattle.mig_model.proofs.SameNames.{same_name_flips}

twice_beside : (ks others : List (List ℕ)) → has_twice others ≡ false → has_twice (ks ++ others) ≡ (has_twice ks || list_any (is_among others) ks)
twice_beside ks others once = let more = twice_in_more ks others in let both = twice_in_both ks others in grind (arith, more, both, once)

-- ---- a case
pub case_clash : (p : RecordParts) (c : Cases) (es : List Field) → p.choice ≡ Some c → has_twice (c.0 ∷ keys_of p.fields) ≡ false
    → has_twice_in (c.0 ∷ keys_of p.fields) (c.0, es) ≡ has_clash (taken_by_rest p) es
case_clash p c es is once =
    twice_beside (keys_of es) (c.0 ∷ keys_of p.fields) once
    ∙ ap (λ b. has_twice (keys_of es) || b)
    (any_alike (is_among (c.0 ∷ keys_of p.fields)) (taken_by_rest p) (keys_of es)
    (λ n. grind (arith, is, among_is p.fields n)))

-- ---- the common fields
field_is : (n : List ℕ) (fs : List Field) → is_field n (fields_of fs) ≡ is_among (keys_of fs) n
field_is n fs = ap (has n) (field_list_of fs) ∙ sym (among_is fs n)

names_of_case : (tag : List ℕ) (ks names others : List (List ℕ)) → has_twice (names ++ tag ∷ others) ≡ false → has_twice (tag ∷ others) ≡ false → has_twice (tag ∷ ks) ≡ false
    → has_twice (names ++ tag ∷ ks) ≡ list_any (is_among names) ks
names_of_case tag ks names others h once once' =
    twice_in_both names (tag ∷ ks) (first_once names (tag ∷ others) h) once'
    ∙ sym (any_either (λ m. same_name m tag) (is_among ks) names)
    ∙ ap (λ b. b || list_any (is_among ks) names) no_tag
    ∙ any_swap ks names
  where
    both : (list_any (λ m. same_name m tag) names || list_any (is_among others) names) ≡ false
    both = any_either (λ m. same_name m tag) (is_among others) names ∙ sym (twice_in_both names (tag ∷ others) (first_once names (tag ∷ others) h) once) ∙ h

    no_tag : list_any (λ m. same_name m tag) names ≡ false
    no_tag = (split_or (list_any (λ m. same_name m tag) names) (list_any (is_among others) names) both).0

cases_clash : (tag : List ℕ) (ks others : List (List ℕ)) (cs : List parts.Case) → list_any (has_twice_in (tag ∷ others)) cs ≡ false → has_twice (tag ∷ others) ≡ false → has_twice (tag ∷ ks) ≡ false
    → list_any (has_twice_in (tag ∷ ks)) cs ≡ list_any (λ n. is_case_field n (cases_of cs)) ks
cases_clash tag ks others [] h once once' = sym (any_never ks)
cases_clash tag ks others (d ∷ cs) h once once' =
    let s = split_or (has_twice_in (tag ∷ others) d) (list_any (has_twice_in (tag ∷ others)) cs) h in
    let here : has_twice (keys_of d.1 ++ tag ∷ ks) ≡ list_any (λ n. is_field n (fields_of d.1)) ks =
    names_of_case tag ks (keys_of d.1) others s.0 once once'
    ∙ any_alike (is_among (keys_of d.1)) (λ n. is_field n (fields_of d.1)) ks (λ n. sym (field_is n d.1)) in
    (λ i. here i || cases_clash tag ks others cs s.1 once once' i)
    ∙ any_either (λ n. is_field n (fields_of d.1)) (λ n. is_case_field n (cases_of cs)) ks

choice_clash : (fs es : List Field) (c : Cases) → is_twice_named fs (Some c) ≡ false → is_twice_named es (Some c) ≡ has_clash (taken_by_choice (Some c)) es
choice_clash fs es c h = let clash = cases_clash c.0 ks (keys_of fs) c.1 second.0 first.0 in grind (arith, clash, taken, second)
  where
    ks : List (List ℕ)
    ks = keys_of es

    first : (has_twice (c.0 ∷ keys_of fs) ≡ false) × (is_twice_in (c.0 ∷ keys_of fs) c.1 ≡ false)
    first = split_or (has_twice (c.0 ∷ keys_of fs)) (is_twice_in (c.0 ∷ keys_of fs) c.1) h

    second : (list_any (has_twice_in (c.0 ∷ keys_of fs)) c.1 ≡ false) × (has_twice (keys_of c.1) ≡ false)
    second = split_or (list_any (has_twice_in (c.0 ∷ keys_of fs)) c.1) (has_twice (keys_of c.1)) first.1

    tag_first : list_any (λ n. same_name n c.0) ks ≡ is_among ks c.0
    tag_first = any_alike (λ n. same_name n c.0) (same_name c.0) ks (λ n. same_name_flips n c.0)

    taken : list_any (taken_by_choice (Some c)) ks ≡ (is_among ks c.0 || list_any (λ n. is_case_field n (cases_of c.1)) ks)
    taken = sym (any_either (λ n. same_name n c.0) (λ n. is_case_field n (cases_of c.1)) ks) ∙ ap (λ b. b || list_any (λ n. is_case_field n (cases_of c.1)) ks) tag_first

-- other common fields beside the choice of a record
pub common_clash : (fs es : List Field) (c : Option Cases) → is_twice_named fs c ≡ false → is_twice_named es c ≡ has_clash (taken_by_choice c) es
common_clash fs es None h = sym ((λ i. has_twice (keys_of es) || any_never (keys_of es) i) ∙ or-false (has_twice (keys_of es)))
common_clash fs es (Some c) h = choice_clash fs es c h

-- the common fields of a record aren't taken by its choice, since its names are distinct
pub common_free : (fs : List Field) (c : Option Cases) → is_twice_named fs c ≡ false → list_any (taken_by_choice c) (keys_of fs) ≡ false
common_free fs c h = (split_or (has_twice (keys_of fs)) (list_any (taken_by_choice c) (keys_of fs)) (sym (common_clash fs fs c h) ∙ h)).1

pub case_free : (p : RecordParts) (c : Cases) (l : List ℕ) (fs : List Field) → p.choice ≡ Some c → is_twice_named p.fields (Some c) ≡ false → under l c.1 ≡ Some fs → list_any (taken_by_rest p) (keys_of fs) ≡ false
case_free p c l fs is h there =
    let a = split_or (has_twice (c.0 ∷ keys_of p.fields)) (is_twice_in (c.0 ∷ keys_of p.fields) c.1) h in
    let b = split_or (list_any (has_twice_in (c.0 ∷ keys_of p.fields)) c.1) (has_twice (keys_of c.1)) a.1 in
    (split_or (has_twice (keys_of fs)) (list_any (taken_by_rest p) (keys_of fs))
    (sym (case_clash p c fs is a.0) ∙ case_once (c.0 ∷ keys_of p.fields) c.1 b.0 l fs there)).1
