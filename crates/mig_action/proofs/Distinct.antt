-- The names of a record, one by one: a common field is no tag and no field of a case, and a case's field is both_false.
use Rattle.std.proofs.Common.{◌≡◌, ℕ, List, [], ◌∷◌, ◌++◌, true, false, Option, Some, None, refl, sym, ◌∙◌, arith}
use Rattle.std.specs.Prelude.{◌||◌, unwrap_or}
use Rattle.std.specs.List.{list_any, AllByRecursion}
use Rattle.std.specs.Map.{keys_of}
use Rattle.mig_model.specs.declared.presence.Presence.{Presence}
use Rattle.mig_model.specs.Names.{Ascends, same_name, has_twice, is_among, under, has}
use Rattle.mig_model.specs.Template.{Template, Field, cases_of}
use Rattle.mig_model.specs.Fields.{is_in_choice, is_case_field}
use Rattle.mig_model.specs.Record as template
use Rattle.mig_model.specs.Record.{RecordParts, IsRecord, choice_of, found_case, is_twice_named, is_twice_in, has_twice_in, CasesAscend}
use Rattle.std.proofs.lemmas.List.Folds.{list_any-append}
use Rattle.mig_template.proofs.Names.{twice_in_both, first_once}
use Rattle.mig_template.proofs.Sorted.{once_if_ascends}
use Rattle.mig_value.specs.Typed.{Typed, Tag}
use Rattle.mig_value.specs.Parts as value
use Rattle.mig_value.specs.Parts.{names_in, tag_name}
use Rattle.mig_value.specs.Fit.{TagFits}
use Rattle.mig_field.specs.NewRecord.{is_tag}
use Rattle.mig_action.proofs.Stands.{RecordStands, stands_there, rest_apart, opened, case_of, has_either, field_is}
use Rattle.mig_model.proofs.Edits.{found_in, among_is, none_of, none_among}
use Rattle.mig_model.proofs.Bools.{second_false, split_or}
use Rattle.mig_model.proofs.Rising.{nothing_ascends}
use Rattle.mig_model.proofs.SameNames.{same_name_is}

-- no name of the fields and of the tag's case is used twice
pub record Distinct (p : RecordParts) (tag : Option Tag) : Type 0 where
  pub fields : (n : List ℕ) → has n p.fields ≡ true → has_either n p.choice tag ≡ false
  pub cased : (n : List ℕ) → has n (case_of p.choice tag) ≡ true → is_tag n p.choice ≡ false
  pub fields_ascend : Ascends p.fields
  pub cased_ascend : Ascends (case_of p.choice tag)

-- of names of which none is there twice, none of the first is one of the second
pub apart_in : (ms ns : List (List ℕ)) → has_twice (ms ++ ns) ≡ false → has_twice ns ≡ false → (n : List ℕ) → is_among ms n ≡ true → is_among ns n ≡ false
apart_in ms ns h k n a = none_of (is_among ns) ms (sym (twice_in_both ms ns (first_once ms ns h) k) ∙ h) n a

pub case_once : (others : List (List ℕ)) (cs : List template.Case) → list_any (has_twice_in others) cs ≡ false → (l : List ℕ) (ds : List Field) → under l cs ≡ Some ds → has_twice (keys_of ds ++ others) ≡ false
case_once others cs h l ds e =
    found_in (λ (es : List template.Case). list_any (has_twice_in others) es ≡ false) (λ n (es : List Field). has_twice (keys_of es ++ others) ≡ false)
    (λ c es k. split_or (has_twice_in others c) (list_any (has_twice_in others) es) k) cs h l ds e

no_case_field : (others : List (List ℕ)) (cs : List template.Case) → list_any (has_twice_in others) cs ≡ false → has_twice others ≡ false → (n : List ℕ) → is_among others n ≡ true → is_case_field n (cases_of cs) ≡ false
no_case_field others [] h k n a = refl
no_case_field others (c ∷ cs) h k n a =
    let s = split_or (has_twice_in others c) (list_any (has_twice_in others) cs) h in
    let apart = apart_in (keys_of c.1) others s.0 k n in
    let rest = no_case_field others cs s.1 k n a in
    grind (arith, field_is n c.1, among_is c.1 n, apart, rest)

pub case_ascends_in : (cs : List template.Case) → AllByRecursion (λ (c : template.Case). Ascends c.1) cs → (l : List ℕ) (ds : List Field) → under l cs ≡ Some ds → Ascends ds
case_ascends_in cs k l ds e = found_in (AllByRecursion (λ (c : template.Case). Ascends c.1)) (λ n (es : List Field). Ascends es) (λ c es h. h) cs k l ds e

module _ (p : RecordParts) (i : IsRecord p.fields p.choice) where
  pub common_apart : (n : List ℕ) → has n p.fields ≡ true → is_in_choice n (choice_of p.choice) ≡ false
  common_apart n h = by p.choice i.distinct
    where
      by : (c : Option template.Cases) → is_twice_named p.fields c ≡ false → is_in_choice n (choice_of c) ≡ false
      by None k = refl
      by (Some c) k =
          let s = split_or (has_twice (c.0 ∷ keys_of p.fields)) (is_twice_in (c.0 ∷ keys_of p.fields) c.1) k in
          let u = split_or (list_any (has_twice_in (c.0 ∷ keys_of p.fields)) c.1) (has_twice (keys_of c.1)) s.1 in
          let none = no_case_field (c.0 ∷ keys_of p.fields) c.1 u.0 s.0 n in
          grind (arith, s.0, none, among_is p.fields n, same_name_is n c.0)

  -- the fields of the case are apart from the common ones and the tag
  pub case_apart : (l : List ℕ) (ds : List Field) → found_case l p.choice ≡ Some ds → (n : List ℕ) → has n ds ≡ true → (has n p.fields || is_tag n p.choice) ≡ false
  case_apart l ds e n h = by p.choice i.distinct e
    where
      by : (c : Option template.Cases) → is_twice_named p.fields c ≡ false → found_case l c ≡ Some ds → (has n p.fields || is_tag n c) ≡ false
      by None k q = cc
      by (Some c) k q =
          let s = split_or (has_twice (c.0 ∷ keys_of p.fields)) (is_twice_in (c.0 ∷ keys_of p.fields) c.1) k in
          let u = split_or (list_any (has_twice_in (c.0 ∷ keys_of p.fields)) c.1) (has_twice (keys_of c.1)) s.1 in
          let apart = apart_in (keys_of ds) (c.0 ∷ keys_of p.fields) (case_once (c.0 ∷ keys_of p.fields) c.1 u.0 l ds q) s.0 n in
          grind (arith, apart, among_is ds n, among_is p.fields n)

  pub case_ascends : (l : List ℕ) (ds : List Field) → found_case l p.choice ≡ Some ds → Ascends ds
  case_ascends l ds e = by p.choice i.cases e
    where
      by : (c : Option template.Cases) → CasesAscend c → found_case l c ≡ Some ds → Ascends ds
      by None k q = cc
      by (Some c) k q = case_ascends_in c.1 k.1 l ds q

  -- what a record keeps, told of the tag's case
  pub distinct_of : (tag : Option Tag) → Distinct p tag
  distinct_of tag = record {
    fields = λ n h. let a = common_apart n h in let b = tag_apart n p.choice in let c = (its_case tag).1 n in grind (arith, a, b, c);
    cased = λ n h. second_false (has n p.fields) (is_tag n p.choice) ((its_case tag).1 n h);
    fields_ascend = i.fields;
    cased_ascend = (its_case tag).0;
  }
    where
      tag_apart : (n : List ℕ) (c : Option template.Cases) → is_in_choice n (choice_of c) ≡ false → is_tag n c ≡ false
      tag_apart n c k = grind arith

      Apart : List Field → Type 0
      Apart ds = Ascends ds × ((n : List ℕ) → has n ds ≡ true → (has n p.fields || is_tag n p.choice) ≡ false)

      found : (l : List ℕ) (F : Option (List Field)) → found_case l p.choice ≡ F → Apart (unwrap_or F [])
      found l None e = (nothing_ascends (Presence × Template), λ n h. cc)
      found l (Some ds) e = (case_ascends l ds e, case_apart l ds e)

      its_case : (t : Option Tag) → Apart (case_of p.choice t)
      its_case None = (nothing_ascends (Presence × Template), λ n h. cc)
      its_case (Some t) = found t.1 (found_case t.1 p.choice) refl

pub append_once : (ms ns : List (List ℕ)) → has_twice ms ≡ false → has_twice ns ≡ false → ((n : List ℕ) → is_among ms n ≡ true → is_among ns n ≡ false) → has_twice (ms ++ ns) ≡ false
append_once ms ns a b h = twice_in_both ms ns a b ∙ none_among (is_among ns) ms h

-- ---- a value whose slots stand in such a record has no name twice
module _ (U : Typed → Type 0) (P : List ℕ → Typed → Type 0) (p : RecordParts) (v : value.RecordParts) (r : RecordStands U P p v) (d : Distinct p v.tag)
    (vf : Ascends v.fields) (vc : Ascends v.cased) (vr : Ascends v.rest) where
  -- where the names of the value stand in the record
  record Places (n : List ℕ) : Type 0 where
    fields : is_among (keys_of v.fields) n ≡ true → has n p.fields ≡ true
    cased : is_among (keys_of v.cased) n ≡ true → has n (case_of p.choice v.tag) ≡ true
    rest : is_among (keys_of v.rest) n ≡ true → (has n p.fields ≡ false) × (has_either n p.choice v.tag ≡ false)
    tag : is_among (tag_name v.tag) n ≡ true → is_tag n p.choice ≡ true
    behind : is_among (keys_of v.cased ++ keys_of v.rest) n ≡ (is_among (keys_of v.cased) n || is_among (keys_of v.rest) n)

  places : (n : List ℕ) → Places n
  places n = record {
    fields = λ h. stands_there U P (under n p.fields) (under n v.fields) (r.fields n) (sym (among_is v.fields n) ∙ h);
    cased = λ h. stands_there U P (under n (case_of p.choice v.tag)) (under n v.cased) (r.cased n) (sym (among_is v.cased n) ∙ h);
    rest = λ h. rest_apart U P (under n p.fields) (has_either n p.choice v.tag) (opened p v.tag) (under n v.rest) (r.rest n) (sym (among_is v.rest n) ∙ h);
    tag = by p.choice v.tag r.tag;
    behind = list_any-append (same_name n) (keys_of v.cased) (keys_of v.rest);
  }
    where
      by : (c : Option template.Cases) (t : Option Tag) → TagFits (choice_of c) t → is_among (tag_name t) n ≡ true → is_tag n c ≡ true
      by c None f k = cc
      by None (Some t) f k = absurd f
      by (Some c) (Some t) f k = let e = f.0 in grind (arith, e)

  pub names_once : has_twice (names_in v) ≡ false
  names_once =
      append_once (keys_of v.fields) (tag_name v.tag ++ (keys_of v.cased ++ keys_of v.rest)) (once_if_ascends v.fields vf)
      (append_once (tag_name v.tag) (keys_of v.cased ++ keys_of v.rest) (tag_once v.tag)
      (append_once (keys_of v.cased) (keys_of v.rest) (once_if_ascends v.cased vc) (once_if_ascends v.rest vr) (λ n h. let q = places n in grind (arith, q.cased, q.rest)))
      (λ n h. let q = places n in let apart = d.cased n in grind (arith, q.tag, q.cased, q.rest, q.behind, apart)))
      (λ n h. let q = places n in let apart = d.fields n in grind (arith, q.fields, q.tag, q.cased, q.rest, q.behind, apart, list_any-append (same_name n) (tag_name v.tag) (keys_of v.cased ++ keys_of v.rest)))
    where
      tag_once : (t : Option Tag) → has_twice (tag_name t) ≡ false
      tag_once t = grind arith
