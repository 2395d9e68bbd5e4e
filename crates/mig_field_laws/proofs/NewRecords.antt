-- The new record is in order: its fields and cases ascend, and all that must be distinct is.
use Rattle.std.proofs.Common.{◌≡◌, ℕ, List, [], ◌∷◌, ◌++◌, Bool, true, false, Option, Some, None, refl, sym, ap, subst, ◌∙◌, arith}
use Rattle.std.specs.Prelude.{not, ◌||◌, ◌&&◌, length, ◌==◌, is_some, option_map, option_and_then}
use Rattle.std.specs.List.{list_any, AllByRecursion}
use Rattle.std.specs.Map.{keys_of}
use Rattle.mig_model.specs.declared.presence.Presence.{Presence}
use Rattle.mig_model.specs.declared.rest.Rest.{Rest}
use Rattle.mig_model.specs.Fields.{is_in_choice, is_case_field, if_so}
use Rattle.mig_model.specs.Names.{Ascends, same_name, has_twice, is_among, under, has, without, put, bring, put_all, moved}
use Rattle.mig_model.specs.Template.{Template, list, rec, Field, Fields, cases_of, field_list, no_choice}
use Rattle.mig_model.proofs.Bools.{both_false, split_or}
use Rattle.mig_model.proofs.Rising.{nothing_ascends}
use Rattle.mig_model.proofs.SameNames.{same_name_is, same_name_itself}
use Rattle.mig_model.specs.Record as template
use Rattle.mig_model.specs.Record.{RecordParts, IsRecord, CasesAscend, choice_of, is_twice_named, is_twice_in, has_twice_in, has_no_case}
use Rattle.mig_template.proofs.Names.{first_once}
use Rattle.mig_template.proofs.Sorted.{once_if_ascends}
use Rattle.mig_field.specs.FieldFn.{FieldOp, Scope, common, in_case, rename, drop, add, learn, forget, default, maybe, map_leaf, nest, unnest, wrap, unify, retag, add_case, FieldFn}
use Rattle.mig_field.specs.NewRecord.{Scoped, FieldType, scoped, with_fields, filled, lessened, leaf_after, leaf_of_both, with_template, at_field, inner_fields, unnest_slot, new_fields, with_cases, can_be_settled, can_be_case, fields_of_case, retagged, with_case, new_by, new_record}
use Rattle.mig_model.proofs.Edits.{under-put_all, ascends-put, ascends-without, ascends-put_all, among_is}
use Rattle.mig_model.proofs.Options.{some-there}
use Rattle.mig_action.proofs.Stands.{field_is}
use Rattle.mig_action.proofs.Settings.{first-none}
use Rattle.mig_action.proofs.Ops.{is-free, at-field}
use Rattle.mig_action.proofs.Distinct.{apart_in, case_once, common_apart, case_apart, case_ascends, case_ascends_in, append_once}
use Rattle.mig_action.proofs.Values.{so, mapped, then_some, none_then}
use Rattle.mig_field_laws.proofs.Scopes.{InOrder, Refield, refielded, field_put, field_without, field_moved}
use Rattle.mig_field_laws.proofs.Nests.{field_nest, field_unnest}

-- ---- the fields of a scope
module _ (s : Scoped) (i : InOrder s) (r : Rest) where
  Is : List Field → Type 0
  Is gs = InOrder (record s { fields = gs })

  refield : (gs : List Field) (at : List ℕ → Bool) (F : List ℕ → Option FieldType) → Refield s gs at F → InOrder (record s { fields = gs })
  refield gs at F e = refielded s gs at F i e

  made : (b : Bool) (fs gs : List Field) → if_so b fs ≡ Some gs → (b ≡ true → InOrder (record s { fields = fs })) → InOrder (record s { fields = gs })
  made b fs gs e f = let a = so b fs gs e in subst (λ l. InOrder (record s { fields = l })) a.1 (f a.0)

  made_at : (x : List ℕ) (f : FieldType → Option FieldType) (gs : List Field) → at_field x f s.fields ≡ Some gs → InOrder (record s { fields = gs })
  made_at x f gs e =
      let a = at-field x f s.fields gs e in
      subst (λ l. InOrder (record s { fields = l })) a.gives (refield (put x a.new s.fields) _ _ (field_put s i x a.new (i.apart x (ap is_some a.there))))

  pub fields_in_order : (op : FieldOp) (gs : List Field) → new_fields op r s ≡ Some gs → InOrder (record s { fields = gs })
  fields_in_order (rename x y) gs e = made _ (moved x y s.fields) gs e
      (λ b. let f = is-free s y (grind (arith, b)) in refield (moved x y s.fields) _ _ (field_moved s i x y (grind (arith, b)) f.free))
  fields_in_order (drop x) gs e = made _ (without x s.fields) gs e (λ b. refield (without x s.fields) _ _ (field_without s i x b))
  fields_in_order (add x g) gs e = made _ _ gs e (λ b. let f = is-free s x (grind (arith, b)) in refield _ _ _ (field_put s i x _ f.free))
  fields_in_order (learn x k) gs e = made _ _ gs e (λ b. let f = is-free s x (grind (arith, b)) in refield _ _ _ (field_put s i x _ f.free))
  fields_in_order (forget x) gs e = made _ (without x s.fields) gs e (λ b. refield (without x s.fields) _ _ (field_without s i x (grind (arith, b))))
  fields_in_order (default x g) gs e = made_at x (filled g) gs e
  fields_in_order (maybe x) gs e = made_at x lessened gs e
  fields_in_order (map_leaf x g) gs e = made_at x (with_template (leaf_after g)) gs e
  fields_in_order (wrap x) gs e = made_at x (with_template (λ V. Some (list V))) gs e
  fields_in_order (unify x g k) gs e = made_at x (with_template (leaf_of_both g k)) gs e
  fields_in_order (nest xs y) gs e = made _ _ gs e (λ b. refield _ _ _ (field_nest s i xs y b))
  fields_in_order (unnest y) gs e =
      let a = then_some (λ (f : FieldType). option_and_then (unnest_slot y s f.0) (inner_fields f.1)) (under y s.fields) gs e in
      by a.0.0 a.0.1 a.1 a.2
    where
      at : (q : Presence) (gf : Fields) (p : Rest) → under y s.fields ≡ Some (q, rec gf no_choice p) → unnest_slot y s q (field_list gf) ≡ Some gs → InOrder (record s { fields = gs })
      at q gf p there k = made _ _ gs k (λ b. refield _ _ _ (field_unnest s i y q gf p there b))

      by : (q : Presence) (V : Template) → under y s.fields ≡ Some (q, V) → option_and_then (unnest_slot y s q) (inner_fields V) ≡ Some gs → InOrder (record s { fields = gs })
      by q (rec gf no_choice p) there k = at q gf p there k
      by q V there k = cc
  fields_in_order op gs e = cc

-- ---- names that are distinct
-- the names that stand beside the cases are no case's
beside_cases : (ns : List (List ℕ)) (cs : List template.Case) → list_any (has_twice_in ns) cs ≡ false → has_twice ns ≡ false → (n : List ℕ) → is_among ns n ≡ true
    → is_case_field n (cases_of cs) ≡ false
beside_cases ns [] e k n a = refl
beside_cases ns (c ∷ cs) e k n a =
    let s = split_or (has_twice_in ns c) (list_any (has_twice_in ns) cs) e in
    let apart = apart_in (keys_of c.1) ns s.0 k n in
    let rest = beside_cases ns cs s.1 k n a in
    grind (arith, field_is n c.1, among_is c.1 n, apart, rest)

-- other names stand beside the same cases
cases_beside : (ns ms : List (List ℕ)) (cs : List template.Case) → list_any (has_twice_in ns) cs ≡ false → has_twice ms ≡ false
    → ((n : List ℕ) → is_case_field n (cases_of cs) ≡ true → is_among ms n ≡ false) → list_any (has_twice_in ms) cs ≡ false
cases_beside ns ms [] e k a = refl
cases_beside ns ms (c ∷ cs) e k a =
    let s = split_or (has_twice_in ns c) (list_any (has_twice_in ns) cs) e in
    both_false (has_twice_in ms c) (list_any (has_twice_in ms) cs)
    (append_once (keys_of c.1) ms (first_once (keys_of c.1) ns s.0) k (λ n h. let apart = a n in grind (arith, field_is n c.1, among_is c.1 n, h, apart)))
    (cases_beside ns ms cs s.1 k (λ n h. let apart = a n in grind (arith, h, apart)))

-- ---- cases
any_put : (ns : List (List ℕ)) (l : List ℕ) (gs : List Field) (cs : List template.Case) → list_any (has_twice_in ns) cs ≡ false → has_twice (keys_of gs ++ ns) ≡ false
    → list_any (has_twice_in ns) (put l gs cs) ≡ false
any_put ns l gs [] e k = both_false (has_twice (keys_of gs ++ ns)) false k refl
any_put ns l gs (c ∷ cs) e k = let rest = any_put ns l gs cs in grind (arith, rest, e, k)

any_without : (ns : List (List ℕ)) (l : List ℕ) (cs : List template.Case) → list_any (has_twice_in ns) cs ≡ false → list_any (has_twice_in ns) (without l cs) ≡ false
any_without ns l [] e = refl
any_without ns l (c ∷ cs) e = let rest = any_without ns l cs in grind (arith, rest)

abbrev AllAscend : List template.Case → Type 0
AllAscend = AllByRecursion (λ (d : template.Case). Ascends d.1)

all_put : (l : List ℕ) (gs : List Field) (cs : List template.Case) → AllAscend cs → Ascends gs → AllAscend (put l gs cs)
all_put l gs [] a s = (s, tt)
all_put l gs (c ∷ cs) a s = grind (arith, a.0, a.1, s, all_put l gs cs a.1 s)

all_without : (l : List ℕ) (cs : List template.Case) → AllAscend cs → AllAscend (without l cs)
all_without l [] a = tt
all_without l (c ∷ cs) a = grind (arith, a.0, a.1, all_without l cs a.1)

some_put : (l : List ℕ) (gs : List Field) (cs : List template.Case) → (length (put l gs cs) == 0) ≡ false
some_put l gs [] = refl
some_put l gs (c ∷ cs) = grind arith

-- ---- the new record
record CasesAre (fs : List Field) (c : template.Cases) : Type 0 where
  ascend : Ascends c.1
  each : AllAscend c.1
  tag : has_twice (c.0 ∷ keys_of fs) ≡ false
  apart : list_any (has_twice_in (c.0 ∷ keys_of fs)) c.1 ≡ false

cases_are : (fs : List Field) (c : template.Cases) → IsRecord fs (Some c) → CasesAre fs c
cases_are fs c i =
    let a = split_or (has_twice (c.0 ∷ keys_of fs)) (is_twice_in (c.0 ∷ keys_of fs) c.1) i.distinct in
    let b = split_or (list_any (has_twice_in (c.0 ∷ keys_of fs)) c.1) (has_twice (keys_of c.1)) a.1 in
    record { ascend = i.cases.0; each = i.cases.1; tag = a.0; apart = b.0 }

-- with one case put in
with_case_put : (fs : List Field) (tag : List ℕ) (kept : Bool) (cs : List template.Case) (l : List ℕ) (gs : List Field) → Ascends fs → has_twice (tag ∷ keys_of fs) ≡ false → Ascends cs
    → AllAscend cs → list_any (has_twice_in (tag ∷ keys_of fs)) cs ≡ false
    → Ascends gs → has_twice (keys_of gs ++ tag ∷ keys_of fs) ≡ false → IsRecord fs (Some (tag, put l gs cs, kept))
with_case_put fs tag kept cs l gs sf once s each apart sg new = record {
  fields = sf;
  cases = (ascends-put l gs cs s, all_put l gs cs each sg);
  distinct = both_false (has_twice (tag ∷ keys_of fs)) (is_twice_in (tag ∷ keys_of fs) (put l gs cs)) once
      (both_false (list_any (has_twice_in (tag ∷ keys_of fs)) (put l gs cs)) (has_twice (keys_of (put l gs cs))) (any_put (tag ∷ keys_of fs) l gs cs apart new)
      (once_if_ascends (put l gs cs) (ascends-put l gs cs s)));
  some = some_put l gs cs;
}

with_common : (p : RecordParts) (gs : List Field) → IsRecord p.fields p.choice → InOrder (record { fields = gs; taken = λ n. is_in_choice n (choice_of p.choice) }) → IsRecord gs p.choice
with_common p gs i o = by p.choice i o.apart
  where
    by : (c : Option template.Cases) → IsRecord p.fields c → ((n : List ℕ) → has n gs ≡ true → is_in_choice n (choice_of c) ≡ false) → IsRecord gs c
    by None i a = record { fields = o.ascend; cases = tt; distinct = once_if_ascends gs o.ascend; some = refl }
    by (Some c) i a =
        let are = cases_are p.fields c i in
        let no_tag : is_among (keys_of gs) c.0 ≡ false = (let at = a c.0 in grind (arith, at, among_is gs c.0, same_name_is c.0 c.0, itself c.0)) in
        let once : has_twice (c.0 ∷ keys_of gs) ≡ false = both_false (is_among (keys_of gs) c.0) (has_twice (keys_of gs)) no_tag (once_if_ascends gs o.ascend) in
        record {
          fields = o.ascend;
          cases = i.cases;
          distinct = both_false (has_twice (c.0 ∷ keys_of gs)) (is_twice_in (c.0 ∷ keys_of gs) c.1) once
              (both_false (list_any (has_twice_in (c.0 ∷ keys_of gs)) c.1) (has_twice (keys_of c.1))
              (cases_beside (c.0 ∷ keys_of p.fields) (c.0 ∷ keys_of gs) c.1 are.apart once (λ n k. apart c are n k (a n)))
              (once_if_ascends c.1 are.ascend));
          some = i.some;
        }
      where
        itself : (n : List ℕ) → same_name n n ≡ true
        itself n = same_name_itself n

        apart : (c : template.Cases) → CasesAre p.fields c → (n : List ℕ) → is_case_field n (cases_of c.1) ≡ true → (has n gs ≡ true → is_in_choice n (choice_of (Some c)) ≡ false)
            → is_among (c.0 ∷ keys_of gs) n ≡ false
        apart c are n k at = let no = beside_cases (c.0 ∷ keys_of p.fields) c.1 are.apart are.tag n in grind (arith, k, at, no_case n no, among_is gs n)
          where
            no_case : (n : List ℕ) → (is_among (c.0 ∷ keys_of p.fields) n ≡ true → is_case_field n (cases_of c.1) ≡ false) → same_name n c.0 ≡ true → is_case_field n (cases_of c.1) ≡ false
            no_case n f e = f (ap (λ b. b || is_among (keys_of p.fields) n) e)

module _ (fs : List Field) (c : template.Cases) (rest : Rest) (i : IsRecord fs (Some c)) where
  abbrev p : RecordParts
  p = record { fields = fs; choice = Some c; rest = rest }

  -- other fields in a case
  in_the_case : (l : List ℕ) (ds gs : List Field) → under l c.1 ≡ Some ds → InOrder (record { fields = gs; taken = λ n. has n fs || same_name n c.0 }) → IsRecord fs (Some (c.0, put l gs c.1, c.2))
  in_the_case l ds gs e o =
      let are = cases_are fs c i in
      with_case_put fs c.0 c.2 c.1 l gs i.fields are.tag are.ascend are.each are.apart o.ascend
      (append_once (keys_of gs) (c.0 ∷ keys_of fs) (once_if_ascends gs o.ascend) are.tag (λ n h. let a = o.apart n in grind (arith, h, a, among_is gs n, among_is fs n)))

  -- another literal
  with_other_literal : (a b : List ℕ) → has a c.1 ≡ true → IsRecord fs (Some (c.0, moved a b c.1, c.2))
  with_other_literal a b there =
      let are = cases_are fs c i in
      let ds = some-there (under a c.1) there in
      let fewer = without b (without a c.1) in
      subst (λ (F : Option (List Field)). IsRecord fs (Some (c.0, bring b F fewer, c.2))) (sym ds.1)
      (with_case_put fs c.0 c.2 fewer b ds.0 i.fields are.tag (ascends-without b (without a c.1) (ascends-without a c.1 are.ascend)) (all_without b (without a c.1) (all_without a c.1 are.each))
      (any_without (c.0 ∷ keys_of fs) b (without a c.1) (any_without (c.0 ∷ keys_of fs) a c.1 are.apart))
      (case_ascends_in c.1 are.each a ds.0 ds.1) (case_once (c.0 ∷ keys_of fs) c.1 are.apart a ds.0 ds.1))

  -- one case more
  with_one_more : (b : List ℕ) (ds : List Field) → can_be_case ds fs c ≡ true → IsRecord fs (Some (c.0, put b (put_all ds []) c.1, c.2))
  with_one_more b ds e =
      let are = cases_are fs c i in
      let once : has_twice (keys_of ds ++ c.0 ∷ keys_of fs) ≡ false = grind (arith, e) in
      let s : Ascends (put_all ds []) = ascends-put_all ds [] (nothing_ascends FieldType) in
      with_case_put fs c.0 c.2 c.1 b (put_all ds []) i.fields are.tag are.ascend are.each are.apart s
      (append_once (keys_of (put_all ds [])) (c.0 ∷ keys_of fs) (once_if_ascends (put_all ds []) s) are.tag
      (λ n h. let a = apart_in (keys_of ds) (c.0 ∷ keys_of fs) once are.tag n in grind (arith, h, a, among_is (put_all ds []) n, among_is ds n, under-put_all ds [] n, first-none (under n ds))))

-- ---- every function
common_new : (op : FieldOp) (p r : RecordParts) → IsRecord p.fields p.choice → option_map (λ gs. with_fields common gs p)
    (new_fields op p.rest (record { fields = p.fields; taken = λ n. is_in_choice n (choice_of p.choice) })) ≡ Some r → IsRecord r.fields r.choice
common_new op p r i e =
    let s : Scoped = record { fields = p.fields; taken = λ n. is_in_choice n (choice_of p.choice) } in
    let a = mapped (λ gs. with_fields common gs p) (new_fields op p.rest s) r e in
    subst (λ (x : RecordParts). IsRecord x.fields x.choice) a.2 (with_common p a.0 i (fields_in_order s (record { ascend = i.fields; apart = common_apart p i }) p.rest op a.0 a.1))

case_new : (op : FieldOp) (l : List ℕ) (fs : List Field) (C : Option template.Cases) (rest : Rest) (r : RecordParts) → IsRecord fs C
    → option_and_then (λ s. option_map (λ gs. with_fields (in_case l) gs (record { fields = fs; choice = C; rest = rest })) (new_fields op rest s))
    (scoped (in_case l) (record { fields = fs; choice = C; rest = rest })) ≡ Some r → IsRecord r.fields r.choice
case_new op l fs None rest r i e = cc
case_new op l fs (Some c) rest r i e = by (under l c.1) refl e
  where
    old : RecordParts
    old = record { fields = fs; choice = Some c; rest = rest }

    by : (F : Option (List Field)) → under l c.1 ≡ F
        → option_and_then (λ s. option_map (λ gs. with_fields (in_case l) gs (record { fields = fs; choice = Some c; rest = rest })) (new_fields op rest s))
        (option_map (λ ds. record { fields = ds; taken = λ n. has n fs || same_name n c.0 }) F) ≡ Some r → IsRecord r.fields r.choice
    by None k q = cc
    by (Some ds) k q =
        let s : Scoped = record { fields = ds; taken = λ n. has n fs || same_name n c.0 } in
        let a = mapped (λ gs. with_fields (in_case l) gs (record { fields = fs; choice = Some c; rest = rest })) (new_fields op rest s) r q in
        let q' : RecordParts = record { fields = fs; choice = Some c; rest = rest } in
        subst (λ (x : RecordParts). IsRecord x.fields x.choice) a.2
        (in_the_case fs c rest i l ds a.0 k (fields_in_order s (record { ascend = case_ascends q' i l ds k; apart = case_apart q' i l ds k }) rest op a.0 a.1))

retag_new : (a b : List ℕ) (fs : List Field) (C : Option template.Cases) (rest : Rest) (r : RecordParts) → IsRecord fs C
    → option_and_then (λ c. option_map (with_cases (record { fields = fs; choice = C; rest = rest })) (retagged a b c)) C ≡ Some r → IsRecord r.fields r.choice
retag_new a b fs None rest r i e = cc
retag_new a b fs (Some c) rest r i e =
    let old : RecordParts = record { fields = fs; choice = Some c; rest = rest } in
    let m = mapped (with_cases old) (retagged a b c) r e in
    let s = so (has a c.1 && (not (has b c.1) && can_be_settled c.2 (fields_of_case a c))) (c.0, moved a b c.1, c.2) m.0 m.1 in
    let k = s.0 in
    subst (λ (x : RecordParts). IsRecord x.fields x.choice) (ap (with_cases old) s.1 ∙ m.2) (with_other_literal fs c rest i a b (grind (arith, k)))

more_new : (b : List ℕ) (ds fs : List Field) (C : Option template.Cases) (rest : Rest) (r : RecordParts) → IsRecord fs C
    → option_and_then (λ c. option_map (with_cases (record { fields = fs; choice = C; rest = rest })) (with_case b ds fs c)) C ≡ Some r → IsRecord r.fields r.choice
more_new b ds fs None rest r i e = cc
more_new b ds fs (Some c) rest r i e =
    let old : RecordParts = record { fields = fs; choice = Some c; rest = rest } in
    let m = mapped (with_cases old) (with_case b ds fs c) r e in
    let s = so (not (has b c.1) && (can_be_case ds fs c && can_be_settled c.2 ds)) (c.0, put b (put_all ds []) c.1, c.2) m.0 m.1 in
    let k = s.0 in
    subst (λ (x : RecordParts). IsRecord x.fields x.choice) (ap (with_cases old) s.1 ∙ m.2) (with_one_more fs c rest i b ds (grind (arith, k)))

new_is : (op : FieldOp) (scope : Scope) (p r : RecordParts) → IsRecord p.fields p.choice → new_by op scope p ≡ Some r → IsRecord r.fields r.choice
new_is (retag a b) common p r i e = retag_new a b p.fields p.choice p.rest r i e
new_is (retag a b) (in_case l) p r i e = absurd (none_then (scoped (in_case l) p) r e)
new_is (add_case b gs) common p r i e = more_new b gs p.fields p.choice p.rest r i e
new_is (add_case b gs) (in_case l) p r i e = absurd (none_then (scoped (in_case l) p) r e)
new_is op common p r i e = common_new op p r i e
new_is op (in_case l) p r i e = case_new op l p.fields p.choice p.rest r i e

pub new_record_is : (f : FieldFn) (p r : RecordParts) → IsRecord p.fields p.choice → new_record f p ≡ Some r → IsRecord r.fields r.choice
new_record_is f p r i e = new_is f.op f.scope p r i e
