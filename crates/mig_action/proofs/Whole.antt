-- Every field function: what it does to the parts of a value is what it does to the map, and the new parts are those of the new record.
use Rattle.std.proofs.Common.{◌≡◌, ℕ, List, [], ◌∷◌, ◌++◌, Bool, true, false, true≢false, Option, Some, None, refl, sym, ap, subst, ◌∙◌, arith}
use Rattle.std.specs.Prelude.{not, ◌||◌, ◌&&◌, option_map, option_and_then, unwrap_or, if◌then◌else◌}
use Rattle.std.specs.Map.{keys_of}
use Rattle.mig_model.specs.declared.rest.Rest.{Rest}
use Rattle.mig_model.specs.Plain as plain
use Rattle.mig_model.specs.Plain.{Plain}
use Rattle.mig_model.specs.declared.presence.Presence.{Presence}
use Rattle.mig_model.specs.Names.{under, same_name, has_twice, has, put, put_all, moved}
use Rattle.mig_model.specs.Template.{Template, Field}
use Rattle.mig_model.specs.Fields.{is_in_choice}
use Rattle.mig_model.specs.Inhabits.{has_tag, is_text}
use Rattle.mig_model.specs.Record as template
use Rattle.mig_model.specs.Record.{choice_of, found_case, is_twice_in}
use Rattle.mig_value.specs.Typed.{Typed, Slot, Tag, out}
use Rattle.mig_value.specs.Parts as value
use Rattle.mig_field.specs.FieldFn.{Scope, common, in_case, FieldOp, retag, add_case, FieldFn}
use Rattle.mig_field.specs.NewRecord.{scoped, with_fields, new_fields, with_cases, are_easy, can_be_settled, fields_of_case, retagged, can_be_case, with_case, new_by, new_record}
use Rattle.mig_field.specs.Act.{edit, edit_case, act_by, act, settle, with_tag, with_new_case}
use Rattle.mig_action.specs.Moves.{Moving, move, with_moving, with_moving_case, is_of_case, settle_case, retag_value, apply_by, apply}
use Rattle.mig_model.proofs.Edits.{first, same_under, under-put, under-put_all, under-moved, ascends-put, ascends-put_all, among_is}
use Rattle.mig_model.proofs.Options.{some-there}
use Rattle.mig_action.proofs.Stands.{none_stands, case_of, literal_is}
use Rattle.mig_action.proofs.Values.{so, mapped, none_then}
use Rattle.mig_action.proofs.Settings.{first-none}
use Rattle.mig_action.proofs.Orders.{pairs_of_record, under_record, ascends-in_order, pairs_by_list}
use Rattle.mig_action.proofs.Distinct.{distinct_of, apart_in, case_apart, case_ascends}
use Rattle.mig_action.proofs.Scopes.{Suits, Becomes, common_becomes, case_becomes, choice_becomes}
use Rattle.mig_action.proofs.Settling.{settled}
use Rattle.mig_template.proofs.Names.{first_once}
use Rattle.mig_template.proofs.Sorted.{once_if_ascends}
use Rattle.std.proofs.lemmas.Bool.{false_from_ne_true}
use Rattle.mig_model.proofs.Bools.{split_or}
use Rattle.mig_model.proofs.Rising.{nothing_ascends}
use Rattle.mig_model.proofs.SameNames.{same_name_is, same_name_itself}

-- where unknown tags are kept, fields that can be settled are easy
easy_if_kept : (kept : Bool) (ds : List Field) → kept ≡ true → can_be_settled kept ds ≡ true → are_easy ds ≡ true
easy_if_kept kept ds k h = grind (arith, k, h)

module _ (U : Typed → Type 0) (P : List ℕ → Typed → Type 0) where
  -- ---- a function on the common fields
  common_any : (op : FieldOp) (p r : template.RecordParts) (v : value.RecordParts) → Suits U P p v → option_map (λ gs. with_fields common gs p) (new_fields op p.rest (record { fields = p.fields; taken = λ n. is_in_choice n (choice_of p.choice) })) ≡ Some r
      → Becomes U P r (with_moving v (move op p.fields (record { slots = v.fields; rest = v.rest }))) (edit op p.fields (pairs_of_record v))
  common_any op p r v q h =
      let a = mapped (λ gs. with_fields common gs p) (new_fields op p.rest (record { fields = p.fields; taken = λ n. is_in_choice n (choice_of p.choice) })) r h in
      subst (λ x. Becomes U P x (with_moving v (move op p.fields (record { slots = v.fields; rest = v.rest }))) (edit op p.fields (pairs_of_record v))) a.2 (common_becomes U P p v q op a.0 a.1)

  -- ---- a record with a choice, and the tag that stands there
  module _ (fs : List Field) (c : template.Cases) (rest : Rest) (vf : List Slot) (t : Tag) (vc vr : List Slot) where
    abbrev p : template.RecordParts
    p = record { fields = fs; choice = Some c; rest = rest }

    abbrev v : value.RecordParts
    v = record { fields = vf; tag = Some t; cased = vc; rest = vr }

    module _ (q : Suits U P p v) where
      tag_no_field : under c.0 vf ≡ None
      tag_no_field = none_stands U P (under c.0 fs) (under c.0 vf) (q.stand.fields c.0) (false_from_ne_true (has c.0 fs) alone)
        where
          alone : has c.0 fs ≡ true → ⊥
          alone h = true≢false (sym (same_name_itself c.0) ∙ (split_or (same_name c.0 c.0) (has c.0 (case_of (Some c) (Some t))) ((distinct_of p q.is_record (Some t)).fields c.0 h)).0)

      -- the tag of the map
      tag_there : under c.0 (pairs_of_record v) ≡ Some (plain.text t.1)
      tag_there =
          under_record v c.0
          ∙ (λ i. first (option_map out (tag_no_field i)) (first (if here i then Some (plain.text t.1) else None) (first (option_map out (under c.0 vc)) (option_map out (under c.0 vr)))))
        where
          here : same_name c.0 t.0 ≡ true
          here = ap (same_name c.0) q.stand.tag.0 ∙ same_name_itself c.0

      tag_test : (l : List ℕ) → has_tag c.0 l (pairs_of_record v) ≡ same_name t.1 l
      tag_test l = ap (is_text l) tag_there

      -- a tag that is no literal is kept
      kept_there : has t.1 c.1 ≡ false → c.2 ≡ true
      kept_there none = let a = q.stand.tag.1 in grind (arith, none, a, literal_is t.1 c.1)

      -- ---- a function on the fields of a case
      module _ (op : FieldOp) (l : List ℕ) (ds gs : List Field) (new : new_fields op rest (record { fields = ds; taken = λ n. has n fs || same_name n c.0 }) ≡ Some gs) where
        abbrev r : template.RecordParts
        r = record { fields = fs; choice = Some (c.0, put l gs c.1, c.2); rest = rest }

        abbrev m : Moving
        m = record { slots = vc; rest = vr }

        case_there : t.1 ≡ l → under l c.1 ≡ Some ds → Becomes U P r (with_moving_case v (move op ds m)) (edit op ds (pairs_of_record v))
        case_there e k = subst (λ j. Becomes U P (record { fields = fs; choice = Some (c.0, put j gs c.1, c.2); rest = rest }) (with_moving_case v (move op ds m)) (edit op ds (pairs_of_record v))) e
            (case_becomes U P fs c rest vf t vc vr q ds (ap (λ j. under j c.1) e ∙ k) op gs new)

        other_case : same_name t.1 l ≡ false → Becomes U P r v (pairs_of_record v)
        other_case e =
            choice_becomes U P fs c rest vf t vc vr q (put l gs c.1) t.1 (grind (arith, under-put l gs c.1 t.1, e)) (pairs_of_record v) refl

        case_at : under l c.1 ≡ Some ds
            → Becomes U P r (if is_of_case l (Some t) then with_moving_case v (move op (unwrap_or (found_case l (Some c)) []) m) else v) (edit_case op l p (Some c) (pairs_of_record v))
        case_at k =
            subst (λ es. Becomes U P r (if same_name t.1 l then with_moving_case v (move op (unwrap_or (under l c.1) []) m) else v) es) (ap (λ b. if b then edit op (unwrap_or (under l c.1) []) (pairs_of_record v) else pairs_of_record v) (sym (tag_test l)))
            (by (same_name t.1 l) refl (unwrap_or (under l c.1) []) (ap (λ (F : Option (List Field)). unwrap_or F []) k))
          where
            by : (b : Bool) → same_name t.1 l ≡ b → (es : List Field) → es ≡ ds → Becomes U P r (if b then with_moving_case v (move op es m) else v) (if b then edit op es (pairs_of_record v) else pairs_of_record v)
            by true e es is = subst (λ x. Becomes U P r (with_moving_case v (move op x m)) (edit op x (pairs_of_record v))) (sym is) (case_there (same_name_is t.1 l e) k)
            by false e es is = other_case e

      -- ---- another literal
      module _ (a b : List ℕ) (there : has a c.1 ≡ true) (free : has b c.1 ≡ false) (settles : can_be_settled c.2 (fields_of_case a c) ≡ true) where
        abbrev retagged_record : template.RecordParts
        retagged_record = record { fields = fs; choice = Some (c.0, moved a b c.1, c.2); rest = rest }

        abbrev retagged_value : List ℕ → value.RecordParts
        retagged_value l = record { fields = vf; tag = Some (t.0, l); cased = vc; rest = vr }

        now_at : (n : List ℕ) → under n (moved a b c.1) ≡ (if same_name n b then under a c.1 else (if same_name n a then None else under n c.1))
        now_at n = under-moved a b c.1 n q.is_record.cases.0

        its_tag : same_name t.1 a ≡ true → Becomes U P retagged_record (retagged_value b) (put c.0 (plain.text b) (pairs_of_record v))
        its_tag e =
            choice_becomes U P fs c rest vf t vc vr q (moved a b c.1) b (grind (arith, now_at b, same_name_itself b, same_name_is t.1 a, e)) (put c.0 (plain.text b) (pairs_of_record v))
            (same_under (pairs_of_record (retagged_value b)) (put c.0 (plain.text b) (pairs_of_record v)) (ascends-in_order (pairs_by_list (retagged_value b))) (ascends-put c.0 (plain.text b) (pairs_of_record v) (ascends-in_order (pairs_by_list v))) same)
          where
            same : (n : List ℕ) → under n (pairs_of_record (retagged_value b)) ≡ under n (put c.0 (plain.text b) (pairs_of_record v))
            same n =
                let tag = q.stand.tag.0 in
                grind (arith, under_record (retagged_value b) n, under-put c.0 (plain.text b) (pairs_of_record v) n, under_record v n, tag_no_field, tag, same_name_is n c.0)

        -- the value was kept with the tag b
        kept_tag : same_name t.1 b ≡ true → Becomes U P retagged_record (settle_case (fields_of_case a c) rest v) (settle (fields_of_case a c) p c.0 (pairs_of_record v))
        kept_tag e =
            let is = same_name_is t.1 b e in
            let none : has t.1 c.1 ≡ false = ap (λ l. has l c.1) is ∙ free in
            let ds = some-there (under a c.1) there in
            let same : fields_of_case a c ≡ ds.0 = ap (λ (F : Option (List Field)). unwrap_or F []) ds.1 in
            let ascends = case_ascends p q.is_record a ds.0 ds.1 in
            subst (λ l. Becomes U P retagged_record (settle_case l rest v) (settle l p c.0 (pairs_of_record v))) (sym same)
            (settled U P fs c rest vf t vc vr q none ds.0 ds.0 (moved a b c.1) (now_at t.1 ∙ grind (arith, e, ds.1)) (once_if_ascends ds.0 ascends) ascends (λ n. refl) (case_apart p q.is_record a ds.0 ds.1)
            (easy_if_kept c.2 ds.0 (kept_there none) (sym (ap (can_be_settled c.2) same) ∙ settles)))

        other_tag : same_name t.1 a ≡ false → same_name t.1 b ≡ false → Becomes U P retagged_record v (pairs_of_record v)
        other_tag e k = choice_becomes U P fs c rest vf t vc vr q (moved a b c.1) t.1 (grind (arith, now_at t.1, e, k)) (pairs_of_record v) refl

        retag_at : Becomes U P retagged_record (retag_value a b p (Some c) (Some t) v) (with_tag a b p (Some c) (pairs_of_record v))
        retag_at =
            let is_a = sym (tag_test a) in
            let is_b = sym (tag_test b) in
            subst (Becomes U P retagged_record (retag_value a b p (Some c) (Some t) v))
            (λ i. if is_a i then put c.0 (plain.text b) (pairs_of_record v) else (if is_b i then settle (fields_of_case a c) p c.0 (pairs_of_record v) else pairs_of_record v))
            (by (same_name t.1 a) refl (same_name t.1 b) refl)
          where
            by : (x : Bool) → same_name t.1 a ≡ x → (y : Bool) → same_name t.1 b ≡ y
                → Becomes U P retagged_record (if x then retagged_value b else (if y then settle_case (fields_of_case a c) rest v else v)) (if x then put c.0 (plain.text b) (pairs_of_record v) else (if y then settle (fields_of_case a c) p c.0 (pairs_of_record v) else pairs_of_record v))
            by true e y k = its_tag e
            by false e true k = kept_tag k
            by false e false k = other_tag e k

      -- ---- one more case
      module _ (b : List ℕ) (ds : List Field) (free : has b c.1 ≡ false) (fits : can_be_case ds fs c ≡ true) (settles : can_be_settled c.2 ds ≡ true) where
        abbrev wider_record : template.RecordParts
        wider_record = record { fields = fs; choice = Some (c.0, put b (put_all ds []) c.1, c.2); rest = rest }

        apart_names : (has_twice (keys_of ds) ≡ false) × ((n : List ℕ) → has n ds ≡ true → (has n fs || same_name n c.0) ≡ false)
        apart_names =
            let once : has_twice (keys_of ds ++ c.0 ∷ keys_of fs) ≡ false = grind (arith, fits) in
            let behind : has_twice (c.0 ∷ keys_of fs) ≡ false = (split_or (has_twice (c.0 ∷ keys_of fs)) (is_twice_in (c.0 ∷ keys_of fs) c.1) q.is_record.distinct).0 in
            (first_once (keys_of ds) (c.0 ∷ keys_of fs) once, λ n h. let a = apart_in (keys_of ds) (c.0 ∷ keys_of fs) once behind n (among_is ds n ∙ h) in grind (arith, a, among_is fs n))

        new_tag : same_name t.1 b ≡ true → Becomes U P wider_record (settle_case ds rest v) (settle ds p c.0 (pairs_of_record v))
        new_tag e =
            let none : has t.1 c.1 ≡ false = ap (λ l. has l c.1) (same_name_is t.1 b e) ∙ free in
            settled U P fs c rest vf t vc vr q none ds (put_all ds []) (put b (put_all ds []) c.1) (under-put b (put_all ds []) c.1 t.1 ∙ ap (λ (x : Bool). if x then Some (put_all ds []) else under t.1 c.1) e) apart_names.0
            (ascends-put_all ds [] (nothing_ascends (Presence × Template))) (λ n. under-put_all ds [] n ∙ first-none (under n ds)) apart_names.1 (easy_if_kept c.2 ds (kept_there none) settles)

        older_tag : same_name t.1 b ≡ false → Becomes U P wider_record v (pairs_of_record v)
        older_tag e = choice_becomes U P fs c rest vf t vc vr q (put b (put_all ds []) c.1) t.1 (grind (arith, e, under-put b (put_all ds []) c.1 t.1)) (pairs_of_record v) refl

        one_case_more : Becomes U P wider_record (if is_of_case b (Some t) then settle_case ds rest v else v) (with_new_case b ds p (Some c) (pairs_of_record v))
        one_case_more = subst (Becomes U P wider_record (if same_name t.1 b then settle_case ds rest v else v)) (ap (λ (x : Bool). if x then settle ds p c.0 (pairs_of_record v) else pairs_of_record v) (sym (tag_test b))) (by (same_name t.1 b) refl)
          where
            by : (x : Bool) → same_name t.1 b ≡ x → Becomes U P wider_record (if x then settle_case ds rest v else v) (if x then settle ds p c.0 (pairs_of_record v) else pairs_of_record v)
            by true e = new_tag e
            by false e = older_tag e

  -- what becomes of a value by a function on the fields of a case
  module _ (op : FieldOp) (l : List ℕ) (fs : List Field) (C : Option template.Cases) (rest : Rest) (vf : List Slot) (T : Option Tag) (vc vr : List Slot) where
    abbrev old_record : template.RecordParts
    old_record = record { fields = fs; choice = C; rest = rest }

    abbrev old_value : value.RecordParts
    old_value = record { fields = vf; tag = T; cased = vc; rest = vr }

    abbrev CaseBecomes : template.RecordParts → Type 0
    CaseBecomes r = Becomes U P r (if is_of_case l T then with_moving_case old_value (move op (unwrap_or (found_case l C) []) (record { slots = vc; rest = vr })) else old_value) (edit_case op l old_record C (pairs_of_record old_value))

  -- a function on the fields of a case
  case_any : (op : FieldOp) (l : List ℕ) (fs : List Field) (C : Option template.Cases) (rest : Rest) (vf : List Slot) (T : Option Tag) (vc vr : List Slot) (r : template.RecordParts)
      → Suits U P (old_record op l fs C rest vf T vc vr) (old_value op l fs C rest vf T vc vr)
      → option_and_then (λ s. option_map (λ gs. with_fields (in_case l) gs (old_record op l fs C rest vf T vc vr)) (new_fields op rest s)) (scoped (in_case l) (old_record op l fs C rest vf T vc vr)) ≡ Some r
      → CaseBecomes op l fs C rest vf T vc vr r
  case_any op l fs None rest vf T vc vr r q h = cc
  case_any op l fs (Some c) rest vf None vc vr r q h = absurd q.stand.tag
  case_any op l fs (Some c) rest vf (Some t) vc vr r q h = by (under l c.1) refl h
    where
      by : (F : Option (List Field)) → under l c.1 ≡ F
          → option_and_then (λ s. option_map (λ gs. with_fields (in_case l) gs (old_record op l fs (Some c) rest vf (Some t) vc vr)) (new_fields op rest s)) (option_map (λ ds. record { fields = ds; taken = λ n. has n fs || same_name n c.0 }) F) ≡ Some r
          → CaseBecomes op l fs (Some c) rest vf (Some t) vc vr r
      by None e k = cc
      by (Some ds) e k =
          let a = mapped (λ gs. with_fields (in_case l) gs (old_record op l fs (Some c) rest vf (Some t) vc vr)) (new_fields op rest (record { fields = ds; taken = λ n. has n fs || same_name n c.0 })) r k in
          subst (CaseBecomes op l fs (Some c) rest vf (Some t) vc vr) a.2 (case_at fs c rest vf t vc vr q op l ds a.0 a.1 e)

  -- the two functions on a choice
  choice_any : (a b : List ℕ) (fs : List Field) (C : Option template.Cases) (rest : Rest) (vf : List Slot) (T : Option Tag) (vc vr : List Slot) (r : template.RecordParts)
      → Suits U P (record { fields = fs; choice = C; rest = rest }) (record { fields = vf; tag = T; cased = vc; rest = vr })
      → option_and_then (λ c. option_map (with_cases (record { fields = fs; choice = C; rest = rest })) (retagged a b c)) C ≡ Some r
      → Becomes U P r (retag_value a b (record { fields = fs; choice = C; rest = rest }) C T (record { fields = vf; tag = T; cased = vc; rest = vr })) (with_tag a b (record { fields = fs; choice = C; rest = rest }) C (pairs_of_record (record { fields = vf; tag = T; cased = vc; rest = vr })))
  choice_any a b fs None rest vf T vc vr r q h = cc
  choice_any a b fs (Some c) rest vf None vc vr r q h = absurd q.stand.tag
  choice_any a b fs (Some c) rest vf (Some t) vc vr r q h =
      let old : template.RecordParts = record { fields = fs; choice = Some c; rest = rest } in
      let v : value.RecordParts = record { fields = vf; tag = Some t; cased = vc; rest = vr } in
      let m = mapped (with_cases old) (retagged a b c) r h in
      let s = so (has a c.1 && (not (has b c.1) && can_be_settled c.2 (fields_of_case a c))) (c.0, moved a b c.1, c.2) m.0 m.1 in
      let e = s.0 in
      subst (λ x. Becomes U P x (retag_value a b old (Some c) (Some t) v) (with_tag a b old (Some c) (pairs_of_record v))) (ap (with_cases old) s.1 ∙ m.2)
      (retag_at fs c rest vf t vc vr q a b (grind (arith, e)) (grind (arith, e)) (grind (arith, e)))

  case_more : (b : List ℕ) (gs : List Field) (fs : List Field) (C : Option template.Cases) (rest : Rest) (vf : List Slot) (T : Option Tag) (vc vr : List Slot) (r : template.RecordParts)
      → Suits U P (record { fields = fs; choice = C; rest = rest }) (record { fields = vf; tag = T; cased = vc; rest = vr })
      → option_and_then (λ c. option_map (with_cases (record { fields = fs; choice = C; rest = rest })) (with_case b gs fs c)) C ≡ Some r
      → Becomes U P r (if is_of_case b T then settle_case gs rest (record { fields = vf; tag = T; cased = vc; rest = vr }) else record { fields = vf; tag = T; cased = vc; rest = vr })
      (with_new_case b gs (record { fields = fs; choice = C; rest = rest }) C (pairs_of_record (record { fields = vf; tag = T; cased = vc; rest = vr })))
  case_more b gs fs None rest vf T vc vr r q h = cc
  case_more b gs fs (Some c) rest vf None vc vr r q h = absurd q.stand.tag
  case_more b gs fs (Some c) rest vf (Some t) vc vr r q h =
      let old : template.RecordParts = record { fields = fs; choice = Some c; rest = rest } in
      let v : value.RecordParts = record { fields = vf; tag = Some t; cased = vc; rest = vr } in
      let m = mapped (with_cases old) (with_case b gs fs c) r h in
      let s = so (not (has b c.1) && (can_be_case gs fs c && can_be_settled c.2 gs)) (c.0, put b (put_all gs []) c.1, c.2) m.0 m.1 in
      let e = s.0 in
      subst (λ x. Becomes U P x (if is_of_case b (Some t) then settle_case gs rest v else v) (with_new_case b gs old (Some c) (pairs_of_record v))) (ap (with_cases old) s.1 ∙ m.2)
      (one_case_more fs c rest vf t vc vr q b gs (grind (arith, e)) (grind (arith, e)) (grind (arith, e)))

  by_op : (op : FieldOp) (scope : Scope) (p r : template.RecordParts) (v : value.RecordParts) → Suits U P p v → new_by op scope p ≡ Some r → Becomes U P r (apply_by op scope p v) (act_by op scope p (pairs_of_record v))
  by_op (retag a b) common p r v q h = choice_any a b p.fields p.choice p.rest v.fields v.tag v.cased v.rest r q h
  by_op (retag a b) (in_case l) p r v q h = absurd (none_then (scoped (in_case l) p) r h)
  by_op (add_case b gs) common p r v q h = case_more b gs p.fields p.choice p.rest v.fields v.tag v.cased v.rest r q h
  by_op (add_case b gs) (in_case l) p r v q h = absurd (none_then (scoped (in_case l) p) r h)
  by_op op common p r v q h = common_any op p r v q h
  by_op op (in_case l) p r v q h = case_any op l p.fields p.choice p.rest v.fields v.tag v.cased v.rest r q h

  pub applied : (f : FieldFn) (p r : template.RecordParts) (v : value.RecordParts) → Suits U P p v → new_record f p ≡ Some r → Becomes U P r (apply f p v) (act f p (pairs_of_record v))
  applied f p r v q h = by_op f.op f.scope p r v q h
