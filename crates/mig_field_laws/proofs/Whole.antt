-- Every function, at a map and at the map treated.
use Rattle.std.proofs.Common.{◌≡◌, ℕ, List, [], ◌∷◌, ◌++◌, Bool, true, false, Option, Some, None, refl, sym, ap, subst, ◌∙◌, arith}
use Rattle.std.specs.Prelude.{not, ◌||◌, ◌&&◌, option_map, option_and_then, unwrap_or, if◌then◌else◌}
use Rattle.std.specs.Map.{keys_of}
use Rattle.mig_model.specs.declared.form.Form.{Form}
use Rattle.mig_model.specs.declared.kind.Kind.TheVariants as K
use Rattle.mig_model.specs.declared.presence.Presence.TheVariants.{Must}
use Rattle.mig_model.specs.declared.rest.Rest.{Rest}
use Rattle.mig_model.specs.Plain as plain
use Rattle.mig_model.specs.Plain.{Plain}
use Rattle.mig_model.specs.Names.{has_twice, under, same_name, has, put, put_all, moved}
use Rattle.mig_model.specs.Fields.{is_in_choice, if_so}
use Rattle.mig_model.specs.Template.{leaf, Field}
use Rattle.mig_model.specs.Inhabits.{Entries, has_tag}
use Rattle.mig_model.proofs.Bools.{split_or}
use Rattle.mig_model.proofs.SameNames.{same_name_is, same_name_itself}
use Rattle.mig_laws.proofs.Reading.{tag_is}
use Rattle.mig_model.specs.Record as template
use Rattle.mig_model.specs.Record.{RecordParts, IsRecord, choice_of, found_case, is_twice_in}
use Rattle.mig_template.proofs.Names.{first_once}
use Rattle.mig_template.proofs.Sorted.{once_if_ascends}
use Rattle.mig_fold.proofs.Treats.{Treatment}
use Rattle.mig_field.specs.FieldFn.{Scope, common, in_case, FieldOp, retag, add_case, FieldFn}
use Rattle.mig_field.specs.NewRecord.{FieldType, scoped, with_fields, new_fields, with_cases, can_be_settled, fields_of_case, retagged, can_be_case, with_case, new_by, new_record}
use Rattle.mig_field.specs.Act.{edit, edit_case, act_by, act, settle, with_tag, with_new_case}
use Rattle.mig_model.proofs.Edits.{first, under-put, under-put_all, under-moved, among_is}
use Rattle.mig_model.proofs.Options.{some-there}
use Rattle.mig_action.proofs.Stands.{case_of}
use Rattle.mig_action.proofs.Settings.{first-none}
use Rattle.mig_action.proofs.Distinct.{apart_in, case_apart, case_ascends}
use Rattle.mig_action.proofs.Values.{so, mapped, none_then}
use Rattle.mig_field_laws.specs.Laws.{fields_in}
use Rattle.mig_field_laws.proofs.Places.{tagged, opened}
use Rattle.mig_field_laws.proofs.Scopes.{At}
use Rattle.mig_field_laws.proofs.Sums.{Weight}
use Rattle.mig_field_laws.proofs.Steps.{Idle}
use Rattle.mig_field_laws.proofs.Forms.{Formed}
use Rattle.mig_field_laws.proofs.Records.{Both, UnknownFormed, common_both, older_both, retagged_both, case_both, settled_both}

module _ (form : Form) (P : List ℕ → Plain → Type 0) (w : Bool) (h : Treatment) (weight : Weight) (limit : ℕ) (Z : Type 0) where
  abbrev pub Becomes : RecordParts → Entries → Entries → Type 0
  Becomes r es ts = (s : List ℕ) × Both form P w h weight limit Z r s es ts

  -- ---- the common fields
  common_any : (op : FieldOp) (p r : RecordParts) → IsRecord p.fields p.choice → (s : List ℕ) (es ts : Entries) → Both form P w h weight limit Z p s es ts → (w ≡ true → UnknownFormed form p s es)
      → (w ≡ true → Z → Formed form es)
      → option_map (λ gs. with_fields common gs p) (new_fields op p.rest (record { fields = p.fields; taken = λ n. is_in_choice n (choice_of p.choice) })) ≡ Some r → Idle form h op p.fields
      → Becomes r (edit op p.fields es) (edit op p.fields ts)
  common_any op p r i s es ts b unknown m e q =
      let a = mapped (λ gs. with_fields common gs p) (new_fields op p.rest (record { fields = p.fields; taken = λ n. is_in_choice n (choice_of p.choice) })) r e in
      subst (λ x. Becomes x (edit op p.fields es) (edit op p.fields ts)) a.2 (s, common_both form P w h weight limit Z p i s es ts b unknown m op a.0 a.1 q)

  -- ---- a record with a choice
  module _ (fs : List Field) (c : template.Cases) (rest : Rest) where
    abbrev p : RecordParts
    p = record { fields = fs; choice = Some c; rest = rest }

    abbrev with : List template.Case → RecordParts
    with cs = record { fields = fs; choice = Some (c.0, cs, c.2); rest = rest }

    module _ (i : IsRecord fs (Some c)) (s : List ℕ) (es ts : Entries) (b : Both form P w h weight limit Z p s es ts) (unknown : w ≡ true → UnknownFormed form p s es)
        (m : w ≡ true → Z → Formed form es) where
      -- the treated map has the same tag
      also_tag : under c.0 ts ≡ Some (plain.text s)
      also_tag = by (same_name c.0 c.0) (same_name_itself c.0) (first (under c.0 fs) (under c.0 (case_of (Some c) (tagged s)))) (b.at c.0) ∙ ap (option_map (λ t. t)) b.tag
        where
          by : (x : Bool) → x ≡ true → (D : Option FieldType) → At form P w h (opened p s) (first (if_so x (Must, leaf K.Text)) D) (under c.0 es) (under c.0 ts)
              → under c.0 ts ≡ option_map (λ t. t) (under c.0 es)
          by true k D a = a.1
          by false k D a = cc

      tag_es : (l : List ℕ) → has_tag c.0 l es ≡ same_name s l
      tag_es l = tag_is c.0 s es b.tag l

      tag_ts : (l : List ℕ) → has_tag c.0 l ts ≡ same_name s l
      tag_ts l = tag_is c.0 s ts also_tag l

      -- a tag that is no literal is kept
      kept_there : has s c.1 ≡ false → c.2 ≡ true
      kept_there none = let a = b.literal in grind (arith, none, a)

      -- ---- a function on the fields of a case
      case_at : (op : FieldOp) (l : List ℕ) (ds gs : List Field) → under l c.1 ≡ Some ds → new_fields op rest (record { fields = ds; taken = λ n. has n fs || same_name n c.0 }) ≡ Some gs
          → Idle form h op (unwrap_or (under l c.1) [])
          → Becomes (with (put l gs c.1)) (edit_case op l p (Some c) es) (edit_case op l p (Some c) ts)
      case_at op l ds gs e k q =
          subst (λ (x : Bool). Becomes (with (put l gs c.1)) (if x then edit op (unwrap_or (under l c.1) []) es else es) (edit_case op l p (Some c) ts)) (sym (tag_es l))
          (subst (λ (x : Bool). Becomes (with (put l gs c.1)) (if same_name s l then edit op (unwrap_or (under l c.1) []) es else es) (if x then edit op (unwrap_or (under l c.1) []) ts else ts))
          (sym (tag_ts l))
          (subst (λ (F : Option (List Field)). Becomes (with (put l gs c.1)) (if same_name s l then edit op (unwrap_or F []) es else es)
          (if same_name s l then edit op (unwrap_or F []) ts else ts)) (sym e) (by (same_name s l) refl)))
        where
          idle : Idle form h op ds
          idle = subst (λ (F : Option (List Field)). Idle form h op (unwrap_or F [])) e q

          by : (x : Bool) → same_name s l ≡ x → Becomes (with (put l gs c.1)) (if x then edit op ds es else es) (if x then edit op ds ts else ts)
          by true y =
              let is = same_name_is s l y in (
                s,
                subst (λ j. Both form P w h weight limit Z (with (put j gs c.1)) s (edit op ds es) (edit op ds ts)) is
                    (case_both form P w h weight limit Z fs c rest i s es ts b unknown m ds (ap (λ j. under j c.1) is ∙ e) op gs k idle),
              )
          by false y = (s, older_both form P w h weight limit Z fs c rest i s es ts b unknown m (put l gs c.1) (grind (arith, under-put l gs c.1 s, y)))

      -- ---- another literal
      module _ (a z : List ℕ) (there : has a c.1 ≡ true) (free : has z c.1 ≡ false) (settles : can_be_settled c.2 (fields_of_case a c) ≡ true) where
        now_at : (n : List ℕ) → under n (moved a z c.1) ≡ (if same_name n z then under a c.1 else (if same_name n a then None else under n c.1))
        now_at n = under-moved a z c.1 n i.cases.0

        abbrev Made : Entries → Entries → Type 0
        Made = Becomes (with (moved a z c.1))

        its_tag : same_name s a ≡ true → Made (put c.0 (plain.text z) es) (put c.0 (plain.text z) ts)
        its_tag e = (z, retagged_both form P w h weight limit Z fs c rest i s es ts b unknown m (moved a z c.1) z (grind (arith, now_at z, same_name_itself z, same_name_is s a, e)))

        kept_tag : same_name s z ≡ true → Made (settle (fields_of_case a c) p c.0 es) (settle (fields_of_case a c) p c.0 ts)
        kept_tag e =
            let is = same_name_is s z e in
            let none : has s c.1 ≡ false = ap (λ l. has l c.1) is ∙ free in
            let ds = some-there (under a c.1) there in
            let same : fields_of_case a c ≡ ds.0 = ap (λ (F : Option (List Field)). unwrap_or F []) ds.1 in
            subst (λ l. Made (settle l p c.0 es) (settle l p c.0 ts)) (sym same) (
              s,
              settled_both form P w h weight limit Z fs c rest i s es ts b unknown m none ds.0 ds.0 (moved a z c.1) (now_at s ∙ grind (arith, e, ds.1))
                  (once_if_ascends ds.0 (case_ascends p i a ds.0 ds.1)) (λ n. refl) (case_apart p i a ds.0 ds.1)
                  (let k = kept_there none in let t = sym (ap (can_be_settled c.2) same) ∙ settles in grind (arith, k, t)),
            )

        other_tag : same_name s a ≡ false → same_name s z ≡ false → Made es ts
        other_tag e k = (s, older_both form P w h weight limit Z fs c rest i s es ts b unknown m (moved a z c.1) (grind (arith, now_at s, e, k)))

        retag_at : Made (with_tag a z p (Some c) es) (with_tag a z p (Some c) ts)
        retag_at =
            subst (λ (x : Bool). Made (if x then put c.0 (plain.text z) es else (if has_tag c.0 z es then settle (fields_of_case a c) p c.0 es else es)) (with_tag a z p (Some c) ts))
            (sym (tag_es a))
            (subst (λ (x : Bool). Made (if same_name s a then put c.0 (plain.text z) es else (if x then settle (fields_of_case a c) p c.0 es else es)) (with_tag a z p (Some c) ts))
            (sym (tag_es z))
            (subst (λ (x : Bool). Made (if same_name s a then put c.0 (plain.text z) es else (if same_name s z then settle (fields_of_case a c) p c.0 es else es))
            (if x then put c.0 (plain.text z) ts else (if has_tag c.0 z ts then settle (fields_of_case a c) p c.0 ts else ts))) (sym (tag_ts a))
            (subst (λ (x : Bool). Made (if same_name s a then put c.0 (plain.text z) es else (if same_name s z then settle (fields_of_case a c) p c.0 es else es))
            (if same_name s a then put c.0 (plain.text z) ts else (if x then settle (fields_of_case a c) p c.0 ts else ts))) (sym (tag_ts z))
            (by (same_name s a) refl (same_name s z) refl))))
          where
            by : (x : Bool) → same_name s a ≡ x → (y : Bool) → same_name s z ≡ y
                → Made (if x then put c.0 (plain.text z) es else (if y then settle (fields_of_case a c) p c.0 es else es))
                (if x then put c.0 (plain.text z) ts else (if y then settle (fields_of_case a c) p c.0 ts else ts))
            by true e y k = its_tag e
            by false e true k = kept_tag k
            by false e false k = other_tag e k

      -- ---- one more case
      module _ (z : List ℕ) (ds : List Field) (free : has z c.1 ≡ false) (fits : can_be_case ds fs c ≡ true) (settles : can_be_settled c.2 ds ≡ true) where
        abbrev More : Entries → Entries → Type 0
        More = Becomes (with (put z (put_all ds []) c.1))

        apart_names : (has_twice (keys_of ds) ≡ false) × ((n : List ℕ) → has n ds ≡ true → (has n fs || same_name n c.0) ≡ false)
        apart_names =
            let once : has_twice (keys_of ds ++ c.0 ∷ keys_of fs) ≡ false = grind (arith, fits) in
            let behind : has_twice (c.0 ∷ keys_of fs) ≡ false = (split_or (has_twice (c.0 ∷ keys_of fs)) (is_twice_in (c.0 ∷ keys_of fs) c.1) i.distinct).0 in
            (first_once (keys_of ds) (c.0 ∷ keys_of fs) once, λ n k. let a = apart_in (keys_of ds) (c.0 ∷ keys_of fs) once behind n (among_is ds n ∙ k) in grind (arith, a, among_is fs n))

        new_tag : same_name s z ≡ true → More (settle ds p c.0 es) (settle ds p c.0 ts)
        new_tag e =
            let none : has s c.1 ≡ false = ap (λ l. has l c.1) (same_name_is s z e) ∙ free in (
              s,
              settled_both form P w h weight limit Z fs c rest i s es ts b unknown m none ds (put_all ds []) (put z (put_all ds []) c.1)
                  (under-put z (put_all ds []) c.1 s ∙ ap (λ (x : Bool). if x then Some (put_all ds []) else under s c.1) e) apart_names.0
                  (λ n. under-put_all ds [] n ∙ first-none (under n ds)) apart_names.1 (let k = kept_there none in grind (arith, k, settles)),
            )

        older_tag : same_name s z ≡ false → More es ts
        older_tag e = (s, older_both form P w h weight limit Z fs c rest i s es ts b unknown m (put z (put_all ds []) c.1) (grind (arith, e, under-put z (put_all ds []) c.1 s)))

        more_at : More (with_new_case z ds p (Some c) es) (with_new_case z ds p (Some c) ts)
        more_at =
            subst (λ (x : Bool). More (if x then settle ds p c.0 es else es) (with_new_case z ds p (Some c) ts)) (sym (tag_es z))
            (subst (λ (x : Bool). More (if same_name s z then settle ds p c.0 es else es) (if x then settle ds p c.0 ts else ts)) (sym (tag_ts z)) (by (same_name s z) refl))
          where
            by : (x : Bool) → same_name s z ≡ x → More (if x then settle ds p c.0 es else es) (if x then settle ds p c.0 ts else ts)
            by true e = new_tag e
            by false e = older_tag e

  -- ---- whatever the choice is
  module _ (fs : List Field) (rest : Rest) (s : List ℕ) (es ts : Entries) (m : w ≡ true → Z → Formed form es) (r : RecordParts) where
    abbrev old : Option template.Cases → RecordParts
    old C = record { fields = fs; choice = C; rest = rest }

    case_any : (op : FieldOp) (l : List ℕ) (C : Option template.Cases) → IsRecord fs C → Both form P w h weight limit Z (old C) s es ts → (w ≡ true → UnknownFormed form (old C) s es)
        → option_and_then (λ s. option_map (λ gs. with_fields (in_case l) gs (old C)) (new_fields op rest s)) (scoped (in_case l) (old C)) ≡ Some r → Idle form h op (fields_in (in_case l) (old C))
        → Becomes r (edit_case op l (old C) C es) (edit_case op l (old C) C ts)
    case_any op l None i b unknown e q = cc
    case_any op l (Some c) i b unknown e q = by (under l c.1) refl e
      where
        by : (F : Option (List Field)) → under l c.1 ≡ F
            → option_and_then (λ s. option_map (λ gs. with_fields (in_case l) gs (old (Some c))) (new_fields op rest s))
            (option_map (λ ds. record { fields = ds; taken = λ n. has n fs || same_name n c.0 }) F) ≡ Some r
            → Becomes r (edit_case op l (old (Some c)) (Some c) es) (edit_case op l (old (Some c)) (Some c) ts)
        by None k x = cc
        by (Some ds) k x =
            let a = mapped (λ gs. with_fields (in_case l) gs (old (Some c))) (new_fields op rest (record { fields = ds; taken = λ n. has n fs || same_name n c.0 })) r x in
            subst (λ y. Becomes y (edit_case op l (old (Some c)) (Some c) es) (edit_case op l (old (Some c)) (Some c) ts)) a.2 (case_at fs c rest i s es ts b unknown m op l ds a.0 k a.1 q)

    retag_any : (a z : List ℕ) (C : Option template.Cases) → IsRecord fs C → Both form P w h weight limit Z (old C) s es ts → (w ≡ true → UnknownFormed form (old C) s es)
        → option_and_then (λ c. option_map (with_cases (old C)) (retagged a z c)) C ≡ Some r
        → Becomes r (with_tag a z (old C) C es) (with_tag a z (old C) C ts)
    retag_any a z None i b unknown e = cc
    retag_any a z (Some c) i b unknown e =
        let n = mapped (with_cases (old (Some c))) (retagged a z c) r e in
        let t = so (has a c.1 && (not (has z c.1) && can_be_settled c.2 (fields_of_case a c))) (c.0, moved a z c.1, c.2) n.0 n.1 in
        let k = t.0 in
        subst (λ x. Becomes x (with_tag a z (old (Some c)) (Some c) es) (with_tag a z (old (Some c)) (Some c) ts)) (ap (with_cases (old (Some c))) t.1 ∙ n.2)
        (retag_at fs c rest i s es ts b unknown m a z (grind (arith, k)) (grind (arith, k)) (grind (arith, k)))

    more_any : (z : List ℕ) (ds : List Field) (C : Option template.Cases) → IsRecord fs C → Both form P w h weight limit Z (old C) s es ts → (w ≡ true → UnknownFormed form (old C) s es)
        → option_and_then (λ c. option_map (with_cases (old C)) (with_case z ds fs c)) C ≡ Some r
        → Becomes r (with_new_case z ds (old C) C es) (with_new_case z ds (old C) C ts)
    more_any z ds None i b unknown e = cc
    more_any z ds (Some c) i b unknown e =
        let n = mapped (with_cases (old (Some c))) (with_case z ds fs c) r e in
        let t = so (not (has z c.1) && (can_be_case ds fs c && can_be_settled c.2 ds)) (c.0, put z (put_all ds []) c.1, c.2) n.0 n.1 in
        let k = t.0 in
        subst (λ x. Becomes x (with_new_case z ds (old (Some c)) (Some c) es) (with_new_case z ds (old (Some c)) (Some c) ts)) (ap (with_cases (old (Some c))) t.1 ∙ n.2)
        (more_at fs c rest i s es ts b unknown m z ds (grind (arith, k)) (grind (arith, k)) (grind (arith, k)))

  by_op : (op : FieldOp) (scope : Scope) (p r : RecordParts) → IsRecord p.fields p.choice → (s : List ℕ) (es ts : Entries) → Both form P w h weight limit Z p s es ts
      → (w ≡ true → UnknownFormed form p s es) → (w ≡ true → Z → Formed form es) → new_by op scope p ≡ Some r → Idle form h op (fields_in scope p)
      → Becomes r (act_by op scope p es) (act_by op scope p ts)
  by_op (retag a z) common p r i s es ts b unknown m e q = retag_any p.fields p.rest s es ts m r a z p.choice i b unknown e
  by_op (retag a z) (in_case l) p r i s es ts b unknown m e q = absurd (none_then (scoped (in_case l) p) r e)
  by_op (add_case z ds) common p r i s es ts b unknown m e q = more_any p.fields p.rest s es ts m r z ds p.choice i b unknown e
  by_op (add_case z ds) (in_case l) p r i s es ts b unknown m e q = absurd (none_then (scoped (in_case l) p) r e)
  by_op op common p r i s es ts b unknown m e q = common_any op p r i s es ts b unknown m e q
  by_op op (in_case l) p r i s es ts b unknown m e q = case_any p.fields p.rest s es ts m r op l p.choice i b unknown e q

  pub acted : (f : FieldFn) (p r : RecordParts) → IsRecord p.fields p.choice → (s : List ℕ) (es ts : Entries) → Both form P w h weight limit Z p s es ts → (w ≡ true → UnknownFormed form p s es)
      → (w ≡ true → Z → Formed form es) → new_record f p ≡ Some r → Idle form h f.op (fields_in f.scope p)
      → Becomes r (act f p es) (act f p ts)
  acted f p r i s es ts b unknown m e q = by_op f.op f.scope p r i s es ts b unknown m e q
