-- The parts of a record value after a function are those that its law speaks of.
use Rattle.std.proofs.Common.{◌≡◌, ℕ, List, [], true, false, true≢false, Option, Some, None, refl, sym, ap, subst, ◌∙◌, arith}
use Rattle.std.specs.Prelude.{not, ◌||◌, ◌&&◌, is_some, option_map, option_and_then, unwrap_or, if◌then◌else◌}
use Rattle.mig_model.specs.Template.{Field}
use Rattle.mig_model.specs.Record as template
use Rattle.mig_model.specs.Record.{choice_of, found_case}
use Rattle.mig_value.specs.Typed.{Tag}
use Rattle.mig_value.specs.Parts as value
use Rattle.mig_value.specs.Parts.{IsRecordValue}
use Rattle.std.specs.Map.{keys_of}
use Rattle.mig_model.specs.Fields.{is_in_choice, if_so}
use Rattle.mig_model.specs.Names.{has_twice, under, has, moved, same_name}
use Rattle.mig_func.specs.New.{is_about_cases}
use Rattle.mig_func.specs.Settled.{retagged_value, cased_value}
use Rattle.mig_field.specs.FieldFn.{Scope, common, in_case, FieldOp, map_leaf, unnest, unify, retag, add_case}
use Rattle.mig_field.specs.NewRecord.{Scoped, is_tag, scoped, with_fields, with_cases, new_fields, fields_of_case, can_be_settled, retagged, new_by}
use Rattle.mig_model.specs.TemplateKept as template_kept
use Rattle.mig_value.specs.Kept as value_kept
use Rattle.mig_value.specs.Fit.{Shape}
use Rattle.mig_action.proofs.Laws.{parts_stay}
use Rattle.mig_model.proofs.Options.{some-there}
use Rattle.mig_action.specs.Moves.{Moving, is_of_case, settle_case, retag_value, apply_by}
use Rattle.mig_action.proofs.Counts.{new_names}
use Rattle.mig_action.specs.Laws.{Applies}
use Rattle.mig_action.proofs.Stands.{Stands, RecordStands, fits_stand, case_of}
use Rattle.mig_action.proofs.Values.{mapped, then_some}
use Rattle.mig_func.specs.Ready.{IsReady, in_common, in_cased, common_after, cased_after}
use Rattle.mig_func.proofs.Ready.{Whatever, Anything, ready}
use Rattle.mig_model.proofs.SameNames.{same_name_is}

-- ---- a function on the common fields
pub common_is : (op : FieldOp) (p : template.RecordParts) (v : value.RecordParts) → is_about_cases op ≡ false → common_after op p.fields v ≡ apply_by op common p v
common_is (retag a b) p v h = absurd (true≢false h)
common_is (add_case b fs) p v h = absurd (true≢false h)
common_is op p v h = refl

abbrev common_scope : template.RecordParts → Scoped
common_scope p = record { fields = p.fields; taken = λ n. is_in_choice n (choice_of p.choice) }

any_ready : (op : FieldOp) (p r : template.RecordParts) (v : value.RecordParts) → RecordStands Whatever Anything p v → option_map (λ gs. with_fields common gs p) (new_fields op p.rest (common_scope p)) ≡ Some r → IsReady op p.fields (in_common v)
any_ready op p r v s h =
    let m = mapped (λ gs. with_fields common gs p) (new_fields op p.rest (common_scope p)) r h in
    ready (common_scope p) (in_common v) s.fields op m.0 p.rest m.1

pub common_ready : (op : FieldOp) (p r : template.RecordParts) (v : value.RecordParts) → RecordStands Whatever Anything p v → new_by op common p ≡ Some r → IsReady op p.fields (in_common v)
common_ready (map_leaf x f) p r v s h = any_ready (map_leaf x f) p r v s h
common_ready (unnest y) p r v s h = any_ready (unnest y) p r v s h
common_ready (unify x f g) p r v s h = any_ready (unify x f g) p r v s h
common_ready op p r v s h = tt

-- ---- a function on the fields of a case
no_retag : {A : Type 0} (o : Option A) (r : template.RecordParts) → option_and_then (λ s. None) o ≡ Some r → ⊥
no_retag o r h = grind arith

abbrev case_fields : List ℕ → template.RecordParts → List Field
case_fields l p = unwrap_or (found_case l p.choice) []

pub case_is : (op : FieldOp) (l : List ℕ) (p r : template.RecordParts) (v : value.RecordParts) → new_by op (in_case l) p ≡ Some r → (if is_of_case l v.tag then cased_after op (case_fields l p) v else v) ≡ apply_by op (in_case l) p v
case_is (retag a b) l p r v h = absurd (no_retag (scoped (in_case l) p) r h)
case_is (add_case b fs) l p r v h = absurd (no_retag (scoped (in_case l) p) r h)
case_is op l p r v h = refl

any_case_ready : (op : FieldOp) (l : List ℕ) (p r : template.RecordParts) (v : value.RecordParts) → RecordStands Whatever Anything p v → is_of_case l v.tag ≡ true
    → option_and_then (λ s. option_map (λ gs. with_fields (in_case l) gs p) (new_fields op p.rest s)) (scoped (in_case l) p) ≡ Some r → IsReady op (case_fields l p) (in_cased v)
any_case_ready op l p r v s t h =
    let a = then_some (λ s. option_map (λ gs. with_fields (in_case l) gs p) (new_fields op p.rest s)) (scoped (in_case l) p) r h in
    let b = mapped (λ (ds : List Field). record { fields = ds; taken = λ n. has n p.fields || is_tag n p.choice }) (found_case l p.choice) a.0 a.1 in
    by v.tag t s.cased a.0 b.0 b.1 b.2 (mapped (λ gs. with_fields (in_case l) gs p) (new_fields op p.rest a.0) r a.2)
  where
    by : (T : Option Tag) → is_of_case l T ≡ true → ((n : List ℕ) → Stands Whatever Anything (under n (case_of p.choice T)) (under n v.cased))
        → (c : Scoped) (ds : List Field) → found_case l p.choice ≡ Some ds → ◌≡◌ {A = Scoped} (record { fields = ds; taken = λ n. has n p.fields || is_tag n p.choice }) c
        → (gs : List Field) × (new_fields op p.rest c ≡ Some gs) × (with_fields (in_case l) gs p ≡ r) → IsReady op (case_fields l p) (in_cased v)
    by None k f c ds e is m = absurd (true≢false (sym k))
    by (Some t) k f c ds e is m =
        let same : ds ≡ case_fields l p = sym (ap (λ (F : Option (List Field)). unwrap_or F []) e) in
        let at : case_of p.choice (Some t) ≡ ds = ap (λ j. unwrap_or (found_case j p.choice) []) (same_name_is t.1 l k) ∙ sym same in
        let d : Scoped = record { fields = ds; taken = λ n. has n p.fields || is_tag n p.choice } in
        subst (λ fs. IsReady op fs (in_cased v)) same
        (ready d (in_cased v) (λ n. subst (λ fs. Stands Whatever Anything (under n fs) (under n v.cased)) at (f n)) op m.0 p.rest (ap (new_fields op p.rest) is ∙ m.1))

pub case_ready : (op : FieldOp) (l : List ℕ) (p r : template.RecordParts) (v : value.RecordParts) → RecordStands Whatever Anything p v → is_of_case l v.tag ≡ true → new_by op (in_case l) p ≡ Some r → IsReady op (case_fields l p) (in_cased v)
case_ready (map_leaf x f) l p r v s t h = any_case_ready (map_leaf x f) l p r v s t h
case_ready (unnest y) l p r v s t h = any_case_ready (unnest y) l p r v s t h
case_ready (unify x f g) l p r v s t h = any_case_ready (unify x f g) l p r v s t h
case_ready op l p r v s t h = tt

-- ---- what the code needs, and what it has made
pub record Known (op : FieldOp) (s : Scope) (p : template.RecordParts) (v : value.RecordParts) : Type 0 where
  pub fits : is_some (new_by op s p) ≡ true
  pub record_kept : template_kept.RecordKept p
  pub value_kept : value_kept.RecordValueKept v
  pub shape : Shape (template.record_of p) (value.record_of v)

applies : (op : FieldOp) (s : Scope) (p : template.RecordParts) (v : value.RecordParts) → Known op s p v → (r : template.RecordParts) × Applies (record { scope = s; op = op }) p r v
applies op s p v k =
    let r = some-there (new_by op s p) k.fits in
    (r.0, record { fits = r.1; record_kept = k.record_kept; value_kept = k.value_kept; shape = k.shape })

pub record Facts (op : FieldOp) (s : Scope) (p : template.RecordParts) (v : value.RecordParts) (fs : List Field) (m : Moving) (after : value.RecordParts) : Type 0 where
  pub ready : IsReady op fs m
  pub parts : IsRecordValue after
  pub same : after ≡ apply_by op s p v

common_at : (op : FieldOp) (p : template.RecordParts) (v : value.RecordParts) → is_about_cases op ≡ false → Known op common p v → Facts op common p v p.fields (in_common v) (common_after op p.fields v)
common_at op p v about k =
    let a = applies op common p v k in
    record {
      ready = common_ready op p a.0 v (fits_stand Whatever Anything p v k.shape) a.1.fits;
      parts = subst IsRecordValue (sym (common_is op p v about)) (parts_stay (record { scope = common; op = op }) p a.0 v a.1);
      same = common_is op p v about;
    }

pub common_facts : (op : FieldOp) (p : template.RecordParts) (v : value.RecordParts) (fs : List Field) → is_about_cases op ≡ false → fs ≡ p.fields → Known op common p v → Facts op common p v fs (in_common v) (common_after op fs v)
common_facts op p v fs about f k = subst (λ l. Facts op common p v l (in_common v) (common_after op l v)) (sym f) (common_at op p v about k)

-- ---- a function on the cases
-- the case that gets another literal has these fields
retagged_is : (a b : List ℕ) (p : template.RecordParts) (v : value.RecordParts) (fs : List Field) (C : Option template.Cases) (T : Option Tag) → Some fs ≡ found_case a C
    → (if is_of_case a T then record v { tag = option_map (λ t. (t.0, b)) T } else (if is_of_case b T then settle_case fs p.rest v else v)) ≡ retag_value a b p C T v
retagged_is a b p v fs None T e = cc
retagged_is a b p v fs (Some c) None e = refl
retagged_is a b p v fs (Some c) (Some t) e =
    ap (λ (F : Option (List Field)). if same_name t.1 a then record v { tag = Some (t.0, b) } else (if same_name t.1 b then settle_case (unwrap_or F []) p.rest v else v)) e

pub record ChoiceFacts (op : FieldOp) (p : template.RecordParts) (v after : value.RecordParts) : Type 0 where
  pub parts : IsRecordValue after
  pub same : after ≡ apply_by op common p v

choice_at : (op : FieldOp) (p : template.RecordParts) (v after : value.RecordParts) → Known op common p v → after ≡ apply_by op common p v → ChoiceFacts op p v after
choice_at op p v after k e =
    let a = applies op common p v k in
    record { parts = subst IsRecordValue (sym e) (parts_stay (record { scope = common; op = op }) p a.0 v a.1); same = e }

pub retag_facts : (op : FieldOp) (a b : List ℕ) (p : template.RecordParts) (v : value.RecordParts) (fs : List Field) → op ≡ retag a b → Some fs ≡ found_case a p.choice → Known op common p v → ChoiceFacts op p v (retagged_value a b fs p.rest v)
retag_facts op a b p v fs is e k = choice_at op p v (retagged_value a b fs p.rest v) k (retagged_is a b p v fs p.choice v.tag e ∙ ap (λ o. apply_by o common p v) (sym is))

-- the case is there
pub retag_there : (op : FieldOp) (a b : List ℕ) (p : template.RecordParts) (v : value.RecordParts) → op ≡ retag a b → None ≡ found_case a p.choice → Known op common p v → ⊥
retag_there op a b p v is e k = by p.choice e (ap (λ o. is_some (new_by o common p)) (sym is) ∙ k.fits)
  where
    by : (C : Option template.Cases) → None ≡ found_case a C → is_some (option_and_then (λ c. option_map (with_cases p) (retagged a b c)) C) ≡ true → ⊥
    by None e h = true≢false (sym h)
    by (Some c) e h = let none = ap is_some (sym e) in true≢false (sym h ∙ ap (λ x. is_some (option_map (with_cases p) (if_so (x && (not (has b c.1) && can_be_settled c.2 (fields_of_case a c))) (c.0, moved a b c.1, c.2)))) none)

pub new_case_facts : (op : FieldOp) (l : List ℕ) (p : template.RecordParts) (v : value.RecordParts) (fs : List Field) → op ≡ add_case l fs → Known op common p v → ChoiceFacts op p v (cased_value l fs p.rest v)
new_case_facts op l p v fs is k = choice_at op p v (cased_value l fs p.rest v) k (ap (λ o. apply_by o common p v) (sym is))

-- its fields are distinct
pub new_case_once : (op : FieldOp) (l : List ℕ) (p : template.RecordParts) (v : value.RecordParts) (fs : List Field) → op ≡ add_case l fs → Known op common p v → has_twice (keys_of fs) ≡ false
new_case_once op l p v fs is k =
    let r = some-there (new_by (add_case l fs) common p) (ap (λ o. is_some (new_by o common p)) (sym is) ∙ k.fits) in
    new_names (λ n. false) l fs p r.0 r.1

cased_at : (op : FieldOp) (l : List ℕ) (p : template.RecordParts) (v : value.RecordParts) → is_of_case l v.tag ≡ true → Known op (in_case l) p v → Facts op (in_case l) p v (case_fields l p) (in_cased v) (cased_after op (case_fields l p) v)
cased_at op l p v t k =
    let a = applies op (in_case l) p v k in
    let is : cased_after op (case_fields l p) v ≡ apply_by op (in_case l) p v =
    sym (ap (λ b. if b then cased_after op (case_fields l p) v else v) t) ∙ case_is op l p a.0 v a.1.fits in
    record {
      ready = case_ready op l p a.0 v (fits_stand Whatever Anything p v k.shape) t a.1.fits;
      parts = subst IsRecordValue (sym is) (parts_stay (record { scope = in_case l; op = op }) p a.0 v a.1);
      same = is;
    }

pub cased_facts : (op : FieldOp) (s : Scope) (l : List ℕ) (p : template.RecordParts) (v : value.RecordParts) (fs : List Field) → s ≡ in_case l → is_of_case l v.tag ≡ true → Some fs ≡ found_case l p.choice → Known op s p v
    → Facts op s p v fs (in_cased v) (cased_after op fs v)
cased_facts op s l p v fs e t f k =
    subst (λ z. Facts op z p v fs (in_cased v) (cased_after op fs v)) (sym e)
    (subst (λ ds. Facts op (in_case l) p v ds (in_cased v) (cased_after op ds v)) (sym (ap (λ (F : Option (List Field)). unwrap_or F []) f))
    (cased_at op l p v t (subst (λ z. Known op z p v) e k)))

-- a record of another case stays
pub other_case : (op : FieldOp) (s : Scope) (l : List ℕ) (p : template.RecordParts) (v : value.RecordParts) → s ≡ in_case l → is_of_case l v.tag ≡ false → Known op s p v → v ≡ apply_by op s p v
other_case op s l p v e t k =
    let a = applies op (in_case l) p v (subst (λ z. Known op z p v) e k) in
    sym (ap (λ b. if b then cased_after op (case_fields l p) v else v) t) ∙ (case_is op l p a.0 v a.1.fits ∙ ap (λ z. apply_by op z p v) (sym e))

none_some : {A B : Type 0} (f : A → Option B) (o : Option A) → o ≡ None → is_some (option_and_then f o) ≡ true → ⊥
none_some f o e h = true≢false (sym h ∙ ap (λ z. is_some (option_and_then f z)) e)

no_scope : (l : List ℕ) (p : template.RecordParts) → found_case l p.choice ≡ None → scoped (in_case l) p ≡ None
no_scope l p e = ap (option_map (λ (ds : List Field). record { fields = ds; taken = λ n. has n p.fields || is_tag n p.choice })) e

no_case_at : (op : FieldOp) (l : List ℕ) (p : template.RecordParts) → scoped (in_case l) p ≡ None → is_some (new_by op (in_case l) p) ≡ true → ⊥
no_case_at (retag a b) l p e h = none_some _ (scoped (in_case l) p) e h
no_case_at (add_case b fs) l p e h = none_some _ (scoped (in_case l) p) e h
no_case_at op l p e h = none_some _ (scoped (in_case l) p) e h

-- the case is there
pub case_there : (op : FieldOp) (s : Scope) (l : List ℕ) (p : template.RecordParts) (v : value.RecordParts) → s ≡ in_case l → None ≡ found_case l p.choice → Known op s p v → ⊥
case_there op s l p v e n k = no_case_at op l p (no_scope l p (sym n)) (subst (λ z. is_some (new_by op z p) ≡ true) e k.fits)
