-- The new record after a case gets another literal, and with a new case.
use Rattle.std.proofs.Common.{◌≡◌, ℕ, List, [], ◌∷◌, ◌++◌, true, false, true≢false, Some, None, sym, ap, subst, ◌∙◌, arith}
use Rattle.std.specs.Prelude.{not, ◌&&◌, is_some, option_map, option_and_then, unwrap_or}
use Rattle.std.specs.Map.{keys_of}
use Rattle.mig_model.specs.Names.{Ascends, has_twice, under, has, without, put, put_all, bring, moved}
use Rattle.mig_model.specs.Fields.{if_so}
use Rattle.mig_model.specs.Template.{Field}
use Rattle.mig_model.specs.TemplateKept.{RecordKept}
use Rattle.mig_model.specs.Record.{Case, Cases, RecordParts, IsRecordOf, IsOrderOf, has_twice_in, is_twice_named, found_case}
use Rattle.mig_model.proofs.OneOrder.{one_order}
use Rattle.mig_field.specs.FieldFn.{common, retag, add_case}
use Rattle.mig_field.specs.NewRecord.{new_by, with_cases, can_be_settled, retagged, with_case, FieldType}
use Rattle.mig_func.specs.New.{with_more, are_clear}
use Rattle.mig_func.proofs.Tests.{any_never}
use Rattle.mig_model.proofs.Edits.{under-without, ascends-without, order_all}
use Rattle.mig_model.proofs.Options.{none-there}
use Rattle.mig_action.proofs.Distinct.{case_once, case_ascends_in}
use Rattle.mig_func.proofs.Offers.{without-none}
use Rattle.mig_func.proofs.Rebuilt.{cases_are, order_itself, more_ordered, more_made, more_twice, any_without, all_without}
use Rattle.mig_model.proofs.Rising.{nothing_ascends}
use Rattle.mig_template.proofs.Names.{first_once}

has_less : {A : Type 0} (x n : List ℕ) (es : List (List ℕ × A)) → Ascends es → has n es ≡ false → has n (without x es) ≡ false
has_less x n es s h = grind (arith, under-without x es n s)

moved_is : {A : Type 0} (x y : List ℕ) (t : A) (es : List (List ℕ × A)) → Ascends es → under x es ≡ Some t → has y es ≡ false → put y t (without x es) ≡ moved x y es
moved_is x y t es s there apart =
    sym ((λ i. bring y (there i) (without y (without x es)))
    ∙ ap (put y t) (without-none y (without x es) (ascends-without x es s) (none-there (under y (without x es)) (has_less x y es s apart))))

-- ---- another literal: the case under it is given behind the copies of the others
module _ (p : RecordParts) (c : Cases) (a b : List ℕ) (fs : List Field) (k : RecordKept p) (is : p.choice ≡ Some c) (found : found_case a p.choice ≡ Some fs) (free : found_case b p.choice ≡ None)
    (cs : List Case) (m : List ℕ) (es : List Field) (same : cs ≡ without a c.1) (named : m ≡ b) (copied : es ≡ fs) where
  retag_given : with_more c.0 c.2 cs (m, es) ≡ with_more c.0 c.2 (without a c.1) (b, fs)
  retag_given = λ i. with_more c.0 c.2 (same i) (named i, copied i)

  there : under a c.1 ≡ Some fs
  there = ap (found_case a) (sym is) ∙ found

  apart : has b c.1 ≡ false
  apart = ap is_some (ap (found_case b) (sym is) ∙ free)

  pub retag_made : can_be_settled c.2 fs ≡ true → (r : RecordParts) → IsRecordOf p.fields (with_more c.0 c.2 cs (m, es)) p.rest r → new_by (retag a b) common p ≡ Some r
  retag_made settles r h =
      let A = cases_are p c k is in
      let s = ascends-without a c.1 A.ascend in
      let o = order_itself fs (case_ascends_in c.1 A.each a fs there) in
      let made : r ≡ record p { choice = Some (c.0, put b fs (without a c.1), c.2) } =
      more_made p r c.0 c.2 (without a c.1) b fs fs k s (all_without a c.1 A.each) (has_less a b c.1 A.ascend apart) o (subst (λ o'. IsRecordOf p.fields o' p.rest r) retag_given h) in
      ap (option_and_then (λ d. option_map (with_cases p) (retagged a b d))) is
      ∙ (λ i. option_map (with_cases p) (if_so (is_some (there i) && (not (apart i) && can_be_settled c.2 (unwrap_or (there i) []))) (c.0, moved a b c.1, c.2)))
      ∙ ap (λ s. option_map (with_cases p) (if_so s (c.0, moved a b c.1, c.2))) settles
      ∙ sym (ap (λ q. Some q) (made ∙ (λ i. record p { choice = Some (c.0, moved_is a b fs c.1 A.ascend there apart i, c.2) })))

  pub retag_never : is_twice_named p.fields (with_more c.0 c.2 cs (m, es)) ≡ true → ⊥
  retag_never h =
      let A = cases_are p c k is in
      let e = more_twice p.fields c.0 c.2 (without a c.1) b fs (ascends-without a c.1 A.ascend) (has_less a b c.1 A.ascend apart) A.tag (any_without (has_twice_in (c.0 ∷ keys_of p.fields)) a c.1 A.none) in
      true≢false (sym h ∙ ap (is_twice_named p.fields) retag_given ∙ e ∙ case_once (c.0 ∷ keys_of p.fields) c.1 A.none a fs there)

-- ---- a new case, given behind the copies of the others
module _ (p : RecordParts) (c : Cases) (b : List ℕ) (fs : List Field) (k : RecordKept p) (is : p.choice ≡ Some c) (free : found_case b p.choice ≡ None)
    (cs : List Case) (m : List ℕ) (es : List Field) (same : cs ≡ c.1) (named : m ≡ b) (copied : es ≡ fs) where
  new_given : with_more c.0 c.2 cs (m, es) ≡ with_more c.0 c.2 c.1 (b, fs)
  new_given = λ i. with_more c.0 c.2 (same i) (named i, copied i)

  none : has b c.1 ≡ false
  none = ap is_some (ap (found_case b) (sym is) ∙ free)

  twice_is : is_twice_named p.fields (with_more c.0 c.2 cs (m, es)) ≡ has_twice_in (c.0 ∷ keys_of p.fields) (b, fs)
  twice_is = let A = cases_are p c k is in ap (is_twice_named p.fields) new_given ∙ more_twice p.fields c.0 c.2 c.1 b fs A.ascend none A.tag A.none

  pub new_case_made : can_be_settled c.2 fs ≡ true → are_clear fs ≡ true → (r : RecordParts) → IsRecordOf p.fields (with_more c.0 c.2 cs (m, es)) p.rest r → is_twice_named p.fields (with_more c.0 c.2 cs (m, es)) ≡ false
      → new_by (add_case b fs) common p ≡ Some r
  new_case_made settles clear r h good =
      let A = cases_are p c k is in
      let g : IsRecordOf p.fields (with_more c.0 c.2 c.1 (b, fs)) p.rest r = subst (λ o. IsRecordOf p.fields o p.rest r) new_given h in
      let once : has_twice (keys_of fs ++ c.0 ∷ keys_of p.fields) ≡ false = sym twice_is ∙ good in
      let l = more_ordered c.0 c.2 c.1 b fs r.choice g.choice in
      let o : IsOrderOf fs (put_all fs []) = order_all [] fs (nothing_ascends FieldType) (first_once (keys_of fs) (c.0 ∷ keys_of p.fields) once) (any_never (keys_of fs)) in
      let one : l.0 ≡ put_all fs [] = one_order fs l.0 (put_all fs []) l.1.same o.same l.1.ascend o.ascend in
      let made : r ≡ record p { choice = Some (c.0, put b l.0 c.1, c.2) } = more_made p r c.0 c.2 c.1 b fs l.0 k A.ascend A.each none l.1 g in
      ap (option_and_then (λ d. option_map (with_cases p) (with_case b fs p.fields d))) is
      ∙ (λ i. option_map (with_cases p) (if_so (not (none i) && ((not (once i) && clear i) && settles i)) (c.0, put b (put_all fs []) c.1, c.2)))
      ∙ sym (ap (λ q. Some q) (made ∙ (λ i. record p { choice = Some (c.0, put b (one i) c.1, c.2) })))

  pub new_case_twice : is_twice_named p.fields (with_more c.0 c.2 cs (m, es)) ≡ true → new_by (add_case b fs) common p ≡ None
  new_case_twice clash =
      let twice : has_twice (keys_of fs ++ c.0 ∷ keys_of p.fields) ≡ true = sym twice_is ∙ clash in
      ap (option_and_then (λ d. option_map (with_cases p) (with_case b fs p.fields d))) is
      ∙ (λ i. option_map (with_cases p) (if_so (not (none i) && ((not (twice i) && are_clear fs) && can_be_settled c.2 fs)) (c.0, put b (put_all fs []) c.1, c.2)))
