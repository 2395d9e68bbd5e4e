-- Records with other fields in one scope, from the parts that the code gives.
use Rattle.std.proofs.Common.{◌≡◌, ℕ, List, [], ◌∷◌, ◌++◌, Bool, false, ◌||◌, Option, Some, None, refl, sym, ap, subst, ◌∙◌, arith}
use Rattle.std.specs.Prelude.{option_map, is_some}
use Rattle.std.specs.List.{AllByRecursion, list_any}
use Rattle.std.specs.Map.{keys_of}
use Rattle.std.proofs.lemmas.List.Folds.{list_any-append}
use Rattle.std.proofs.lemmas.List.Sorted.{IsPermutation-refl}
use Rattle.mig_model.specs.Names.{Ascends, has_twice, has, without, put}
use Rattle.mig_model.specs.Template.{Field}
use Rattle.mig_model.specs.TemplateKept.{RecordKept}
use Rattle.mig_model.specs.Record.{Case, Cases, RecordParts, CasesAscend, IsRecord, IsRecordOf, IsOrderOf, IsChoiceOf, FieldsOrdered, has_twice_in, is_twice_in, is_twice_named}
use Rattle.mig_template.proofs.CaseLists.{ordered_more}
use Rattle.mig_template.proofs.Names.{keys_moved}
use Rattle.mig_template.proofs.OneOrder.{one_record}
use Rattle.mig_template.proofs.Sorted.{once_if_ascends}
use Rattle.mig_field.specs.FieldFn.{common, in_case}
use Rattle.mig_func.specs.New.{HasFields, has_clash, taken_by_rest, with_more}
use Rattle.mig_model.proofs.Edits.{ascends-without, order_all}
use Rattle.mig_func.proofs.Offers.{gone, put-without}
use Rattle.mig_func.proofs.Scopes.{case_clash}
use Rattle.std.proofs.Math.Bool.{or-false}
use Rattle.mig_model.proofs.Bools.{split_or}

-- ---- what is in order is its own order
pub order_itself : {A : Type 0} (es : List (List ℕ × A)) → Ascends es → IsOrderOf es es
order_itself es s = record { same = IsPermutation-refl es; ascend = s }

pub ordered_itself : (cs : List Case) → AllByRecursion (λ (d : Case). Ascends d.1) cs → FieldsOrdered cs cs
ordered_itself [] h = tt
ordered_itself (c ∷ cs) h = (refl, order_itself c.1 h.0, ordered_itself cs h.1)

choice_itself : (c : Option Cases) → CasesAscend c → IsChoiceOf c c
choice_itself None h = tt
choice_itself (Some c) h = (refl, (c.1, (ordered_itself c.1 h.1, order_itself c.1 h.0)), refl)

-- ---- the common fields
pub common_made : (p r : RecordParts) (es : List Field) → RecordKept p → IsRecordOf es p.choice p.rest r → HasFields common p es r
common_made p r es k h =
    (r.fields, h.fields, one_record es es p.choice p.rest r (record p { fields = r.fields }) (IsPermutation-refl es) h (record { fields = h.fields; choice = choice_itself p.choice k.0.cases; rest_is = refl }))

-- ---- one case more
last_ordered : (cs ds : List Case) (l : List ℕ) (es : List Field) → FieldsOrdered (cs ++ (l, es) ∷ []) ds → (fs : List Field) × IsOrderOf es fs
last_ordered [] [] l es h = absurd h
last_ordered [] (d ∷ ds) l es h = (d.1, h.1)
last_ordered (c ∷ cs) [] l es h = absurd h
last_ordered (c ∷ cs) (d ∷ ds) l es h = last_ordered cs ds l es h.2

pub more_ordered : (tag : List ℕ) (kept : Bool) (cs : List Case) (l : List ℕ) (es : List Field) (c : Option Cases) → IsChoiceOf (with_more tag kept cs (l, es)) c → (fs : List Field) × IsOrderOf es fs
more_ordered tag kept cs l es None h = absurd h
more_ordered tag kept cs l es (Some c) h = last_ordered cs h.1.0 l es h.1.1.0

-- the record with one case more, in order
pub more_made : (p r : RecordParts) (tag : List ℕ) (kept : Bool) (cs : List Case) (l : List ℕ) (es fs : List Field) → RecordKept p → Ascends cs → AllByRecursion (λ (d : Case). Ascends d.1) cs → has l cs ≡ false
    → IsOrderOf es fs → IsRecordOf p.fields (with_more tag kept cs (l, es)) p.rest r → r ≡ record p { choice = Some (tag, put l fs cs, kept) }
more_made p r tag kept cs l es fs k s all apart o h =
    one_record p.fields p.fields (with_more tag kept cs (l, es)) p.rest r (record p { choice = Some (tag, put l fs cs, kept) }) (IsPermutation-refl p.fields) h (record {
      fields = order_itself p.fields k.0.fields;
      choice = (refl, (cs ++ (l, fs) ∷ [], (ordered_more cs cs (l, es) (l, fs) (ordered_itself cs all) refl o, order_all cs ((l, fs) ∷ []) s refl (or-false (has l cs) ∙ apart))), refl);
      rest_is = refl;
    })

-- with one case more, names are there twice exactly where that case makes them so
pub more_twice : (fields : List Field) (tag : List ℕ) (kept : Bool) (cs : List Case) (l : List ℕ) (es : List Field) → Ascends cs → has l cs ≡ false → has_twice (tag ∷ keys_of fields) ≡ false → list_any (has_twice_in (tag ∷ keys_of fields)) cs ≡ false
    → is_twice_named fields (with_more tag kept cs (l, es)) ≡ has_twice_in (tag ∷ keys_of fields) (l, es)
more_twice fields tag kept cs l es s apart once none =
    let Q = λ (d : Case). has_twice_in (tag ∷ keys_of fields) d in
    let here : list_any Q (cs ++ (l, es) ∷ []) ≡ Q (l, es) = list_any-append Q cs ((l, es) ∷ []) ∙ (λ i. none i || or-false (Q (l, es)) i) in
    let order : IsOrderOf (cs ++ (l, es) ∷ []) (put l es cs) = order_all cs ((l, es) ∷ []) s refl (or-false (has l cs) ∙ apart) in
    let keys : has_twice (keys_of (cs ++ (l, es) ∷ [])) ≡ false = keys_moved (cs ++ (l, es) ∷ []) (put l es cs) order.same ∙ once_if_ascends (put l es cs) order.ascend in
    (λ i. once i || (here i || keys i)) ∙ or-false (Q (l, es))

-- ---- a case taken out
pub any_without : (q : Case → Bool) (l : List ℕ) (cs : List Case) → list_any q cs ≡ false → list_any q (without l cs) ≡ false
any_without q l [] h = refl
any_without q l (c ∷ cs) h = let rest = any_without q l cs in grind (arith, rest)

pub all_without : (l : List ℕ) (cs : List Case) → AllByRecursion (λ (d : Case). Ascends d.1) cs → AllByRecursion (λ (d : Case). Ascends d.1) (without l cs)
all_without l [] h = tt
all_without l (c ∷ cs) h = grind (arith, h.0, h.1, all_without l cs h.1)

-- what a record with the choice keeps of its cases
pub record CasesAre (fields : List Field) (c : Cases) : Type 0 where
  pub ascend : Ascends c.1
  pub each : AllByRecursion (λ (d : Case). Ascends d.1) c.1
  pub tag : has_twice (c.0 ∷ keys_of fields) ≡ false
  pub none : list_any (has_twice_in (c.0 ∷ keys_of fields)) c.1 ≡ false

pub cases_are : (p : RecordParts) (c : Cases) → RecordKept p → p.choice ≡ Some c → CasesAre p.fields c
cases_are p c k is = by (subst (λ (o : Option Cases). IsRecord p.fields o) is k.0)
  where
    by : IsRecord p.fields (Some c) → CasesAre p.fields c
    by h =
        let a = split_or (has_twice (c.0 ∷ keys_of p.fields)) (is_twice_in (c.0 ∷ keys_of p.fields) c.1) h.distinct in
        let b = split_or (list_any (has_twice_in (c.0 ∷ keys_of p.fields)) c.1) (has_twice (keys_of c.1)) a.1 in
        record { ascend = h.cases.0; each = h.cases.1; tag = a.0; none = b.0 }

-- ---- other fields in a case, given among the copies of the other cases
module _ (p : RecordParts) (c : Cases) (l : List ℕ) (es : List Field) (k : RecordKept p) (is : p.choice ≡ Some c) (cs : List Case) (m : List ℕ) (same : cs ≡ without l c.1) (named : m ≡ l) where
  given_is : with_more c.0 c.2 cs (m, es) ≡ with_more c.0 c.2 (without l c.1) (l, es)
  given_is = λ i. with_more c.0 c.2 (same i) (named i, es)

  pub case_made : (r : RecordParts) → IsRecordOf p.fields (with_more c.0 c.2 cs (m, es)) p.rest r → HasFields (in_case l) p es r
  case_made r h =
      let a = cases_are p c k is in
      let g : IsRecordOf p.fields (with_more c.0 c.2 (without l c.1) (l, es)) p.rest r = subst (λ o. IsRecordOf p.fields o p.rest r) given_is h in
      let o = more_ordered c.0 c.2 (without l c.1) l es r.choice g.choice in
      let made : r ≡ record p { choice = Some (c.0, put l o.0 (without l c.1), c.2) } =
      more_made p r c.0 c.2 (without l c.1) l es o.0 k (ascends-without l c.1 a.ascend) (all_without l c.1 a.each) (ap is_some (gone l c.1 a.ascend)) o.1 g in (
        o.0,
        o.1,
        made
            ∙ (λ i. record p { choice = Some (c.0, put-without l o.0 c.1 a.ascend i, c.2) })
            ∙ (λ i. record p { choice = option_map (λ d. (d.0, put l o.0 d.1, d.2)) (sym is i) }),
      )

  pub case_twice : is_twice_named p.fields (with_more c.0 c.2 cs (m, es)) ≡ has_clash (taken_by_rest p) es
  case_twice =
      let a = cases_are p c k is in
      ap (is_twice_named p.fields) given_is
      ∙ more_twice p.fields c.0 c.2 (without l c.1) l es (ascends-without l c.1 a.ascend) (ap is_some (gone l c.1 a.ascend)) a.tag (any_without (has_twice_in (c.0 ∷ keys_of p.fields)) l c.1 a.none)
      ∙ case_clash p c es is a.tag
