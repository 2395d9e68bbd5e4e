-- The new record is in order at all depths, where the old one is.
use Rattle.std.proofs.Common.{◌≡◌, ℕ, List, [], ◌∷◌, Bool, true, false, Option, Some, None, refl, sym, ap, subst, ◌∙◌, arith}
use Rattle.std.specs.Prelude.{not, ◌||◌, ◌&&◌, option_map, option_and_then, is_some, if◌then◌else◌}
use Rattle.mig_model.specs.declared.kind.Kind.{Kind}
use Rattle.mig_model.specs.declared.presence.Presence.{Presence}
use Rattle.mig_model.specs.declared.presence.Presence.TheVariants.{Must, May}
use Rattle.mig_model.specs.declared.rest.Rest.{Rest}
use Rattle.mig_model.specs.declared.rest.Rest.TheVariants.{Open}
use Rattle.mig_model.specs.Fields.{is_in_choice, if_so}
use Rattle.mig_model.specs.Names.{Ascends, same_name, is_among, under, has, without, put, bring, put_all, moved, those}
use Rattle.mig_model.specs.Template.{Template, leaf, list, sum, rec, Field, Fields, fields_of, field_list, cases_of, no_choice, is_must}
use Rattle.mig_model.specs.Leaf.{LeafFn, leaf_out}
use Rattle.mig_model.specs.Record as template
use Rattle.mig_model.specs.Record.{RecordParts, IsRecord, choice_of}
use Rattle.mig_model.specs.TemplateKept.{TemplateKept, FieldsKept, ChoiceKept, CasesKept, RecordKept}
use Rattle.mig_template.proofs.Sorted.{once_if_ascends}
use Rattle.mig_template.proofs.Views.{field_list_of}
use Rattle.mig_laws.proofs.Reading.{fields_of_list}
use Rattle.mig_field.specs.FieldFn.{FieldOp, Scope, common, in_case, Fill, fill_template, rename, drop, add, learn, forget, default, maybe, map_leaf, nest, unnest, wrap, unify, retag, add_case, FieldFn}
use Rattle.mig_field.specs.NewRecord.{Scoped, FieldType, scoped, with_fields, filled, lessened, learned, leaf_after, leaf_of_both, common_kind, with_template, at_field, inner_fields, unnest_slot, new_fields, with_cases, can_be_settled, can_be_case, fields_of_case, retagged, with_case, new_by, new_record}
use Rattle.mig_field.specs.SameTemplate.{same_template}
use Rattle.mig_model.proofs.Edits.{found_in, under-itself, under_past, ascends-tail, under-those, ascends-those}
use Rattle.mig_model.proofs.Options.{some-there}
use Rattle.mig_action.proofs.Inner.{field_kept}
use Rattle.mig_action.proofs.Ops.{is-free, at-field}
use Rattle.mig_action.proofs.Distinct.{common_apart, case_apart, case_ascends}
use Rattle.mig_action.proofs.Values.{so, mapped, then_some, none_then}
use Rattle.mig_field_laws.specs.Laws.{FunctionKept}
use Rattle.mig_field_laws.proofs.Scopes.{InOrder, Refield, field_put, field_without, field_moved}
use Rattle.mig_field_laws.proofs.Nests.{field_nest, field_unnest}
use Rattle.mig_field_laws.proofs.NewRecords.{fields_in_order, new_record_is}

-- the template of each field is in order
abbrev NamesKept : List Field → Type 0
NamesKept fs = (x : List ℕ) (f : FieldType) → under x fs ≡ Some f → TemplateKept f.1

from_names : (fs : List Field) → Ascends fs → NamesKept fs → FieldsKept (fields_of fs)
from_names [] a k = tt
from_names (f ∷ fs) a k = (k f.0 f.1 (under-itself f fs), from_names fs (ascends-tail f fs a) (λ x g e. k x g (under_past f fs x g a e)))

-- ---- single fields
filled_kept : (c : Fill) (old new : FieldType) → filled c old ≡ Some new → TemplateKept old.1 → TemplateKept new.1
filled_kept c old new e k = let a = so (not (is_must old.0) && same_template old.1 (fill_template c)) (Must, old.1) new e in subst (λ (f : FieldType). TemplateKept f.1) a.1 k

lessened_kept : (old new : FieldType) → lessened old ≡ Some new → TemplateKept old.1 → TemplateKept new.1
lessened_kept old new e k = let a = so (is_must old.0) (May, old.1) new e in subst (λ (f : FieldType). TemplateKept f.1) a.1 k

with_kept : (f : Template → Option Template) → ((V W : Template) → f V ≡ Some W → TemplateKept V → TemplateKept W) → (old new : FieldType) → with_template f old ≡ Some new → TemplateKept old.1
    → TemplateKept new.1
with_kept f g old new e k = let a = mapped (λ (W : Template). (old.0, W)) (f old.1) new e in subst (λ (f : FieldType). TemplateKept f.1) a.2 (g old.1 a.0 a.1 k)

leaf_kept : (f : LeafFn) (V W : Template) → leaf_after f V ≡ Some W → TemplateKept V → TemplateKept W
leaf_kept f (leaf k) W e x = let a = mapped (λ j. leaf j) (leaf_out f k) W e in subst TemplateKept a.2 tt
leaf_kept f V W e x = cc

both_kept : (f g : LeafFn) (V W : Template) → leaf_of_both f g V ≡ Some W → TemplateKept V → TemplateKept W
both_kept f g (sum (leaf a) (leaf b)) W e x = let m = mapped (λ j. leaf j) (common_kind (leaf_out f a) (leaf_out g b)) W e in subst TemplateKept m.2 tt
both_kept f g V W e x = cc

list_kept : (V W : Template) → ◌≡◌ {A = Option Template} (Some (list V)) (Some W) → TemplateKept V → TemplateKept W
list_kept V W e x = let same : list V ≡ W = cc in subst TemplateKept same x

learned_kept : (k : Option Kind) → TemplateKept (learned k)
learned_kept None = tt
learned_kept (Some k) = tt

-- ---- the fields of a scope
module _ (s : Scoped) (i : InOrder s) (r : Rest) (old : NamesKept s.fields) where
  refield : (gs : List Field) (at : List ℕ → Bool) (F : List ℕ → Option FieldType) → Refield s gs at F → ((n : List ℕ) (f : FieldType) → F n ≡ Some f → TemplateKept f.1) → NamesKept gs
  refield gs at F e k n f there = by (at n) (sym (e.are n) ∙ there)
    where
      by : (b : Bool) → (if b then F n else under n s.fields) ≡ Some f → TemplateKept f.1
      by true q = k n f q
      by false q = old n f q

  put_kept : (x : List ℕ) (f : FieldType) → s.taken x ≡ false → TemplateKept f.1 → NamesKept (put x f s.fields)
  put_kept x f free k = refield (put x f s.fields) _ _ (field_put s i x f free) (λ n g e. let same : f ≡ g = cc in subst (λ (z : FieldType). TemplateKept z.1) same k)

  without_kept : (x : List ℕ) → has x s.fields ≡ true → NamesKept (without x s.fields)
  without_kept x there = refield (without x s.fields) _ _ (field_without s i x there) (λ n g e. cc)

  made : (b : Bool) (fs gs : List Field) → if_so b fs ≡ Some gs → (b ≡ true → NamesKept fs) → NamesKept gs
  made b fs gs e f = let a = so b fs gs e in subst NamesKept a.1 (f a.0)

  made_at : (x : List ℕ) (f : FieldType → Option FieldType) (gs : List Field) → at_field x f s.fields ≡ Some gs → ((o n : FieldType) → f o ≡ Some n → TemplateKept o.1 → TemplateKept n.1)
      → NamesKept gs
  made_at x f gs e k =
      let a = at-field x f s.fields gs e in
      subst NamesKept a.gives (put_kept x a.new (i.apart x (ap is_some a.there)) (k a.old a.new a.becomes (old x a.old a.there)))

  those_kept : (xs : List (List ℕ)) → NamesKept (those xs s.fields)
  those_kept xs n f e = by (is_among xs n) (sym (under-those xs s.fields n) ∙ e)
    where
      by : (b : Bool) → (if b then under n s.fields else None) ≡ Some f → TemplateKept f.1
      by true q = old n f q
      by false q = cc

  inner_kept : (xs : List (List ℕ)) → TemplateKept (rec (fields_of (those xs s.fields)) no_choice Open)
  inner_kept xs =
      let a : Ascends (those xs s.fields) = ascends-those xs s.fields i.ascend in (
        subst (λ (l : List Field). IsRecord l None) (sym (field_list_of (those xs s.fields))) (record { fields = a; cases = tt; distinct = once_if_ascends (those xs s.fields) a; some = refl }),
        (from_names (those xs s.fields) a (those_kept xs), tt),
      )

  pub fields_kept : (op : FieldOp) (gs : List Field) → new_fields op r s ≡ Some gs → FunctionKept op → NamesKept gs
  fields_kept (rename x y) gs e k = made _ (moved x y s.fields) gs e
      (λ b. let f = is-free s y (grind (arith, b)) in refield (moved x y s.fields) _ _ (field_moved s i x y (grind (arith, b)) f.free) (λ n f q. by n f (same_name n y) q))
    where
      by : (n : List ℕ) (f : FieldType) (b : Bool) → (if b then under x s.fields else None) ≡ Some f → TemplateKept f.1
      by n f true q = old x f q
      by n f false q = cc
  fields_kept (drop x) gs e k = made _ (without x s.fields) gs e (without_kept x)
  fields_kept (add x g) gs e k = made _ _ gs e (λ b. let f = is-free s x (grind (arith, b)) in put_kept x (Must, fill_template g) f.free k)
  fields_kept (learn x j) gs e k = made _ _ gs e (λ b. let f = is-free s x (grind (arith, b)) in put_kept x (May, learned j) f.free (learned_kept j))
  fields_kept (forget x) gs e k = made _ (without x s.fields) gs e (λ b. without_kept x (grind (arith, b)))
  fields_kept (default x g) gs e k = made_at x (filled g) gs e (filled_kept g)
  fields_kept (maybe x) gs e k = made_at x lessened gs e lessened_kept
  fields_kept (map_leaf x g) gs e k = made_at x (with_template (leaf_after g)) gs e (with_kept (leaf_after g) (leaf_kept g))
  fields_kept (wrap x) gs e k = made_at x (with_template (λ V. Some (list V))) gs e (with_kept (λ V. Some (list V)) list_kept)
  fields_kept (unify x f g) gs e k = made_at x (with_template (leaf_of_both f g)) gs e (with_kept (leaf_of_both f g) (both_kept f g))
  fields_kept (nest xs y) gs e k = made _ _ gs e (λ b. refield _ _ _ (field_nest s i xs y b) (λ n f q. by n f (same_name n y) q))
    where
      by : (n : List ℕ) (f : FieldType) (b : Bool) → (if b then Some (Must, rec (fields_of (those xs s.fields)) no_choice Open) else None) ≡ Some f → TemplateKept f.1
      by n f true q = let same : ◌≡◌ {A = FieldType} (Must, rec (fields_of (those xs s.fields)) no_choice Open) f = cc in subst (λ (z : FieldType). TemplateKept z.1) same (inner_kept xs)
      by n f false q = cc
  fields_kept (unnest y) gs e k =
      let a = then_some (λ (f : FieldType). option_and_then (unnest_slot y s f.0) (inner_fields f.1)) (under y s.fields) gs e in
      by a.0.0 a.0.1 a.1 a.2
    where
      at : (q : Presence) (gf : Fields) (p : Rest) → under y s.fields ≡ Some (q, rec gf no_choice p) → unnest_slot y s q (field_list gf) ≡ Some gs → NamesKept gs
      at q gf p there z = made _ _ gs z (λ b. refield _ _ _ (field_unnest s i y q gf p there b) (λ n f e. inside n f e))
        where
          inside : (n : List ℕ) (f : FieldType) → option_map (λ (g : FieldType). ((if is_must q then g.0 else May), g.1)) (under n (field_list gf)) ≡ Some f → TemplateKept f.1
          inside n f e =
              let a = mapped (λ (g : FieldType). ((if is_must q then g.0 else May), g.1)) (under n (field_list gf)) f e in
              subst (λ (z : FieldType). TemplateKept z.1) a.2 (field_kept (field_list gf) (subst FieldsKept (sym (fields_of_list gf)) (old y (q, rec gf no_choice p) there).1.0) n a.0 a.1)

      by : (q : Presence) (V : Template) → under y s.fields ≡ Some (q, V) → option_and_then (unnest_slot y s q) (inner_fields V) ≡ Some gs → NamesKept gs
      by q (rec gf no_choice p) there z = at q gf p there z
      by q V there z = cc
  fields_kept op gs e k = cc

-- ---- cases
case_there : (cs : List template.Case) → CasesKept (cases_of cs) → (l : List ℕ) (ds : List Field) → under l cs ≡ Some ds → FieldsKept (fields_of ds)
case_there cs k l ds e = found_in (λ cs. CasesKept (cases_of cs)) (λ n ds. FieldsKept (fields_of ds)) (λ c cs h. h) cs k l ds e

cases_put : (l : List ℕ) (gs : List Field) (cs : List template.Case) → CasesKept (cases_of cs) → FieldsKept (fields_of gs) → CasesKept (cases_of (put l gs cs))
cases_put l gs [] k g = (g, tt)
cases_put l gs (c ∷ cs) k g = grind (arith, k.0, k.1, g, cases_put l gs cs k.1 g)

cases_without : (l : List ℕ) (cs : List template.Case) → CasesKept (cases_of cs) → CasesKept (cases_of (without l cs))
cases_without l [] k = tt
cases_without l (c ∷ cs) k = grind (arith, k.0, k.1, cases_without l cs k.1)

fields_put : (x : List ℕ) (f : FieldType) (fs : List Field) → FieldsKept (fields_of fs) → TemplateKept f.1 → FieldsKept (fields_of (put x f fs))
fields_put x f [] k g = (g, tt)
fields_put x f (e ∷ fs) k g = grind (arith, k.0, k.1, g, fields_put x f fs k.1 g)

fields_put_all : (gs fs : List Field) → FieldsKept (fields_of gs) → FieldsKept (fields_of fs) → FieldsKept (fields_of (put_all gs fs))
fields_put_all [] fs k l = l
fields_put_all (g ∷ gs) fs k l = fields_put g.0 g.1 (put_all gs fs) (fields_put_all gs fs k.1 l) k.0

-- ---- every function
-- what is in order in the fields and in the choice
abbrev Deep : RecordParts → Type 0
Deep p = FieldsKept (fields_of p.fields) × ChoiceKept (choice_of p.choice)

common_deep : (op : FieldOp) (p r : RecordParts) → IsRecord p.fields p.choice → Deep p → FunctionKept op
    → option_map (λ gs. with_fields common gs p) (new_fields op p.rest (record { fields = p.fields; taken = λ n. is_in_choice n (choice_of p.choice) })) ≡ Some r → Deep r
common_deep op p r i d k e =
    let s : Scoped = record { fields = p.fields; taken = λ n. is_in_choice n (choice_of p.choice) } in
    let o : InOrder (record { fields = p.fields; taken = λ n. is_in_choice n (choice_of p.choice) }) = record { ascend = i.fields; apart = common_apart p i } in
    let a = mapped (λ gs. with_fields common gs p) (new_fields op p.rest s) r e in
    subst Deep a.2 (from_names a.0 (fields_in_order s o p.rest op a.0 a.1).ascend (fields_kept s o p.rest (field_kept p.fields d.0) op a.0 a.1 k), d.1)

case_deep : (op : FieldOp) (l : List ℕ) (fs : List Field) (C : Option template.Cases) (rest : Rest) (r : RecordParts) → IsRecord fs C → Deep (record { fields = fs; choice = C; rest = rest })
    → FunctionKept op
    → option_and_then (λ s. option_map (λ gs. with_fields (in_case l) gs (record { fields = fs; choice = C; rest = rest })) (new_fields op rest s))
    (scoped (in_case l) (record { fields = fs; choice = C; rest = rest })) ≡ Some r → Deep r
case_deep op l fs None rest r i d k e = cc
case_deep op l fs (Some c) rest r i d k e = by (under l c.1) refl e
  where
    by : (F : Option (List Field)) → under l c.1 ≡ F
        → option_and_then (λ s. option_map (λ gs. with_fields (in_case l) gs (record { fields = fs; choice = Some c; rest = rest })) (new_fields op rest s))
        (option_map (λ ds. record { fields = ds; taken = λ n. has n fs || same_name n c.0 }) F) ≡ Some r → Deep r
    by None there q = cc
    by (Some ds) there q =
        let s : Scoped = record { fields = ds; taken = λ n. has n fs || same_name n c.0 } in
        let p : RecordParts = record { fields = fs; choice = Some c; rest = rest } in
        let o : InOrder (record { fields = ds; taken = λ n. has n fs || same_name n c.0 }) = record { ascend = case_ascends p i l ds there; apart = case_apart p i l ds there } in
        let a = mapped (λ gs. with_fields (in_case l) gs (record { fields = fs; choice = Some c; rest = rest })) (new_fields op rest s) r q in
        subst Deep a.2
        (d.0, cases_put l a.0 c.1 d.1 (from_names a.0 (fields_in_order s o rest op a.0 a.1).ascend (fields_kept s o rest (field_kept ds (case_there c.1 d.1 l ds there)) op a.0 a.1 k)))

retag_deep : (a b : List ℕ) (fs : List Field) (C : Option template.Cases) (rest : Rest) (r : RecordParts) → Deep (record { fields = fs; choice = C; rest = rest })
    → option_and_then (λ c. option_map (with_cases (record { fields = fs; choice = C; rest = rest })) (retagged a b c)) C ≡ Some r → Deep r
retag_deep a b fs None rest r d e = cc
retag_deep a b fs (Some c) rest r d e =
    let old : RecordParts = record { fields = fs; choice = Some c; rest = rest } in
    let m = mapped (with_cases old) (retagged a b c) r e in
    let s = so (has a c.1 && (not (has b c.1) && can_be_settled c.2 (fields_of_case a c))) (c.0, moved a b c.1, c.2) m.0 m.1 in
    let k = s.0 in
    let ds = some-there (under a c.1) (grind (arith, k)) in
    subst Deep (ap (with_cases old) s.1 ∙ m.2) (
      d.0,
      subst (λ (F : Option (List Field)). CasesKept (cases_of (bring b F (without b (without a c.1))))) (sym ds.1)
          (cases_put b ds.0 (without b (without a c.1)) (cases_without b (without a c.1) (cases_without a c.1 d.1)) (case_there c.1 d.1 a ds.0 ds.1)),
    )

more_deep : (b : List ℕ) (ds fs : List Field) (C : Option template.Cases) (rest : Rest) (r : RecordParts) → Deep (record { fields = fs; choice = C; rest = rest }) → FieldsKept (fields_of ds)
    → option_and_then (λ c. option_map (with_cases (record { fields = fs; choice = C; rest = rest })) (with_case b ds fs c)) C ≡ Some r → Deep r
more_deep b ds fs None rest r d k e = cc
more_deep b ds fs (Some c) rest r d k e =
    let old : RecordParts = record { fields = fs; choice = Some c; rest = rest } in
    let m = mapped (with_cases old) (with_case b ds fs c) r e in
    let s = so (not (has b c.1) && (can_be_case ds fs c && can_be_settled c.2 ds)) (c.0, put b (put_all ds []) c.1, c.2) m.0 m.1 in
    subst Deep (ap (with_cases old) s.1 ∙ m.2) (d.0, cases_put b (put_all ds []) c.1 d.1 (fields_put_all ds [] k tt))

deep : (op : FieldOp) (scope : Scope) (p r : RecordParts) → IsRecord p.fields p.choice → Deep p → FunctionKept op → new_by op scope p ≡ Some r → Deep r
deep (retag a b) common p r i d k e = retag_deep a b p.fields p.choice p.rest r d e
deep (retag a b) (in_case l) p r i d k e = absurd (none_then (scoped (in_case l) p) r e)
deep (add_case b gs) common p r i d k e = more_deep b gs p.fields p.choice p.rest r d k e
deep (add_case b gs) (in_case l) p r i d k e = absurd (none_then (scoped (in_case l) p) r e)
deep op common p r i d k e = common_deep op p r i d k e
deep op (in_case l) p r i d k e = case_deep op l p.fields p.choice p.rest r i d k e

pub kept_record : (f : FieldFn) (p r : RecordParts) → new_record f p ≡ Some r → RecordKept p → FunctionKept f.op → RecordKept r
kept_record f p r e k b = (new_record_is f p r k.0 e, deep f.op f.scope p r k.0 k.1 b e)
