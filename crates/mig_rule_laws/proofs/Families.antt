-- The family after a fix: its bodies, and what inhabits them as it is.
use Rattle.std.proofs.Common.{◌≡◌, ℕ, zero, suc, List, [], ◌∷◌, ◌++◌, Bool, true, false, true≢false, Option, Some, None, inl, inr, refl, sym, ap, ap₂, subst, ◌∙◌}
use Rattle.std.proofs.lemmas.Option.{same_Some}
use Rattle.std.proofs.lemmas.Bool.{not-false}
use Rattle.std.specs.Prelude.{◌||◌, not, map, is_some, unwrap_or, option_map, option_and_then, Result, Ok, Err, if◌then◌else◌}
use Rattle.std.specs.Option.{option_or}
use Rattle.std.specs.List.{list_any, filter}
use Rattle.mig_model.specs.declared.form.Form.{Form}
use Rattle.mig_model.specs.declared.rest.Rest.{Rest}
use Rattle.mig_model.specs.Plain.{Plain}
use Rattle.mig_model.specs.Names.{same_name, under}
use Rattle.mig_model.specs.Template.{Template, leaf, any, list, point, rec, sum, Fields, no_field, field, Choice, no_choice, choice, Cases, no_case, case}
use Rattle.mig_model.specs.Family.{Family, Flaw, find_type, body, is_named, is_unknown, any_inside, any_in_fields, any_in_choice, any_in_cases, unknown_name, any_type, IsFormed, first_flaw}
use Rattle.mig_model.specs.Inhabits.{Entries, Unknown, has_tag, Fits, FieldsFit, ChoiceFits, CasesFit, InhabitsWithin, Inhabits}
use Rattle.mig_model.proofs.Bools.{split_or}
use Rattle.mig_model.proofs.Edits.{under-filter}
use Rattle.mig_model.proofs.SameNames.{same_name_is}
use Rattle.mig_laws.proofs.Formed.{no_flaw, each_body}
use Rattle.mig_laws.proofs.Parts.{Whatever, whatever_down}
use Rattle.mig_laws.proofs.Tests.{match_map}
use Rattle.mig_laws.proofs.Inhabitants.{list_where, map_where, entries_where, RecordFits}
use Rattle.mig_schema.specs.Types.{Named}
use Rattle.mig_rule.specs.Rule as rule
use Rattle.mig_rule.specs.Rule.{Rule, Fix}
use Rattle.mig_rule.specs.Target.{Retyping, Outcome, stays, target}
use Rattle.mig_rule.specs.Fix.{names_nothing, misses, type_after, with_types, family_after, Refusal, no_name, missed, if_formed, next}

-- ---- the next family
if_formed_is : (h g : Family) (o : Option Flaw) → if_formed h o ≡ Ok g → (h ≡ g) × (o ≡ None)
if_formed_is h g None e = (cc, refl)
if_formed_is h g (Some w) e = cc

pub next_is : (x : Fix) (f g : Family) → next x f ≡ Ok g → (family_after x f ≡ g) × IsFormed (family_after x f)
next_is x f g e = by (names_nothing x f) (misses x f) e
  where
    by : (p q : Bool) → (if p then Err no_name else (if q then Err missed else if_formed (family_after x f) (first_flaw (family_after x f)))) ≡ Ok g
        → (family_after x f ≡ g) × IsFormed (family_after x f)
    by true q e = cc
    by false true e = cc
    by false false e = if_formed_is (family_after x f) g (first_flaw (family_after x f)) e

pub none_missed : (x : Fix) (f g : Family) → next x f ≡ Ok g → misses x f ≡ false
none_missed x f g e = by (names_nothing x f) (misses x f) e
  where
    by : (p q : Bool) → (if p then Err no_name else (if q then Err missed else if_formed (family_after x f) (first_flaw (family_after x f)))) ≡ Ok g → q ≡ false
    by true q e = cc
    by false true e = cc
    by false false e = refl

-- ---- what is found among named types
find_append : (m : List ℕ) (ts us : List Named) → find_type m (ts ++ us) ≡ option_or (find_type m ts) (find_type m us)
find_append m [] us = refl
find_append m (t ∷ ts) us = by (same_name m t.0) (find_append m ts us)
  where
    by : (b : Bool) → find_type m (ts ++ us) ≡ option_or (find_type m ts) (find_type m us)
        → (if b then Some t.1 else find_type m (ts ++ us)) ≡ option_or (if b then Some t.1 else find_type m ts) (find_type m us)
    by true rest = refl
    by false rest = rest

find_under : (m : List ℕ) (ts : List Named) → find_type m ts ≡ under m ts
find_under m [] = refl
find_under m (t ∷ ts) = ap (λ (o : Option Template). if same_name m t.0 then Some t.1 else o) (find_under m ts)

pub find_without : (n m : List ℕ) (ts : List Named) → find_type m (filter (λ t. not (same_name n t.0)) ts) ≡ (if not (same_name n m) then find_type m ts else None)
find_without n m ts =
    find_under m (filter (λ t. not (same_name n t.0)) ts) ∙ under-filter (λ k. not (same_name n k)) ts m
    ∙ ap (λ (o : Option Template). if not (same_name n m) then o else None) (sym (find_under m ts))

-- a type that is named is found before those that are added
pub named_stays : (m : List ℕ) (ts us : List Named) → is_some (find_type m ts) ≡ true → find_type m ts ≡ find_type m (ts ++ us)
named_stays m ts us e = by (find_type m ts) e ∙ sym (find_append m ts us)
  where
    by : (o : Option Template) → is_some o ≡ true → o ≡ option_or o (find_type m us)
    by None k = cc
    by (Some V) k = refl

pub found_either : (Q : Template → Type 0) (m : List ℕ) (ts us : List Named) → Q (unwrap_or (find_type m ts) any) → Q (unwrap_or (find_type m us) any) → Q (unwrap_or (find_type m (ts ++ us)) any)
found_either Q m ts us a b = subst (λ (o : Option Template). Q (unwrap_or o any)) (sym (find_append m ts us)) (by (find_type m ts) a)
  where
    by : (o : Option Template) → Q (unwrap_or o any) → Q (unwrap_or (option_or o (find_type m us)) any)
    by None q = b
    by (Some V) q = q

pub named_without : (n m : List ℕ) (ts : List Named) → is_some (find_type m (filter (λ t. not (same_name n t.0)) ts)) ≡ true
    → find_type m ts ≡ find_type m (filter (λ t. not (same_name n t.0)) ts)
named_without n m ts e = by (not (same_name n m)) (sym (ap is_some (find_without n m ts)) ∙ e) ∙ sym (find_without n m ts)
  where
    by : (b : Bool) → is_some (if b then find_type m ts else None) ≡ true → find_type m ts ≡ (if b then find_type m ts else None)
    by true k = refl
    by false k = cc

pub found_without : (Q : Template → Type 0) → Q any → (n m : List ℕ) (ts : List Named) → Q (unwrap_or (find_type m ts) any) → Q (unwrap_or (find_type m (filter (λ t. not (same_name n t.0)) ts)) any)
found_without Q a n m ts q = subst (λ (o : Option Template). Q (unwrap_or o any)) (sym (find_without n m ts)) (by (not (same_name n m)))
  where
    by : (b : Bool) → Q (unwrap_or (if b then find_type m ts else None) any)
    by true = q
    by false = a

-- ---- the bodies after a rule
-- a rule that fits any tree leaves it so
any_stays : (r : Rule) (n : List ℕ) (W : Template) → target r n any ≡ Some W → any ≡ W
any_stays rule.nop n W e = same_Some any W e
any_stays (rule.function f) n W e = cc
any_stays (rule.on m r) n W e = by (same_name n m) e (any_stays r n W)
  where
    by : (b : Bool) → (if b then target r n any else None) ≡ Some W → (target r n any ≡ Some W → any ≡ W) → any ≡ W
    by true e h = h e
    by false e h = cc
any_stays (rule.at x r) n W e = cc
any_stays (rule.seq r s) n W e = by (target r n any) (any_stays r n) (any_stays s n W) e
  where
    by : (o : Option Template) → ((X : Template) → o ≡ Some X → any ≡ X) → (target s n any ≡ Some W → any ≡ W) → option_and_then (target s n) o ≡ Some W → any ≡ W
    by None h g e = cc
    by (Some X) h g e = g (ap (target s n) (h X refl) ∙ e)
any_stays (rule.or_else r s) n W e = by (target r n any) (any_stays r n) (any_stays s n W) e
  where
    by : (o : Option Template) → ((X : Template) → o ≡ Some X → any ≡ X) → (target s n any ≡ Some W → any ≡ W) → option_or o (target s n any) ≡ Some W → any ≡ W
    by None h g e = g e
    by (Some X) h g e = h X refl ∙ same_Some X W e
any_stays (rule.all r) n W e = cc
any_stays (rule.everywhere r) n W e = any_stays r n W e

pub found_after : (r : Rule) (n : List ℕ) (ts : List Named) → unwrap_or (find_type n (map (type_after r) ts)) any ≡ unwrap_or (target r n (unwrap_or (find_type n ts) any)) (unwrap_or (find_type n ts) any)
found_after r n [] = by (target r n any) (any_stays r n)
  where
    by : (o : Option Template) → ((W : Template) → o ≡ Some W → any ≡ W) → any ≡ unwrap_or o any
    by None h = refl
    by (Some W) h = h W refl
found_after r n (t ∷ ts) = by (same_name n t.0) refl (found_after r n ts)
  where
    by : (b : Bool) → same_name n t.0 ≡ b
        → unwrap_or (find_type n (map (type_after r) ts)) any ≡ unwrap_or (target r n (unwrap_or (find_type n ts) any)) (unwrap_or (find_type n ts) any)
        → unwrap_or (if b then Some (unwrap_or (target r t.0 t.1) t.1) else find_type n (map (type_after r) ts)) any
        ≡ unwrap_or (target r n (unwrap_or (if b then Some t.1 else find_type n ts) any)) (unwrap_or (if b then Some t.1 else find_type n ts) any)
    by true e rest = ap (λ m. unwrap_or (target r m t.1) t.1) (sym (same_name_is n t.0 e))
    by false e rest = rest

-- ---- what inhabits a family inhabits another that has the same bodies
module _ (form : Form) (F : Family) where
  -- what is asked at points may change at the names of F, where no other name stands in the template
  abbrev Turns : (List ℕ → Plain → Type 0) → (List ℕ → Plain → Type 0) → Type 0
  Turns P Q = (n : List ℕ) (t : Plain) → is_named F n ≡ true → P n t → Q n t

  abbrev Becomes : (List ℕ → Plain → Type 0) → (List ℕ → Plain → Type 0) → Type 0
  Becomes O O' = (n : List ℕ) (t : Plain) → Whatever t → O n t → O' n t

  mutual
    fits_named : (P Q : List ℕ → Plain → Type 0) → Turns P Q → (V : Template) → any_inside (is_unknown F) V ≡ false → (t : Plain) → Fits form P V t → Fits form Q V t
    fits_named P Q w (leaf k) e t s = s
    fits_named P Q w any e t s = s
    fits_named P Q w (list V) e t s = list_where Whatever (Fits form P V) (Fits form Q V) (λ u d q. fits_named P Q w V e u q) t (whatever_down t tt) s
    fits_named P Q w (point n) e t s = w n t (not-false (is_named F n) e) s
    fits_named P Q w (rec fs c o) e t s =
        let both = split_or (any_in_fields (is_unknown F) fs) (any_in_choice (is_unknown F) c) e in
        map_where Whatever (RecordFits form P fs c o) (RecordFits form Q fs c o)
        (λ es q r. (r.0, entries_where Whatever _ _ (choice_named P Q w c both.1 (FieldsFit form P fs) (FieldsFit form Q fs) (fields_named P Q w fs both.0) o es) es q r.1)) t (whatever_down t tt) s
    fits_named P Q w (sum V W) e t s =
        let both = split_or (any_inside (is_unknown F) V) (any_inside (is_unknown F) W) e in
        elim s [ inl x ↦ inl (fits_named P Q w V both.0 t x) | inr y ↦ inr (fits_named P Q w W both.1 t y) ]

    fields_named : (P Q : List ℕ → Plain → Type 0) → Turns P Q → (fs : Fields) → any_in_fields (is_unknown F) fs ≡ false → (O O' : List ℕ → Plain → Type 0) → Becomes O O'
        → Becomes (FieldsFit form P fs O) (FieldsFit form Q fs O')
    fields_named P Q w no_field e O O' k n t d s = k n t d s
    fields_named P Q w (field x p V fs) e O O' k n t d s =
        let both = split_or (any_inside (is_unknown F) V) (any_in_fields (is_unknown F) fs) e in
        match_map (same_name n x) _ _ _ _ (fits_named P Q w V both.0 t) (fields_named P Q w fs both.1 O O' k n t d) s

    choice_named : (P Q : List ℕ → Plain → Type 0) → Turns P Q → (c : Choice) → any_in_choice (is_unknown F) c ≡ false → (C C' : (List ℕ → Plain → Type 0) → List ℕ → Plain → Type 0)
        → ((O O' : List ℕ → Plain → Type 0) → Becomes O O' → Becomes (C O) (C' O')) → (o : Rest) (es : Entries) → Becomes (ChoiceFits form P c C o es) (ChoiceFits form Q c C' o es)
    choice_named P Q w no_choice e C C' k o es n t d s = k (Unknown o) (Unknown o) (λ m u d w. w) n t d s
    choice_named P Q w (choice tag cs kept) e C C' k o es n t d s =
        match_map (same_name n tag) _ _ _ _ (λ w. w) (k (CasesFit form P tag cs o es) (CasesFit form Q tag cs o es) (cases_named P Q w tag cs e o es) n t d) s

    cases_named : (P Q : List ℕ → Plain → Type 0) → Turns P Q → (tag : List ℕ) (cs : Cases) → any_in_cases (is_unknown F) cs ≡ false → (o : Rest) (es : Entries)
        → Becomes (CasesFit form P tag cs o es) (CasesFit form Q tag cs o es)
    cases_named P Q w tag no_case e o es n t d s = s
    cases_named P Q w tag (case l fs cs) e o es n t d s =
        let both = split_or (any_in_fields (is_unknown F) fs) (any_in_cases (is_unknown F) cs) e in
        match_map (has_tag tag l es) _ _ _ _ (fields_named P Q w fs both.0 (Unknown o) (Unknown o) (λ m u d v. v) n t d) (cases_named P Q w tag cs both.1 o es n t d) s

  module _ (old new : List ℕ → Template) (same : (n : List ℕ) → is_named F n ≡ true → old n ≡ new n)
      (closed : (n : List ℕ) → is_named F n ≡ true → any_inside (is_unknown F) (old n) ≡ false) where
    pub same_within : (k : ℕ) (n : List ℕ) (t : Plain) → is_named F n ≡ true → InhabitsWithin form old k n t → InhabitsWithin form new k n t
    same_within zero n t i s = absurd s
    same_within (suc k) n t i s =
        subst (λ V. Fits form (InhabitsWithin form new k) V t) (same n i) (fits_named (InhabitsWithin form old k) (InhabitsWithin form new k) (λ m u j w. same_within k m u j w) (old n) (closed n i) t s)

-- a formed family has the names in its bodies, and its root
pub names_known : (f : Family) → IsFormed f → (n : List ℕ) → any_inside (is_unknown f) (body f n) ≡ false
names_known f e n = each_body (any_inside (is_unknown f)) f (split_or (any_type (any_inside (is_unknown f)) f) (not (is_named f f.root)) (no_flaw f e unknown_name)).0 refl n

pub root_named : (f : Family) → IsFormed f → is_named f f.root ≡ true
root_named f e = not-false (is_named f f.root) (split_or (any_type (any_inside (is_unknown f)) f) (not (is_named f f.root)) (no_flaw f e unknown_name)).1
