-- Inhabitants: no way down has more points than the tree has levels, so the number of points that are allowed plays no part.
use Rattle.std.proofs.Common.{◌≡◌, ◌↔◌, ◌⊎◌, inl, inr, subst, ℕ, zero, suc, ◌≤◌, ◌<◌, arith, List, [], ◌∷◌, true, IsTrue}
use Rattle.mig_model.specs.declared.form.Form.{Form}
use Rattle.mig_model.specs.declared.rest.Rest.{Rest}
use Rattle.mig_model.specs.Plain as plain
use Rattle.mig_model.specs.Plain.{Plain, items, entries}
use Rattle.mig_model.specs.Template.{Template, leaf, any, list, point, rec, sum, Fields, no_field, field, Choice, no_choice, choice, Cases, no_case, case}
use Rattle.mig_model.specs.Names.{same_name}
use Rattle.mig_model.specs.Inhabits.{Entries, EachItem, IsListOf, EachEntry, IsMapOf, has_tag, is_complete, Unknown, Fits, FieldsFit, ChoiceFits, CasesFit, depth, InhabitsWithin, Inhabits}
use Rattle.mig_laws.specs.Sides.{is_guarded}
use Rattle.mig_laws.proofs.Tests.{match_map}
use Rattle.mig_laws.proofs.Parts.{PartsHave, PassesDown, Near, near, at_point, at_sides, Whatever, whatever_down, depth_down, near_below}

module _ (R : Plain → Type 0) where
  pub items_where : (A B : Plain → Type 0) → ((t : Plain) → R t → A t → B t) → (ts : List Plain) → EachItem R ts → EachItem A ts → EachItem B ts
  items_where A B f [] r s = tt
  items_where A B f (t ∷ ts) r s = (f t r.0 s.0, items_where A B f ts r.1 s.1)

  pub entries_where : (A B : List ℕ → Plain → Type 0) → ((n : List ℕ) (t : Plain) → R t → A n t → B n t) → (es : Entries) → EachEntry (λ n. R) es → EachEntry A es → EachEntry B es
  entries_where A B f [] r s = tt
  entries_where A B f (e ∷ es) r s = (f e.0 e.1 r.0 s.0, entries_where A B f es r.1 s.1)

  pub list_where : (A B : Plain → Type 0) → ((t : Plain) → R t → A t → B t) → (t : Plain) → PartsHave R t → IsListOf A t → IsListOf B t
  list_where A B f (plain.list ts) r s = items_where A B f (items ts) r s
  list_where A B f t r s = absurd s

  pub map_where : (A B : Entries → Type 0) → ((es : Entries) → EachEntry (λ n. R) es → A es → B es) → (t : Plain) → PartsHave R t → IsMapOf A t → IsMapOf B t
  map_where A B f (plain.map ps) r s = f (entries ps) r s
  map_where A B f t r s = absurd s

-- what a record says of a map's pairs
abbrev pub RecordFits : Form → (List ℕ → Plain → Type 0) → Fields → Choice → Rest → Entries → Type 0
RecordFits form P fs c o es = IsTrue (is_complete fs c es) × EachEntry (ChoiceFits form P c (FieldsFit form P fs) o es) es

-- where the trees in hand have a property that passes down, what holds at points may be weakened by it
module _ (form : Form) (R : Plain → Type 0) (down : PassesDown R) where
  abbrev pub Weakens : (List ℕ → Plain → Type 0) → (List ℕ → Plain → Type 0) → Type 0
  Weakens P Q = (n : List ℕ) (t : Plain) → R t → P n t → Q n t

  mutual
    pub fits_where : (P Q : List ℕ → Plain → Type 0) → Weakens P Q → (V : Template) (t : Plain) → Near R V t → Fits form P V t → Fits form Q V t
    fits_where P Q f (leaf k) t r s = s
    fits_where P Q f any t r s = s
    fits_where P Q f (list V) t r s = list_where R (Fits form P V) (Fits form Q V) (λ u q. fits_where P Q f V u (near R down V u q)) t r.parts s
    fits_where P Q f (point n) t r s = f n t (at_point R n t r) s
    fits_where P Q f (rec fs c o) t r s =
        map_where R (RecordFits form P fs c o) (RecordFits form Q fs c o) (λ es q both. (both.0, entries_where R _ _ (choice_where P Q f c (FieldsFit form P fs) (FieldsFit form Q fs) (fields_where P Q f fs) o es) es q both.1)) t r.parts s
    fits_where P Q f (sum V W) t r s =
        let both = at_sides R V W t r in
        elim s [ inl x ↦ inl (fits_where P Q f V t both.0 x) | inr y ↦ inr (fits_where P Q f W t both.1 y) ]

    fields_where : (P Q : List ℕ → Plain → Type 0) → Weakens P Q → (fs : Fields) (O O' : List ℕ → Plain → Type 0) → Weakens O O' → Weakens (FieldsFit form P fs O) (FieldsFit form Q fs O')
    fields_where P Q f no_field O O' o n t r s = o n t r s
    fields_where P Q f (field x p V fs) O O' o n t r s = match_map (same_name n x) _ _ _ _ (fits_where P Q f V t (near R down V t r)) (fields_where P Q f fs O O' o n t r) s

    choice_where : (P Q : List ℕ → Plain → Type 0) → Weakens P Q → (c : Choice) (C C' : (List ℕ → Plain → Type 0) → List ℕ → Plain → Type 0)
        → ((O O' : List ℕ → Plain → Type 0) → Weakens O O' → Weakens (C O) (C' O')) → (o : Rest) (es : Entries) → Weakens (ChoiceFits form P c C o es) (ChoiceFits form Q c C' o es)
    choice_where P Q f no_choice C C' g o es n t r s = g (Unknown o) (Unknown o) (λ m u _ w. w) n t r s
    choice_where P Q f (choice tag cs kept) C C' g o es n t r s = match_map (same_name n tag) _ _ _ _ (λ w. w) (g (CasesFit form P tag cs o es) (CasesFit form Q tag cs o es) (cases_where P Q f tag cs o es) n t r) s

    cases_where : (P Q : List ℕ → Plain → Type 0) → Weakens P Q → (tag : List ℕ) (cs : Cases) (o : Rest) (es : Entries) → Weakens (CasesFit form P tag cs o es) (CasesFit form Q tag cs o es)
    cases_where P Q f tag no_case o es n t r s = s
    cases_where P Q f tag (case l fs cs) o es n t r s =
        match_map (has_tag tag l es) _ _ _ _ (fields_where P Q f fs (Unknown o) (Unknown o) (λ m u _ w. w) n t r) (cases_where P Q f tag cs o es n t r) s

inhabits_more : (form : Form) (body : List ℕ → Template) (k : ℕ) (n : List ℕ) (t : Plain) → InhabitsWithin form body k n t → InhabitsWithin form body (suc k) n t
inhabits_more form body zero n t s = absurd s
inhabits_more form body (suc k) n t s = fits_where form Whatever whatever_down (InhabitsWithin form body k) (InhabitsWithin form body (suc k)) (λ m u _ w. inhabits_more form body k m u w) (body n) t (near Whatever whatever_down (body n) t tt) s

pub within_or_at : (j k : ℕ) → j ≤ suc k → (j ≤ k) ⊎ (j ≡ suc k)
within_or_at j k le = grind arith

-- more points may stand on each way down
pub inhabits_up : (form : Form) (body : List ℕ → Template) (j k : ℕ) → j ≤ k → (n : List ℕ) (t : Plain) → InhabitsWithin form body j n t → InhabitsWithin form body k n t
inhabits_up form body j zero le n t s = let e : j ≡ 0 = omega arith in subst (λ i. InhabitsWithin form body i n t) e s
inhabits_up form body j (suc k) le n t s =
    elim (within_or_at j k le) [ inl lt ↦ inhabits_more form body k n t (inhabits_up form body j k lt n t s) | inr e ↦ subst (λ i. InhabitsWithin form body i n t) e s ]

module _ (form : Form) (body : List ℕ → Template) (guarded : (n : List ℕ) → is_guarded (body n) ≡ true) where
  -- no way down has more points than levels
  pub deep_enough : (k : ℕ) (n : List ℕ) (t : Plain) → InhabitsWithin form body k n t → Inhabits form body n t
  deep_enough zero n t s = absurd s
  deep_enough (suc k) n t s =
      fits_where form (λ u. depth u < depth t) (depth_down (depth t)) (InhabitsWithin form body k) (InhabitsWithin form body (depth t))
      (λ m u lt w. inhabits_up form body (suc (depth u)) (depth t) lt m u (deep_enough k m u w)) (body n) t (near_below (body n) t (guarded n)) s

  pub inhabits_unfold : (n : List ℕ) (t : Plain) → Inhabits form body n t ↔ Fits form (Inhabits form body) (body n) t
  inhabits_unfold n t = (
    (λ s. fits_where form Whatever whatever_down (InhabitsWithin form body (depth t)) (Inhabits form body) (λ m u _ w. deep_enough (depth t) m u w) (body n) t (near Whatever whatever_down (body n) t tt) s),
    (λ s. fits_where form (λ u. depth u < depth t) (depth_down (depth t)) (Inhabits form body) (InhabitsWithin form body (depth t)) (λ m u lt w. inhabits_up form body (suc (depth u)) (depth t) lt m u w) (body n) t (near_below (body n) t (guarded n)) s),
  )
