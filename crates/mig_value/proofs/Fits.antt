-- A value is one of a named type exactly where it is one of its body, with nodes that are in turn.
use Rattle.std.proofs.Common.{◌≡◌, ◌↔◌, ℕ, zero, suc, ◌<◌, ◌≤◌, List, Bool, true, false, Option, Some, None, MatchBool, refl, sym, subst, arith}
use Rattle.mig_model.specs.declared.form.Form.{Form}
use Rattle.mig_model.specs.Template as template
use Rattle.mig_model.specs.Template.{Template, Fields, no_field, field, Choice, no_choice, choice, Cases, no_case, case}
use Rattle.mig_model.specs.Names.{same_name}
use Rattle.mig_value.specs.Typed.{Typed, atom, list, left, right, rec, point, Items, no_item, item, Slots, no_slot, slot, Tag, typed_size, items_size, slots_size}
use Rattle.mig_value.specs.Fit.{EachItem, EachSlot, IsListOf, IsSideOf, IsNodeOf, ValueFits, FieldsFit, ChoiceFits, CasesFit, IsUnknown, IsOfForm, IsAtomOf, FitWithin, FitBy, Fit, FitAsRead}

pub size_positive : (v : Typed) → 0 < typed_size v
size_positive (atom t) = omega arith
size_positive (list vs) = omega arith
size_positive (left v) = omega arith
size_positive (right v) = omega arith
size_positive (rec fs tag cs rs) = omega arith
size_positive (point n v) = omega arith

match_map : (b : Bool) {A B C D : Type 0} → (A → C) → (B → D) → MatchBool b A B → MatchBool b C D
match_map true f g m = f m
match_map false f g m = g m

-- each item, where what is asked of one follows from another for values below a size
each_item : (A B : Typed → Type 0) (b : ℕ) → ((v : Typed) → typed_size v ≤ b → A v → B v) → (vs : Items) → items_size vs ≤ b → EachItem A vs → EachItem B vs
each_item A B b f no_item l e = tt
each_item A B b f (item v vs) l e = (f v (omega arith) e.0, each_item A B b f vs (omega arith) e.1)

each_slot : (A B : List ℕ → Typed → Type 0) (b : ℕ) → ((n : List ℕ) (v : Typed) → typed_size v ≤ b → A n v → B n v) → (ss : Slots) → slots_size ss ≤ b → EachSlot A ss → EachSlot B ss
each_slot A B b f no_slot l e = tt
each_slot A B b f (slot n v ss) l e = (f n v (omega arith) e.0, each_slot A B b f ss (omega arith) e.1)

module _ (U T : Typed → Type 0) (weaker : (v : Typed) → U v → T v) (P Q : List ℕ → Typed → Type 0) (b : ℕ) (h : (n : List ℕ) (w : Typed) → typed_size w < b → P n w → Q n w) where
  list_of : (V : Template) → ((v : Typed) → typed_size v ≤ b → ValueFits U P V v → ValueFits T Q V v) → (v : Typed) → typed_size v ≤ b → IsListOf (ValueFits U P V) v → IsListOf (ValueFits T Q V) v
  list_of V f (list vs) l e = each_item (ValueFits U P V) (ValueFits T Q V) b f vs (omega arith) e
  list_of V f v l e = absurd e

  side_of : (V W : Template) → ((v : Typed) → typed_size v ≤ b → ValueFits U P V v → ValueFits T Q V v) → ((v : Typed) → typed_size v ≤ b → ValueFits U P W v → ValueFits T Q W v) → (v : Typed) → typed_size v ≤ b → IsSideOf (ValueFits U P V) (ValueFits U P W) v → IsSideOf (ValueFits T Q V) (ValueFits T Q W) v
  side_of V W f g (left v) l e = f v (omega arith) e
  side_of V W f g (right v) l e = g v (omega arith) e
  side_of V W f g v l e = absurd e

  node_of : (n : List ℕ) (v : Typed) → typed_size v ≤ b → IsNodeOf n (P n) v → IsNodeOf n (Q n) v
  node_of n (point m v) l e = (e.0, h n v (omega arith) e.1)
  node_of n v l e = absurd e

  mutual
    -- what is asked of nodes may be replaced where it follows for smaller values
    pub fits_inside : (V : Template) (v : Typed) → typed_size v ≤ b → ValueFits U P V v → ValueFits T Q V v
    fits_inside (template.leaf k) v l e = e
    fits_inside template.any v l e = weaker v e
    fits_inside (template.list V) v l e = list_of V (fits_inside V) v l e
    fits_inside (template.point n) v l e = node_of n v l e
    fits_inside (template.rec fs c r) (rec ss tag cs rs) l e =
        (e.0, e.1, each_slot (FieldsFit U P fs) (FieldsFit T Q fs) b (fields_inside fs) ss (omega arith) e.2, each_slot (ChoiceFits U P c tag) (ChoiceFits T Q c tag) b (choice_inside c tag) cs (omega arith) e.3, each_slot (IsUnknown U fs c tag r) (IsUnknown T fs c tag r) b (λ n v l u. (u.0, u.1, weaker v u.2)) rs (omega arith) e.4)
    fits_inside (template.rec fs c r) v l e = absurd e
    fits_inside (template.sum V W) v l e = side_of V W (fits_inside V) (fits_inside W) v l e

    fields_inside : (fs : Fields) (n : List ℕ) (v : Typed) → typed_size v ≤ b → FieldsFit U P fs n v → FieldsFit T Q fs n v
    fields_inside no_field n v l e = e
    fields_inside (field x p V fs) n v l e = match_map (same_name n x) (fits_inside V v l) (fields_inside fs n v l) e

    choice_inside : (c : Choice) (tag : Option Tag) (n : List ℕ) (v : Typed) → typed_size v ≤ b → ChoiceFits U P c tag n v → ChoiceFits T Q c tag n v
    choice_inside no_choice tag n v l e = absurd e
    choice_inside (choice t cs kept) None n v l e = absurd e
    choice_inside (choice t cs kept) (Some g) n v l e = cases_inside g.1 cs n v l e

    cases_inside : (g : List ℕ) (cs : Cases) (n : List ℕ) (v : Typed) → typed_size v ≤ b → CasesFit U P g cs n v → CasesFit T Q g cs n v
    cases_inside g no_case n v l e = e
    cases_inside g (case m fs cs) n v l e = match_map (same_name g m) (fields_inside fs n v l) (cases_inside g cs n v l) e

module _ (U : Typed → Type 0) (body : List ℕ → Template) where
  -- the number of nodes that are looked through doesn't count where there are fewer
  pub same_within : (j k : ℕ) (n : List ℕ) (v : Typed) → typed_size v ≤ j → typed_size v ≤ k → FitWithin U body j n v → FitWithin U body k n v
  same_within zero k n v a b e = absurd e
  same_within (suc j) zero n v a b e = let p = size_positive v in absurd (omega arith)
  same_within (suc j) (suc k) n v a b e =
      fits_inside U U (λ v u. u) (FitWithin U body j) (FitWithin U body k) (typed_size v) (λ m w l. same_within j k m w (omega arith) (omega arith)) (body n) v (omega arith) e

  one_more : (k : ℕ) (n : List ℕ) (v : Typed) → typed_size v ≡ suc k → FitWithin U body (suc k) n v ↔ ValueFits U (FitBy U body) (body n) v
  one_more k n v e = (
    fits_inside U U (λ v u. u) (FitWithin U body k) (FitBy U body) (typed_size v) (λ m w l. same_within k (typed_size w) m w (omega arith) (omega arith)) (body n) v (omega arith),
    fits_inside U U (λ v u. u) (FitBy U body) (FitWithin U body k) (typed_size v) (λ m w l. same_within (typed_size w) k m w (omega arith) (omega arith)) (body n) v (omega arith),
  )

  some_more : (k : ℕ) → 0 < k → (j : ℕ) × (k ≡ suc j)
  some_more zero l = absurd (omega arith)
  some_more (suc j) l = (j, refl)

  pub fit_unfolds : (n : List ℕ) (v : Typed) → FitBy U body n v ↔ ValueFits U (FitBy U body) (body n) v
  fit_unfolds n v =
      let s = some_more (typed_size v) (size_positive v) in
      subst (λ k. FitWithin U body k n v ↔ ValueFits U (FitBy U body) (body n) v) (sym s.1) (one_more s.0 n v s.1)

-- an atom of the form is a value whose tree is of the form
atom_of_form : (form : Form) (v : Typed) → IsAtomOf form v → IsOfForm form v
atom_of_form form (atom t) e = e
atom_of_form form v e = absurd e

read_within : (form : Form) (body : List ℕ → Template) (k : ℕ) (n : List ℕ) (v : Typed) → FitWithin (IsAtomOf form) body k n v → FitWithin (IsOfForm form) body k n v
read_within form body zero n v e = absurd e
read_within form body (suc k) n v e =
    fits_inside (IsAtomOf form) (IsOfForm form) (atom_of_form form) (FitWithin (IsAtomOf form) body k) (FitWithin (IsOfForm form) body k) (typed_size v) (λ m w l. read_within form body k m w) (body n) v (omega arith) e

-- what reading gives is a value of the type
pub read_fits : (form : Form) (body : List ℕ → Template) (n : List ℕ) (v : Typed) → FitAsRead form body n v → Fit form body n v
read_fits form body n v e = read_within form body (typed_size v) n v e
