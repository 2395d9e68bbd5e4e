-- What a treatment of the trees at points does to a tree, one level.
use Rattle.std.proofs.Common.{◌≡◌, inl, inr, refl, sym, ap, ap₂, ◌∙◌, subst, ℕ, List, [], ◌∷◌, Bool, true, false, true≢false, Option, Some, None, MatchBool}
use Rattle.std.specs.Prelude.{map, not, ◌&&◌, ◌||◌, is_some, option_map, if◌then◌else◌}
use Rattle.mig_model.specs.declared.form.Form.{Form}
use Rattle.mig_model.specs.declared.rest.Rest.{Rest}
use Rattle.mig_model.specs.Plain as plain
use Rattle.mig_model.specs.Plain.{Plain, trees_of, items, pairs_of, entries}
use Rattle.mig_model.specs.Kinds.{kind_of, items_of_trees, entries_of_pairs}
use Rattle.mig_model.specs.Names.{under, same_name}
use Rattle.mig_model.specs.Template.{Template, leaf, any, list, point, rec, sum, Fields, no_field, field, Choice, no_choice, choice, Cases, no_case, case, has_kind, is_must}
use Rattle.mig_model.specs.Inhabits.{Entries, EachItem, IsListOf, EachEntry, IsMapOf, is_text, is_some_text, has_tag, has_musts, has_case, is_complete, Unknown, Fits, FieldsFit, ChoiceFits, CasesFit}
use Rattle.mig_model.specs.Plain.{on_items, on_entries, each_entry}
use Rattle.mig_fold.specs.Fold.{treat, treat_fields, treat_choice, treat_cases}
use Rattle.mig_laws.specs.Sides.{SumsApart, FieldsApart, ChoiceApart, CasesApart}
use Rattle.mig_laws.proofs.Tests.{if_agree}
use Rattle.mig_laws.proofs.Inhabitants.{RecordFits}
use Rattle.mig_laws.proofs.Sides.{side_of}
use Rattle.mig_model.proofs.SameNames.{same_name_is, same_name_itself}

abbrev pub Treatment : Type 0
Treatment = List ℕ → Plain → Plain

-- lists and maps
map_chain : (f g h : Plain → Plain) → ((t : Plain) → g (f t) ≡ h t) → (ts : List Plain) → map g (map f ts) ≡ map h ts
map_chain f g h e [] = refl
map_chain f g h e (t ∷ ts) = ap₂ ◌∷◌ (e t) (map_chain f g h e ts)

each_chain : (f g h : Treatment) → ((n : List ℕ) (t : Plain) → g n (f n t) ≡ h n t) → (es : Entries) → each_entry g (each_entry f es) ≡ each_entry h es
each_chain f g h a [] = refl
each_chain f g h a (e ∷ es) = ap₂ (λ t r. (e.0, t) ∷ r) (a e.0 e.1) (each_chain f g h a es)

items_chain : (f g h : Plain → Plain) → ((t : Plain) → g (f t) ≡ h t) → (t : Plain) → on_items g (on_items f t) ≡ on_items h t
items_chain f g h e (plain.list ts) = ap (λ us. plain.list (trees_of us)) (ap (map g) (items_of_trees (map f (items ts))) ∙ map_chain f g h e (items ts))
items_chain f g h e t = refl

entries_chain : (f g h : Entries → Entries) → ((es : Entries) → g (f es) ≡ h es) → (t : Plain) → on_entries g (on_entries f t) ≡ on_entries h t
entries_chain f g h e (plain.map ps) = ap (λ es. plain.map (pairs_of es)) (ap g (entries_of_pairs (f (entries ps))) ∙ e (entries ps))
entries_chain f g h e t = refl

kind_on_items : (f : Plain → Plain) (t : Plain) → kind_of (on_items f t) ≡ kind_of t
kind_on_items f (plain.list ts) = refl
kind_on_items f t = refl

kind_on_entries : (f : Entries → Entries) (t : Plain) → kind_of (on_entries f t) ≡ kind_of t
kind_on_entries f (plain.map ps) = refl
kind_on_entries f t = refl

-- names and tags
pub found_each : (g : Treatment) (x : List ℕ) (es : Entries) → under x (each_entry g es) ≡ option_map (g x) (under x es)
found_each g x [] = refl
found_each g x (e ∷ es) = go (same_name x e.0) refl (found_each g x es)
  where
    go : (b : Bool) → same_name x e.0 ≡ b → under x (each_entry g es) ≡ option_map (g x) (under x es)
        → (if b then Some (g e.0 e.1) else under x (each_entry g es)) ≡ option_map (g x) (if b then Some e.1 else under x es)
    go true h ih = ap (λ m. Some (g m e.1)) (sym (same_name_is x e.0 h))
    go false h ih = ih

there_each : (g : Treatment) (x : List ℕ) (es : Entries) → is_some (under x (each_entry g es)) ≡ is_some (under x es)
there_each g x es = ap is_some (found_each g x es) ∙ kept (under x es)
  where
    kept : (o : Option Plain) → is_some (option_map (g x) o) ≡ is_some o
    kept None = refl
    kept (Some t) = refl

-- a tag that stays is what it was before
pub tag_found : (g : Treatment) (tag : List ℕ) (es : Entries) → ((t : Plain) → g tag t ≡ t) → under tag (each_entry g es) ≡ under tag es
tag_found g tag es stays = found_each g tag es ∙ same (under tag es)
  where
    same : (o : Option Plain) → option_map (g tag) o ≡ o
    same None = refl
    same (Some t) = ap Some (stays t)

pub tag_each : (g : Treatment) (tag l : List ℕ) (es : Entries) → ((t : Plain) → g tag t ≡ t) → has_tag tag l (each_entry g es) ≡ has_tag tag l es
tag_each g tag l es stays = ap (is_text l) (tag_found g tag es stays)

musts_each : (g : Treatment) (fs : Fields) (es : Entries) → has_musts fs (each_entry g es) ≡ has_musts fs es
musts_each g no_field es = refl
musts_each g (field x p V fs) es = ap₂ (λ a b. (not (is_must p) || a) && b) (there_each g x es) (musts_each g fs es)

case_each : (g : Treatment) (tag : List ℕ) (cs : Cases) (kept : Bool) (es : Entries) → under tag (each_entry g es) ≡ under tag es → has_case tag cs kept (each_entry g es) ≡ has_case tag cs kept es
case_each g tag no_case kept es e = ap (λ o. kept && is_some_text o) e
case_each g tag (case l fs cs) kept es e = rw (ap (is_text l) e) (if_agree (has_tag tag l es) (musts_each g fs es) (case_each g tag cs kept es e))

module _ (form : Form) where
  -- what is done at a sum, by the tree's kind
  pub treat_left : (h : Treatment) (V W : Template) (t : Plain) → has_kind form V (kind_of t) ≡ true → treat form h (sum V W) t ≡ treat form h V t
  treat_left h V W t e = rw e refl

  pub treat_right : (h : Treatment) (V W : Template) (t : Plain) → has_kind form V (kind_of t) ≡ false → has_kind form W (kind_of t) ≡ true → treat form h (sum V W) t ≡ treat form h W t
  treat_right h V W t e f = rw (e, f) refl

  treat_neither : (h : Treatment) (V W : Template) (t : Plain) → has_kind form V (kind_of t) ≡ false → has_kind form W (kind_of t) ≡ false → treat form h (sum V W) t ≡ t
  treat_neither h V W t e f = rw (e, f) refl

  -- the tag stays
  pub tag_stays : (h : Treatment) (tag : List ℕ) (cs : Cases) (kept : Bool) (common : Treatment → Treatment) (es : Entries) (t : Plain) → treat_choice form h (choice tag cs kept) common es tag t ≡ t
  tag_stays h tag cs kept common es t = rw (same_name_itself tag) refl

  -- the pairs of a record, treated
  abbrev pub treated : Treatment → Fields → Choice → Entries → Entries
  treated h fs c es = each_entry (treat_choice form h c (treat_fields form h fs) es) es

  -- a tree of one of the root kinds keeps its kind
  pub kind_treated : (h : Treatment) (V : Template) (t : Plain) → has_kind form V (kind_of t) ≡ true → kind_of (treat form h V t) ≡ kind_of t
  kind_treated h (leaf k) t e = refl
  kind_treated h any t e = refl
  kind_treated h (list V) t e = kind_on_items (treat form h V) t
  kind_treated h (point n) t e = absurd (true≢false (sym e))
  kind_treated h (rec fs c r) t e = kind_on_entries (treated h fs c) t
  kind_treated h (sum V W) t e = go (has_kind form V (kind_of t)) (has_kind form W (kind_of t)) (kind_treated h V t) (kind_treated h W t)
    where
      go : (x y : Bool) → (x ≡ true → kind_of (treat form h V t) ≡ kind_of t) → (y ≡ true → kind_of (treat form h W t) ≡ kind_of t)
          → kind_of (if x then treat form h V t else (if y then treat form h W t else t)) ≡ kind_of t
      go true y p q = p refl
      go false true p q = q refl
      go false false p q = refl

  -- treating twice is treating once with both
  if_chain : (b : Bool) (f g : Plain → Plain) (x y z w : Plain) → f x ≡ z → g y ≡ w → (if b then f (if b then x else y) else g (if b then x else y)) ≡ (if b then z else w)
  if_chain true f g x y z w e e' = e
  if_chain false f g x y z w e e' = e'

  sum_chain : (h g k : Treatment) (V W : Template) (t : Plain) → treat form g V (treat form h V t) ≡ treat form k V t → treat form g W (treat form h W t) ≡ treat form k W t
      → (p q : Bool) → has_kind form V (kind_of t) ≡ p → has_kind form W (kind_of t) ≡ q → treat form g (sum V W) (treat form h (sum V W) t) ≡ treat form k (sum V W) t
  sum_chain h g k V W t a b true q e f =
      ap (treat form g (sum V W)) (treat_left h V W t e)
      ∙ treat_left g V W (treat form h V t) (ap (has_kind form V) (kind_treated h V t e) ∙ e) ∙ a ∙ sym (treat_left k V W t e)
  sum_chain h g k V W t a b false true e f =
      ap (treat form g (sum V W)) (treat_right h V W t e f)
      ∙ treat_right g V W (treat form h W t) (ap (has_kind form V) (kind_treated h W t f) ∙ e) (ap (has_kind form W) (kind_treated h W t f) ∙ f) ∙ b ∙ sym (treat_right k V W t e f)
  sum_chain h g k V W t a b false false e f =
      ap (treat form g (sum V W)) (treat_neither h V W t e f) ∙ treat_neither g V W t e f ∙ sym (treat_neither k V W t e f)

  abbrev pub chained : Treatment → Treatment → Treatment
  chained h g n t = g n (h n t)

  mutual
    pub treat_chain : (h g : Treatment) (V : Template) (t : Plain) → treat form g V (treat form h V t) ≡ treat form (chained h g) V t
    treat_chain h g (leaf k) t = refl
    treat_chain h g any t = refl
    treat_chain h g (list V) t = items_chain (treat form h V) (treat form g V) (treat form (chained h g) V) (treat_chain h g V) t
    treat_chain h g (point n) t = refl
    treat_chain h g (rec fs c r) t =
        entries_chain (treated h fs c) (treated g fs c) (treated (chained h g) fs c)
        (λ es. each_chain _ _ _ (choice_chain h g c (treat_fields form h fs) (treat_fields form g fs) (treat_fields form (chained h g) fs) (fields_chain h g fs) es) es) t
    treat_chain h g (sum V W) t = sum_chain h g (chained h g) V W t (treat_chain h g V t) (treat_chain h g W t) (has_kind form V (kind_of t)) (has_kind form W (kind_of t)) refl refl

    fields_chain : (h g : Treatment) (fs : Fields) (o o' oo : Treatment) → ((n : List ℕ) (t : Plain) → o' n (o n t) ≡ oo n t) → (n : List ℕ) (t : Plain)
        → treat_fields form g fs o' n (treat_fields form h fs o n t) ≡ treat_fields form (chained h g) fs oo n t
    fields_chain h g no_field o o' oo e n t = e n t
    fields_chain h g (field x p V fs) o o' oo e n t =
        if_chain (same_name n x) (treat form g V) (treat_fields form g fs o' n) _ _ _ _ (treat_chain h g V t) (fields_chain h g fs o o' oo e n t)

    choice_chain : (h g : Treatment) (c : Choice) (k k' kk : Treatment → Treatment) → ((o o' oo : Treatment) → ((n : List ℕ) (t : Plain) → o' n (o n t) ≡ oo n t) → (n : List ℕ) (t : Plain) → k' o' n (k o n t) ≡ kk oo n t)
        → (es : Entries) (n : List ℕ) (t : Plain) → treat_choice form g c k' (each_entry (treat_choice form h c k es) es) n (treat_choice form h c k es n t) ≡ treat_choice form (chained h g) c kk es n t
    choice_chain h g no_choice k k' kk e es n t = e _ _ _ (λ m u. refl) n t
    choice_chain h g (choice tag cs kept) k k' kk e es n t =
        if_chain (same_name n tag) (λ u. u) (k' (treat_cases form g tag cs (each_entry (treat_choice form h (choice tag cs kept) k es) es)) n) _ _ _ _ refl
        (e _ _ _ (cases_chain h g tag cs es (each_entry (treat_choice form h (choice tag cs kept) k es) es) (λ l. tag_each _ tag l es (λ u. tag_stays h tag cs kept k es u))) n t)

    cases_chain : (h g : Treatment) (tag : List ℕ) (cs : Cases) (es es' : Entries) → ((l : List ℕ) → has_tag tag l es' ≡ has_tag tag l es) → (n : List ℕ) (t : Plain)
        → treat_cases form g tag cs es' n (treat_cases form h tag cs es n t) ≡ treat_cases form (chained h g) tag cs es n t
    cases_chain h g tag no_case es es' e n t = refl
    cases_chain h g tag (case l fs cs) es es' e n t =
        rw (e l) (if_chain (has_tag tag l es) (treat_fields form g fs (λ m u. u) n) (treat_cases form g tag cs es' n) _ _ _ _ (fields_chain h g fs _ _ _ (λ m u. refl) n t) (cases_chain h g tag cs es es' e n t))

-- two treatments that agree at the trees that stand at points do the same
if_match : (b : Bool) (A B : Type 0) {x x' y y' : Plain} → (A → x ≡ x') → (B → y ≡ y') → MatchBool b A B → (if b then x else y) ≡ (if b then x' else y')
if_match true A B e f m = e m
if_match false A B e f m = f m

items_same : (A : Plain → Type 0) (f g : Plain → Plain) → ((t : Plain) → A t → f t ≡ g t) → (ts : List Plain) → EachItem A ts → map f ts ≡ map g ts
items_same A f g e [] s = refl
items_same A f g e (t ∷ ts) s = ap₂ ◌∷◌ (e t s.0) (items_same A f g e ts s.1)

each_same : (A : List ℕ → Plain → Type 0) (f g : Treatment) → ((n : List ℕ) (t : Plain) → A n t → f n t ≡ g n t) → (es : Entries) → EachEntry A es → each_entry f es ≡ each_entry g es
each_same A f g a [] s = refl
each_same A f g a (e ∷ es) s = ap₂ (λ t r. (e.0, t) ∷ r) (a e.0 e.1 s.0) (each_same A f g a es s.1)

list_same : (A : Plain → Type 0) (f g : Plain → Plain) → ((t : Plain) → A t → f t ≡ g t) → (t : Plain) → IsListOf A t → on_items f t ≡ on_items g t
list_same A f g e (plain.list ts) s = ap (λ us. plain.list (trees_of us)) (items_same A f g e (items ts) s)
list_same A f g e t s = absurd s

map_same : (A : Entries → Type 0) (f g : Entries → Entries) → ((es : Entries) → A es → f es ≡ g es) → (t : Plain) → IsMapOf A t → on_entries f t ≡ on_entries g t
map_same A f g e (plain.map ps) s = ap (λ es. plain.map (pairs_of es)) (e (entries ps) s)
map_same A f g e t s = absurd s

module _ (form : Form) where
  abbrev pub Alike : (List ℕ → Plain → Type 0) → Treatment → Treatment → Type 0
  Alike P h g = (n : List ℕ) (t : Plain) → P n t → h n t ≡ g n t

  mutual
    pub treat_agree : (P : List ℕ → Plain → Type 0) (h g : Treatment) → Alike P h g → (V : Template) → SumsApart form V → (t : Plain) → Fits form P V t → treat form h V t ≡ treat form g V t
    treat_agree P h g e (leaf k) a t s = refl
    treat_agree P h g e any a t s = refl
    treat_agree P h g e (list V) a t s = list_same (Fits form P V) (treat form h V) (treat form g V) (treat_agree P h g e V a) t s
    treat_agree P h g e (point n) a t s = e n t s
    treat_agree P h g e (rec fs c r) a t s =
        map_same (RecordFits form P fs c r) (treated form h fs c) (treated form g fs c)
        (λ es q. each_same _ _ _ (choice_agree P h g e c a.1 (treat_fields form h fs) (treat_fields form g fs) (FieldsFit form P fs) (fields_agree P h g e fs a.0) r es) es q.1) t s
    treat_agree P h g e (sum V W) a t s =
        elim (side_of form P V W t a.0 s) [
          | inl x ↦ treat_left form h V W t x.0 ∙ treat_agree P h g e V a.1 t x.1 ∙ sym (treat_left form g V W t x.0)
          | inr y ↦ treat_right form h V W t y.0 y.1 ∙ treat_agree P h g e W a.2 t y.2 ∙ sym (treat_right form g V W t y.0 y.1)
        ]

    fields_agree : (P : List ℕ → Plain → Type 0) (h g : Treatment) → Alike P h g → (fs : Fields) → FieldsApart form fs
        → (O : List ℕ → Plain → Type 0) (o o' : Treatment) → Alike O o o' → Alike (FieldsFit form P fs O) (treat_fields form h fs o) (treat_fields form g fs o')
    fields_agree P h g e no_field a O o o' eo n t s = eo n t s
    fields_agree P h g e (field x p V fs) a O o o' eo n t s = if_match (same_name n x) _ _ (treat_agree P h g e V a.0 t) (fields_agree P h g e fs a.1 O o o' eo n t) s

    choice_agree : (P : List ℕ → Plain → Type 0) (h g : Treatment) → Alike P h g → (c : Choice) → ChoiceApart form c
        → (k k' : Treatment → Treatment) (C : (List ℕ → Plain → Type 0) → List ℕ → Plain → Type 0)
        → ((O : List ℕ → Plain → Type 0) (o o' : Treatment) → Alike O o o' → Alike (C O) (k o) (k' o'))
        → (r : Rest) (es : Entries) → Alike (ChoiceFits form P c C r es) (treat_choice form h c k es) (treat_choice form g c k' es)
    choice_agree P h g e no_choice a k k' C ek r es n t s = ek (Unknown r) _ _ (λ m u _. refl) n t s
    choice_agree P h g e (choice tag cs kept) a k k' C ek r es n t s = if_match (same_name n tag) _ _ (λ _. refl) (ek (CasesFit form P tag cs r es) _ _ (cases_agree P h g e tag cs a r es) n t) s

    cases_agree : (P : List ℕ → Plain → Type 0) (h g : Treatment) → Alike P h g → (tag : List ℕ) (cs : Cases) → CasesApart form cs
        → (r : Rest) (es : Entries) → Alike (CasesFit form P tag cs r es) (treat_cases form h tag cs es) (treat_cases form g tag cs es)
    cases_agree P h g e tag no_case a r es n t s = refl
    cases_agree P h g e tag (case l fs cs) a r es n t s =
        if_match (has_tag tag l es) _ _ (fields_agree P h g e fs a.0 (Unknown r) _ _ (λ m u _. refl) n t) (cases_agree P h g e tag cs a.1 r es n t) s

-- what stands at points may change its meaning, and the rest keeps its shape
match_if : (b : Bool) (A B : Type 0) (S R : Plain → Type 0) (x y : Plain) → (A → S x) → (B → R y) → MatchBool b A B → MatchBool b (S (if b then x else y)) (R (if b then x else y))
match_if true A B S R x y f g m = f m
match_if false A B S R x y f g m = g m

items_fit : (A B : Plain → Type 0) (f : Plain → Plain) → ((t : Plain) → A t → B (f t)) → (ts : List Plain) → EachItem A ts → EachItem B (map f ts)
items_fit A B f e [] s = tt
items_fit A B f e (t ∷ ts) s = (e t s.0, items_fit A B f e ts s.1)

each_fits : (A B : List ℕ → Plain → Type 0) (f : Treatment) → ((n : List ℕ) (t : Plain) → A n t → B n (f n t)) → (es : Entries) → EachEntry A es → EachEntry B (each_entry f es)
each_fits A B f a [] s = tt
each_fits A B f a (e ∷ es) s = (a e.0 e.1 s.0, each_fits A B f a es s.1)

list_fits : (A B : Plain → Type 0) (f : Plain → Plain) → ((t : Plain) → A t → B (f t)) → (t : Plain) → IsListOf A t → IsListOf B (on_items f t)
list_fits A B f e (plain.list ts) s = subst (EachItem B) (sym (items_of_trees (map f (items ts)))) (items_fit A B f e (items ts) s)
list_fits A B f e t s = absurd s

map_fits : (A B : Entries → Type 0) (f : Entries → Entries) → ((es : Entries) → A es → B (f es)) → (t : Plain) → IsMapOf A t → IsMapOf B (on_entries f t)
map_fits A B f e (plain.map ps) s = subst B (sym (entries_of_pairs (f (entries ps)))) (e (entries ps) s)
map_fits A B f e t s = absurd s

module _ (form : Form) where
  complete_treated : (h : Treatment) (fs : Fields) (c : Choice) (k : Treatment → Treatment) (es : Entries) → is_complete fs c (each_entry (treat_choice form h c k es) es) ≡ is_complete fs c es
  complete_treated h fs no_choice k es = musts_each _ fs es
  complete_treated h fs (choice tag cs kept) k es = ap₂ ◌&&◌ (musts_each _ fs es) (case_each _ tag cs kept es (tag_found _ tag es (λ u. tag_stays form h tag cs kept k es u)))

  abbrev pub Makes : (List ℕ → Plain → Type 0) → (List ℕ → Plain → Type 0) → Treatment → Type 0
  Makes P Q h = (n : List ℕ) (t : Plain) → P n t → Q n (h n t)

  mutual
    pub treat_fits : (P Q : List ℕ → Plain → Type 0) (h : Treatment) → Makes P Q h → (V : Template) → SumsApart form V → (t : Plain) → Fits form P V t → Fits form Q V (treat form h V t)
    treat_fits P Q h e (leaf k) a t s = s
    treat_fits P Q h e any a t s = s
    treat_fits P Q h e (list V) a t s = list_fits (Fits form P V) (Fits form Q V) (treat form h V) (treat_fits P Q h e V a) t s
    treat_fits P Q h e (point n) a t s = e n t s
    treat_fits P Q h e (rec fs c r) a t s =
        map_fits (RecordFits form P fs c r) (RecordFits form Q fs c r) (treated form h fs c)
        (λ es q. (complete_treated h fs c (treat_fields form h fs) es ∙ q.0, each_fits _ _ _ (choice_fits P Q h e c a.1 (treat_fields form h fs) (FieldsFit form P fs) (FieldsFit form Q fs) (fields_fit P Q h e fs a.0) r es) es q.1)) t s
    treat_fits P Q h e (sum V W) a t s =
        elim (side_of form P V W t a.0 s) [
          | inl x ↦ subst (Fits form Q (sum V W)) (sym (treat_left form h V W t x.0)) (inl (treat_fits P Q h e V a.1 t x.1))
          | inr y ↦ subst (Fits form Q (sum V W)) (sym (treat_right form h V W t y.0 y.1)) (inr (treat_fits P Q h e W a.2 t y.2))
        ]

    fields_fit : (P Q : List ℕ → Plain → Type 0) (h : Treatment) → Makes P Q h → (fs : Fields) → FieldsApart form fs
        → (O O' : List ℕ → Plain → Type 0) (o : Treatment) → Makes O O' o → Makes (FieldsFit form P fs O) (FieldsFit form Q fs O') (treat_fields form h fs o)
    fields_fit P Q h e no_field a O O' o eo n t s = eo n t s
    fields_fit P Q h e (field x p V fs) a O O' o eo n t s =
        match_if (same_name n x) _ _ (Fits form Q V) (FieldsFit form Q fs O' n) _ _ (treat_fits P Q h e V a.0 t) (fields_fit P Q h e fs a.1 O O' o eo n t) s

    choice_fits : (P Q : List ℕ → Plain → Type 0) (h : Treatment) → Makes P Q h → (c : Choice) → ChoiceApart form c
        → (k : Treatment → Treatment) (C C' : (List ℕ → Plain → Type 0) → List ℕ → Plain → Type 0)
        → ((O O' : List ℕ → Plain → Type 0) (o : Treatment) → Makes O O' o → Makes (C O) (C' O') (k o))
        → (r : Rest) (es : Entries) → Makes (ChoiceFits form P c C r es) (ChoiceFits form Q c C' r (each_entry (treat_choice form h c k es) es)) (treat_choice form h c k es)
    choice_fits P Q h e no_choice a k C C' ek r es n t s = ek (Unknown r) (Unknown r) _ (λ m u w. w) n t s
    choice_fits P Q h e (choice tag cs kept) a k C C' ek r es n t s =
        match_if (same_name n tag) _ _ (λ _. Unit {0}) (C' (CasesFit form Q tag cs r (each_entry (treat_choice form h (choice tag cs kept) k es) es)) n) _ _ (λ _. tt)
        (ek (CasesFit form P tag cs r es) _ _ (cases_fit P Q h e tag cs a r es _ (λ l. tag_each _ tag l es (λ u. tag_stays form h tag cs kept k es u))) n t) s

    cases_fit : (P Q : List ℕ → Plain → Type 0) (h : Treatment) → Makes P Q h → (tag : List ℕ) (cs : Cases) → CasesApart form cs
        → (r : Rest) (es es' : Entries) → ((l : List ℕ) → has_tag tag l es' ≡ has_tag tag l es) → Makes (CasesFit form P tag cs r es) (CasesFit form Q tag cs r es') (treat_cases form h tag cs es)
    cases_fit P Q h e tag no_case a r es es' et n t s = s
    cases_fit P Q h e tag (case l fs cs) a r es es' et n t s =
        rw (et l) (match_if (has_tag tag l es) _ _ (FieldsFit form Q fs (Unknown r) n) (CasesFit form Q tag cs r es' n) _ _ (fields_fit P Q h e fs a.0 (Unknown r) (Unknown r) _ (λ m u w. w) n t) (cases_fit P Q h e tag cs a.1 r es es' et n t) s)
