-- There is no wrong place exactly where the tree fits.
use Rattle.std.proofs.Common.{◌≡◌, ◌↔◌, ◌⊎◌, inl, inr, refl, sym, ap, ◌∙◌, ℕ, zero, suc, Bool, true, false, true≢false, List, [], ◌∷◌, Option, Some, None, MatchBool, IsTrue}
use Rattle.std.specs.Prelude.{not, ◌&&◌, ◌||◌, is_some, option_map, if◌then◌else◌}
use Rattle.std.specs.Ordering.{is_lt}
use Rattle.mig_model.specs.declared.form.Form.{Form}
use Rattle.mig_model.specs.declared.kind.Kind.{Kind}
use Rattle.mig_model.specs.declared.rest.Rest.{Rest}
use Rattle.mig_model.specs.Plain as plain
use Rattle.mig_model.specs.Plain.{Plain, items, entries}
use Rattle.mig_model.specs.Kinds.{kind_of}
use Rattle.mig_model.specs.Names.{by_bytes, under, same_name}
use Rattle.mig_model.specs.Template.{Template, leaf, any, list, point, rec, sum, Fields, no_field, field, Choice, no_choice, choice, Cases, no_case, case, same_kind, has_kind, is_must, is_open}
use Rattle.mig_model.specs.Inhabits.{Entries, EachItem, IsListOf, EachEntry, IsMapOf, has_tag, has_text, is_in_form, has_musts, has_case, is_complete, Unknown, Fits, FieldsFit, ChoiceFits, CasesFit, InhabitsWithin}
use Rattle.mig_model.specs.Place.{Place, PlaceStep, Wrong, named, index, sooner, place_under, or_else, wrong_item, within_list, within_map, at_name, wrong_entry, missing, missing_in_case, is_literal, is_tagged, wrong_map, unless, wrong, wrong_fields, wrong_choice, wrong_cases, place_within}
use Rattle.mig_laws.specs.Sides.{SumsApart, FieldsApart, ChoiceApart, CasesApart}
use Rattle.mig_model.proofs.SameNames.{same_kind_is, same_kind_itself}
use Rattle.mig_laws.proofs.Sides.{kind_told}
use Rattle.mig_laws.proofs.Inhabitants.{RecordFits}
use Rattle.mig_model.proofs.Bools.{split_and, both_true}

-- each test of `wrong` and what it says
if_none : (b : Bool) (A B : Type 0) (x y : Option Place) → (x ≡ None) ↔ A → (y ≡ None) ↔ B → ((if b then x else y) ≡ None) ↔ MatchBool b A B
if_none true A B x y e f = e
if_none false A B x y e f = f

unless_none : (b : Bool) → (unless b ≡ None) ↔ IsTrue b
unless_none true = (λ f. refl, λ f. refl)
unless_none false = (λ f. absurd (cc), λ f. absurd (true≢false (sym f)))

-- of two sides that share no root kind, the tree's kind tells which it may fit
sides_none : (A B : Type 0) (p q : Bool) (x y : Option Place) → (A → p ≡ true) → (B → q ≡ true) → (p ≡ true → q ≡ false) → (x ≡ None) ↔ A → (y ≡ None) ↔ B → ((if p then x else (if q then y else Some [])) ≡ None) ↔ (A ⊎ B)
sides_none A B true q x y a b d e f = (λ s. inl (e.0 s), λ s. elim s [ inl z ↦ e.1 z | inr z ↦ absurd (true≢false (sym (b z) ∙ d refl)) ])
sides_none A B false true x y a b d e f = (λ s. inr (f.0 s), λ s. elim s [ inl z ↦ absurd (true≢false (sym (a z))) | inr z ↦ f.1 z ])
sides_none A B false false x y a b d e f = (λ s. absurd (cc), λ s. elim s [ inl z ↦ absurd (true≢false (sym (a z))) | inr z ↦ absurd (true≢false (sym (b z))) ])

pub or_none : (a b : Option Place) → or_else a b ≡ None → (a ≡ None) × (b ≡ None)
or_none None b e = (refl, e)
or_none (Some p) b e = absurd (cc)

mapped_none : (s : PlaceStep) (a : Option Place) → option_map (λ p. s ∷ p) a ≡ None → a ≡ None
mapped_none s None e = refl
mapped_none s (Some p) e = absurd (cc)

pub item_none : (w : Plain → Option Place) (A : Plain → Type 0) → ((t : Plain) → (w t ≡ None) ↔ A t) → (i : ℕ) (ts : List Plain) → (wrong_item w i ts ≡ None) ↔ EachItem A ts
item_none w A e i [] = (λ f. tt, λ f. refl)
item_none w A e i (t ∷ ts) = (
  (λ f. let both = or_none (option_map (λ p. index i ∷ p) (w t)) (wrong_item w (suc i) ts) f in ((e t).0 (mapped_none (index i) (w t) both.0), (item_none w A e (suc i) ts).0 both.1)),
  (λ f. rw ((e t).1 f.0) ((item_none w A e (suc i) ts).1 f.1)),
)

list_none : (w : List Plain → Option Place) (A : Plain → Type 0) → ((ts : List Plain) → (w ts ≡ None) ↔ EachItem A ts) → (t : Plain) → (within_list w t ≡ None) ↔ IsListOf A t
list_none w A e (plain.list ts) = e (items ts)
list_none w A e t = (λ f. absurd (cc), λ f. absurd f)

map_none : (w : Entries → Option Place) (A : Entries → Type 0) → ((es : Entries) → (w es ≡ None) ↔ A es) → (t : Plain) → (within_map w t ≡ None) ↔ IsMapOf A t
map_none w A e (plain.map ps) = e (entries ps)
map_none w A e t = (λ f. absurd (cc), λ f. absurd f)

at_none : (n : List ℕ) (a : Option Place) (b : Wrong) → at_name n a b ≡ None → (a ≡ None) × (b ≡ None)
at_none n None b e = (refl, e)
at_none n (Some p) b e = absurd (cc)

pub entry_none : (w : List ℕ → Plain → Option Place) (A : List ℕ → Plain → Type 0) → ((n : List ℕ) (t : Plain) → (w n t ≡ None) ↔ A n t) → (es : Entries) → (wrong_entry w es ≡ None) ↔ EachEntry A es
entry_none w A h [] = (λ f. tt, λ f. refl)
entry_none w A h (e ∷ es) = (
  (λ f. let both = at_none e.0 (w e.0 e.1) (wrong_entry w es) f in ((h e.0 e.1).0 both.0, (entry_none w A h es).0 both.1)),
  (λ f. rw ((h e.0 e.1).1 f.0) ((entry_none w A h es).1 f.1)),
)

pub missing_none : (fs : Fields) (es : Entries) → (missing fs es ≡ None) ↔ (has_musts fs es ≡ true)
missing_none no_field es = (λ f. refl, λ f. refl)
missing_none (field x p V fs) es = go (not (is_must p) || is_some (under x es)) (missing_none fs es)
  where
    go : (b : Bool) → (missing fs es ≡ None) ↔ (has_musts fs es ≡ true) → ((if b then missing fs es else Some (x, [])) ≡ None) ↔ ((b && has_musts fs es) ≡ true)
    go true e = e
    go false e = (λ f. absurd (cc), λ f. absurd (true≢false (sym f)))

pub case_none : (tag : List ℕ) (cs : Cases) (kept : Bool) (es : Entries) → (has_case tag cs kept es ≡ true) ↔ ((is_tagged tag cs kept es ≡ true) × (missing_in_case tag cs es ≡ None))
case_none tag no_case kept es = (λ f. (f, refl), λ f. f.0)
case_none tag (case l fs cs) kept es = go (has_tag tag l es) (case_none tag cs kept es)
  where
    go : (b : Bool) → (has_case tag cs kept es ≡ true) ↔ ((is_tagged tag cs kept es ≡ true) × (missing_in_case tag cs es ≡ None))
        → ((if b then has_musts fs es else has_case tag cs kept es) ≡ true)
        ↔ ((((b || is_literal tag cs es) || (kept && has_text tag es)) ≡ true) × ((if b then missing fs es else missing_in_case tag cs es) ≡ None))
    go true e = (λ f. (refl, (missing_none fs es).1 f), λ f. (missing_none fs es).0 f.1)
    go false e = e

pub sooner_none : (a b : Wrong) → sooner a b ≡ None → (a ≡ None) × (b ≡ None)
sooner_none None b e = (refl, e)
sooner_none (Some a) None e = absurd (cc)
sooner_none (Some a) (Some b) e = go (is_lt (by_bytes b.0 a.0)) e
  where
    go : (c : Bool) → (if c then Some b else Some a) ≡ None → (Some a ≡ None) × (Some b ≡ None)
    go true f = absurd (cc)
    go false f = absurd (cc)

under_none : (a : Wrong) → place_under a ≡ None → a ≡ None
under_none None e = refl
under_none (Some a) e = absurd (cc)

-- a map has no wrong place exactly where it is complete and no pair is wrong
pub record_none : (fs : Fields) (c : Choice) (es : Entries) (bad : Wrong) → (wrong_map fs c es bad ≡ None) ↔ ((is_complete fs c es ≡ true) × (bad ≡ None))
record_none fs no_choice es bad = (
  (λ e. let both = sooner_none bad (missing fs es) (under_none _ e) in ((missing_none fs es).0 both.1, both.0)),
  (λ e. rw (e.1, (missing_none fs es).1 e.0) refl),
)
record_none fs (choice tag cs kept) es bad = (
  (λ e. to (is_tagged tag cs kept es) refl e),
  (λ e. let both = split_and (has_musts fs es) (has_case tag cs kept es) e.0 in let one = (case_none tag cs kept es).0 both.1 in rw (one.0, e.1, (missing_none fs es).1 both.0, one.1) refl),
)
  where
    to : (b : Bool) → is_tagged tag cs kept es ≡ b → (if b then place_under (sooner bad (sooner (missing fs es) (missing_in_case tag cs es))) else Some (named tag ∷ [])) ≡ None
        → ((has_musts fs es && has_case tag cs kept es) ≡ true) × (bad ≡ None)
    to true i e =
        let both = sooner_none bad (sooner (missing fs es) (missing_in_case tag cs es)) (under_none _ e) in
        let more = sooner_none (missing fs es) (missing_in_case tag cs es) both.1 in
        (both_true _ _ ((missing_none fs es).0 more.0) ((case_none tag cs kept es).1 (i, more.1)), both.0)
    to false i e = absurd (cc)

leaf_none : (k : Kind) (t : Plain) → (unless (same_kind (kind_of t) k) ≡ None) ↔ (kind_of t ≡ k)
leaf_none k t = (
  (λ f. same_kind_is (kind_of t) k ((unless_none (same_kind (kind_of t) k)).0 f)),
  (λ f. (unless_none (same_kind (kind_of t) k)).1 (sym (ap (same_kind (kind_of t)) f) ∙ same_kind_itself (kind_of t))),
)

-- where w says it of the trees at points, `wrong` says it of the template
module _ (form : Form) where
  abbrev pub Tells : (List ℕ → Plain → Option Place) → (List ℕ → Plain → Type 0) → Type 0
  Tells w P = (n : List ℕ) (t : Plain) → (w n t ≡ None) ↔ P n t

  mutual
    pub wrong_none : (w : List ℕ → Plain → Option Place) (P : List ℕ → Plain → Type 0) → Tells w P → (V : Template) → SumsApart form V → (t : Plain) → (wrong form w V t ≡ None) ↔ Fits form P V t
    wrong_none w P e (leaf k) a t = leaf_none k t
    wrong_none w P e any a t = unless_none (is_in_form form t)
    wrong_none w P e (list V) a t = list_none _ (Fits form P V) (item_none (wrong form w V) (Fits form P V) (wrong_none w P e V a) 0) t
    wrong_none w P e (point n) a t = e n t
    wrong_none w P e (rec fs c o) a t =
        map_none _ (RecordFits form P fs c o)
        (λ es. let bad = entry_none _ _ (choice_none w P e c a.1 (wrong_fields form w fs) (FieldsFit form P fs) (fields_none w P e fs a.0) o es) es in let all = record_none fs c es _ in ((λ f. ((all.0 f).0, bad.0 (all.0 f).1)), (λ f. all.1 (f.0, bad.1 f.1)))) t
    wrong_none w P e (sum V W) a t =
        sides_none (Fits form P V t) (Fits form P W t) (has_kind form V (kind_of t)) (has_kind form W (kind_of t)) (wrong form w V t) (wrong form w W t)
        (kind_told form P V t a.0.left) (kind_told form P W t a.0.right) (a.0.apart (kind_of t)) (wrong_none w P e V a.1 t) (wrong_none w P e W a.2 t)

    fields_none : (w : List ℕ → Plain → Option Place) (P : List ℕ → Plain → Type 0) → Tells w P → (fs : Fields) → FieldsApart form fs
        → (o : List ℕ → Plain → Option Place) (O : List ℕ → Plain → Type 0) → Tells o O → Tells (wrong_fields form w fs o) (FieldsFit form P fs O)
    fields_none w P e no_field a o O eo n t = eo n t
    fields_none w P e (field x p V fs) a o O eo n t = if_none (same_name n x) _ _ _ _ (wrong_none w P e V a.0 t) (fields_none w P e fs a.1 o O eo n t)

    choice_none : (w : List ℕ → Plain → Option Place) (P : List ℕ → Plain → Type 0) → Tells w P → (c : Choice) → ChoiceApart form c
        → (k : (List ℕ → Plain → Option Place) → List ℕ → Plain → Option Place) (C : (List ℕ → Plain → Type 0) → List ℕ → Plain → Type 0)
        → ((o : List ℕ → Plain → Option Place) (O : List ℕ → Plain → Type 0) → Tells o O → Tells (k o) (C O)) → (r : Rest) (es : Entries) → Tells (wrong_choice form w c k r es) (ChoiceFits form P c C r es)
    choice_none w P e no_choice a k C ek r es n t = ek (λ m u. unless (is_open r)) (Unknown r) (λ m u. unless_none (is_open r)) n t
    choice_none w P e (choice tag cs kept) a k C ek r es n t = if_none (same_name n tag) _ _ _ _ (λ f. tt, λ f. refl) (ek _ _ (cases_none w P e tag cs a r es) n t)

    cases_none : (w : List ℕ → Plain → Option Place) (P : List ℕ → Plain → Type 0) → Tells w P → (tag : List ℕ) (cs : Cases) → CasesApart form cs
        → (r : Rest) (es : Entries) → Tells (wrong_cases form w tag cs r es) (CasesFit form P tag cs r es)
    cases_none w P e tag no_case a r es n t = (λ f. tt, λ f. refl)
    cases_none w P e tag (case l fs cs) a r es n t =
        if_none (has_tag tag l es) _ _ _ _ (fields_none w P e fs a.0 (λ m u. unless (is_open r)) (Unknown r) (λ m u. unless_none (is_open r)) n t) (cases_none w P e tag cs a.1 r es n t)

  pub within_none : (body : List ℕ → Template) → ((n : List ℕ) → SumsApart form (body n)) → (k : ℕ) (n : List ℕ) (t : Plain) → (place_within form body k n t ≡ None) ↔ InhabitsWithin form body k n t
  within_none body a zero n t = (λ f. absurd (cc), λ f. absurd f)
  within_none body a (suc k) n t = wrong_none (place_within form body k) (InhabitsWithin form body k) (within_none body a k) (body n) (a n) t
