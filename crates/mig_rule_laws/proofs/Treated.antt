-- Treating the trees at points keeps a tidy tree tidy, and its kind, where it is so at the points.
use Rattle.std.proofs.Common.{◌≡◌, ℕ, List, [], ◌∷◌, Bool, true, false, MatchBool, inl, inr, refl, sym, ap, ap₂, subst, ◌∙◌, IsTrue}
use Rattle.std.specs.Prelude.{◌&&◌, map, if◌then◌else◌}
use Rattle.mig_model.specs.declared.form.Form.{Form}
use Rattle.mig_model.specs.declared.form.Form.TheVariants as F
use Rattle.mig_model.specs.declared.kind.Kind.{Kind}
use Rattle.mig_model.specs.declared.rest.Rest.{Rest}
use Rattle.mig_model.specs.Plain as plain
use Rattle.mig_model.specs.Plain.{Plain, Trees, no_tree, tree, Pairs, no_pair, pair, trees_of, items, pairs_of, entries, on_items, on_entries, each_entry}
use Rattle.mig_model.specs.Kinds.{kind_of, entries_of_pairs}
use Rattle.mig_model.specs.Names.{Ascends, same_name}
use Rattle.mig_model.specs.Template.{Template, leaf, any, list, point, rec, sum, Fields, no_field, field, Choice, no_choice, choice, Cases, no_case, case, same_kind}
use Rattle.mig_model.specs.Inhabits.{Entries, EachItem, IsListOf, EachEntry, IsMapOf, are_of_kind, have_one_kind, may_be_items, is_in_form, items_in_form, entries_in_form, has_tag, is_complete, Unknown, Fits, FieldsFit, ChoiceFits, CasesFit}
use Rattle.mig_model.proofs.Bools.{split_and, both_true}
use Rattle.mig_laws.specs.Sides.{SumsApart, FieldsApart, ChoiceApart, CasesApart}
use Rattle.mig_laws.proofs.Sides.{side_of}
use Rattle.mig_laws.proofs.Parts.{PassesDown}
use Rattle.mig_fold.specs.Fold.{treat, treat_fields, treat_choice, treat_cases}
use Rattle.mig_fold.proofs.Treats.{Treatment, treat_left, treat_right}
use Rattle.mig_field_laws.proofs.Nests.{ascends-each}
use Rattle.mig_rule_laws.specs.Premises.{AllAscend, ItemsAscend, TreesAscend, IsTidy}

-- tidiness passes down
tidy_items : (form : Form) (ts : Trees) → ItemsAscend ts → items_in_form form ts ≡ true → EachItem (IsTidy form) (items ts)
tidy_items form no_tree a e = tt
tidy_items form (tree t ts) a e = let both = split_and (is_in_form form t) (items_in_form form ts) e in (record { ascend = a.0; formed = both.0 }, tidy_items form ts a.1 both.1)

tidy_entries : (form : Form) (ps : Pairs) → TreesAscend ps → entries_in_form form ps ≡ true → EachEntry (λ n. IsTidy form) (entries ps)
tidy_entries form no_pair a e = tt
tidy_entries form (pair n t ps) a e = let both = split_and (is_in_form form t) (entries_in_form form ps) e in (record { ascend = a.0; formed = both.0 }, tidy_entries form ps a.1 both.1)

pub tidy_down : (form : Form) → PassesDown (IsTidy form)
tidy_down form (plain.list ts) b = tidy_items form ts b.ascend (split_and (may_be_items form ts) (items_in_form form ts) b.formed).1
tidy_down form (plain.map ps) b = tidy_entries form ps b.ascend.1 b.formed
tidy_down form t b = tt

-- ---- lists and maps of which each part stays tidy
module _ (form : Form) where
  -- the second is tidy and has the kind of the first
  abbrev pub Good : Plain → Plain → Type 0
  Good t u = IsTidy form u × (kind_of u ≡ kind_of t)

  module _ (A : Plain → Type 0) (g : Plain → Plain) (l : (t : Plain) → IsTidy form t → A t → Good t (g t)) where
    abbrev made : Trees → Trees
    made ts = trees_of (map g (items ts))

    record ItemsGood (ts : Trees) : Type 0 where
      ascend : ItemsAscend (made ts)
      formed : items_in_form form (made ts) ≡ true
      kinds : (k : Kind) → are_of_kind k (made ts) ≡ are_of_kind k ts
      one : have_one_kind (made ts) ≡ have_one_kind ts

    items_good : (ts : Trees) → ItemsAscend ts → items_in_form form ts ≡ true → EachItem A (items ts) → ItemsGood ts
    items_good no_tree b e s = record { ascend = tt; formed = refl; kinds = λ k. refl; one = refl }
    items_good (tree t ts) b e s =
        let both = split_and (is_in_form form t) (items_in_form form ts) e in
        let here = l t (record { ascend = b.0; formed = both.0 }) s.0 in
        let rest = items_good ts b.1 both.1 s.1 in
        record {
          ascend = (here.0.ascend, rest.ascend);
          formed = both_true (is_in_form form (g t)) (items_in_form form (made ts)) here.0.formed rest.formed;
          kinds = λ k. ap₂ (λ j b. same_kind j k && b) here.1 (rest.kinds k);
          one = ap (λ k. are_of_kind k (made ts)) here.1 ∙ rest.kinds (kind_of t);
        }

    may_be_good : (o : Form) (ts : Trees) → ItemsGood ts → may_be_items o (made ts) ≡ may_be_items o ts
    may_be_good F.Nbt ts m = m.one
    may_be_good F.Json ts m = refl

    pub list_good : (t : Plain) → IsTidy form t → IsListOf A t → Good t (on_items g t)
    list_good (plain.list ts) b s =
        let both = split_and (may_be_items form ts) (items_in_form form ts) b.formed in
        let m = items_good ts b.ascend both.1 s in
        (record { ascend = m.ascend; formed = both_true (may_be_items form (made ts)) (items_in_form form (made ts)) (may_be_good form ts m ∙ both.0) m.formed }, refl)
    list_good t b s = absurd s

  -- what is asked of the tree keeps it tidy
  abbrev Keeps : (List ℕ → Plain → Type 0) → Treatment → Type 0
  Keeps O o = (n : List ℕ) (t : Plain) → IsTidy form t → O n t → IsTidy form (o n t)

  abbrev entries_made : Treatment → Pairs → Pairs
  entries_made h ps = pairs_of (each_entry h (entries ps))

  record EntriesGood (h : Treatment) (ps : Pairs) : Type 0 where
    ascend : TreesAscend (entries_made h ps)
    formed : entries_in_form form (entries_made h ps) ≡ true

  entries_good : (h : Treatment) (A : List ℕ → Plain → Type 0) → Keeps A h → (ps : Pairs) → TreesAscend ps → entries_in_form form ps ≡ true → EachEntry A (entries ps) → EntriesGood h ps
  entries_good h A l no_pair b e s = record { ascend = tt; formed = refl }
  entries_good h A l (pair n t ps) b e s =
      let both = split_and (is_in_form form t) (entries_in_form form ps) e in
      let here = l n t (record { ascend = b.0; formed = both.0 }) s.0 in
      let rest = entries_good h A l ps b.1 both.1 s.1 in
      record { ascend = (here.ascend, rest.ascend); formed = both_true (is_in_form form (h n t)) (entries_in_form form (entries_made h ps)) here.formed rest.formed }

  pub map_good : (h : Entries → Treatment) (A : Entries → List ℕ → Plain → Type 0) (B : Entries → Type 0) → ((es : Entries) → Keeps (A es) (h es)) → (t : Plain) → IsTidy form t
      → IsMapOf (λ es. B es × EachEntry (A es) es) t → Good t (on_entries (λ es. each_entry (h es) es) t)
  map_good h A B l (plain.map ps) b s =
      let es : Entries = entries ps in
      let m = entries_good (h es) (A es) (l es) ps b.ascend.1 b.formed s.1 in
      (record { ascend = (subst (λ (q : Entries). Ascends q) (sym (entries_of_pairs (each_entry (h es) es))) (ascends-each (h es) es b.ascend.0), m.ascend); formed = m.formed }, refl)
  map_good h A B l t b s = absurd s

  keep_either : (q : Bool) (A B : Type 0) (x y : Plain) → (A → IsTidy form x) → (B → IsTidy form y) → MatchBool q A B → IsTidy form (if q then x else y)
  keep_either true A B x y a b s = a s
  keep_either false A B x y a b s = b s

  abbrev pub GoodAt : (List ℕ → Plain → Type 0) → Treatment → Type 0
  GoodAt P h = (n : List ℕ) (t : Plain) → IsTidy form t → P n t → Good t (h n t)

  mutual
    pub treat_good : (P : List ℕ → Plain → Type 0) (h : Treatment) → GoodAt P h → (V : Template) → SumsApart form V → (t : Plain) → IsTidy form t → Fits form P V t → Good t (treat form h V t)
    treat_good P h g (leaf k) a t b s = (b, refl)
    treat_good P h g any a t b s = (b, refl)
    treat_good P h g (list V) a t b s = list_good (Fits form P V) (treat form h V) (treat_good P h g V a) t b s
    treat_good P h g (point n) a t b s = g n t b s
    treat_good P h g (rec fs c r) a t b s =
        map_good (λ es. treat_choice form h c (treat_fields form h fs) es) (λ es. ChoiceFits form P c (FieldsFit form P fs) r es) (λ es. IsTrue (is_complete fs c es))
        (λ es. choice_good P h g c a.1 (treat_fields form h fs) (FieldsFit form P fs) (fields_good P h g fs a.0) r es) t b s
    treat_good P h g (sum V W) a t b s =
        elim (side_of form P V W t a.0 s) [
          | inl x ↦ subst (Good t) (sym (treat_left form h V W t x.0)) (treat_good P h g V a.1 t b x.1)
          | inr y ↦ subst (Good t) (sym (treat_right form h V W t y.0 y.1)) (treat_good P h g W a.2 t b y.2)
        ]

    fields_good : (P : List ℕ → Plain → Type 0) (h : Treatment) → GoodAt P h → (fs : Fields) → FieldsApart form fs → (O : List ℕ → Plain → Type 0) (o : Treatment) → Keeps O o
        → Keeps (FieldsFit form P fs O) (treat_fields form h fs o)
    fields_good P h g no_field a O o k n t b s = k n t b s
    fields_good P h g (field x p V fs) a O o k n t b s =
        keep_either (same_name n x) (Fits form P V t) (FieldsFit form P fs O n t) (treat form h V t) (treat_fields form h fs o n t) (λ w. (treat_good P h g V a.0 t b w).0)
        (fields_good P h g fs a.1 O o k n t b) s

    choice_good : (P : List ℕ → Plain → Type 0) (h : Treatment) → GoodAt P h → (c : Choice) → ChoiceApart form c
        → (k : Treatment → Treatment) (C : (List ℕ → Plain → Type 0) → List ℕ → Plain → Type 0)
        → ((O : List ℕ → Plain → Type 0) (o : Treatment) → Keeps O o → Keeps (C O) (k o)) → (r : Rest) (es : Entries) → Keeps (ChoiceFits form P c C r es) (treat_choice form h c k es)
    choice_good P h g no_choice a k C q r es n t b s = q (Unknown r) (λ m u. u) (λ m u d w. d) n t b s
    choice_good P h g (choice tag cs kept) a k C q r es n t b s =
        keep_either (same_name n tag) (Unit {0}) (C (CasesFit form P tag cs r es) n t) t (k (treat_cases form h tag cs es) n t) (λ w. b)
        (q (CasesFit form P tag cs r es) (treat_cases form h tag cs es) (cases_good P h g tag cs a r es) n t b) s

    cases_good : (P : List ℕ → Plain → Type 0) (h : Treatment) → GoodAt P h → (tag : List ℕ) (cs : Cases) → CasesApart form cs → (r : Rest) (es : Entries)
        → Keeps (CasesFit form P tag cs r es) (treat_cases form h tag cs es)
    cases_good P h g tag no_case a r es n t b s = b
    cases_good P h g tag (case l fs cs) a r es n t b s =
        keep_either (has_tag tag l es) (FieldsFit form P fs (Unknown r) n t) (CasesFit form P tag cs r es n t) (treat_fields form h fs (λ m u. u) n t) (treat_cases form h tag cs es n t)
        (fields_good P h g fs a.0 (Unknown r) (λ m u. u) (λ m u d w. d) n t b) (cases_good P h g tag cs a.1 r es n t b) s
