-- Where each child's trees are led from the child to another template, the trees of the whole are led so.
use Rattle.std.proofs.Common.{◌≡◌, ℕ, List, [], ◌∷◌, Bool, true, false, true≢false, Option, Some, None, MatchBool, inl, inr, refl, sym, ap, ap₂, subst, ◌∙◌}
use Rattle.std.specs.Prelude.{suc, ◌++◌, length, not, ◌&&◌, ◌||◌, ◌==◌, is_some, option_map, map, if◌then◌else◌}
use Rattle.std.specs.List.{list_any, AllByRecursion}
use Rattle.std.specs.Map.{keys_of}
use Rattle.std.specs.List.Sorted.{IsStrictlySortedBy}
use Rattle.std.proofs.lemmas.Bool.{false_from_ne_true}
use Rattle.std.proofs.lemmas.List.Folds.{list_any-append}
use Rattle.mig_model.specs.declared.form.Form.{Form}
use Rattle.mig_model.specs.declared.form.Form.TheVariants as F
use Rattle.mig_model.specs.declared.kind.Kind.{Kind}
use Rattle.mig_model.specs.declared.rest.Rest.{Rest}
use Rattle.mig_model.specs.Plain as plain
use Rattle.mig_model.specs.Plain.{Plain, Trees, no_tree, tree, Pairs, no_pair, pair, trees_of, items, pairs_of, entries, on_items, on_entries, each_entry}
use Rattle.mig_model.specs.Kinds.{kind_of, entries_of_pairs}
use Rattle.mig_model.specs.Names.{Ascends, by_bytes, under, same_name, is_among, has_twice}
use Rattle.mig_model.specs.Template.{Template, leaf, any, list, point, rec, sum, Fields, no_field, field, field_list, Choice, no_choice, choice, Cases, no_case, case, case_list, has_kind, same_kind, is_must}
use Rattle.mig_model.specs.TemplateKept.{TemplateKept, FieldsKept, ChoiceKept, CasesKept}
use Rattle.mig_model.specs.Record as template
use Rattle.mig_model.specs.Record.{IsRecord, CasesAscend, cases_in, is_twice_named, is_twice_in, has_twice_in, has_no_case}
use Rattle.mig_model.specs.Family.{any_inside, any_in_fields, any_in_choice, any_in_cases, is_wrong_leaf}
use Rattle.mig_model.specs.Inhabits.{Entries, EachItem, IsListOf, EachEntry, IsMapOf, are_of_kind, have_one_kind, may_be_items, is_in_form, items_in_form, entries_in_form, is_text, is_some_text, has_tag, has_musts, has_case, is_complete, Unknown, Fits, FieldsFit, ChoiceFits, CasesFit}
use Rattle.mig_model.proofs.Bools.{split_and, split_or, both_true, both_false, left_or}
use Rattle.mig_model.proofs.SameNames.{same_name_is, same_name_itself}
use Rattle.mig_laws.specs.Sides.{is_side, AreSides, SumsApart, FieldsApart, ChoiceApart, CasesApart}
use Rattle.mig_laws.proofs.Sides.{side_of}
use Rattle.mig_laws.proofs.Tests.{if_agree}
use Rattle.mig_fold.proofs.Treats.{Treatment, found_each, tag_found}
use Rattle.mig_action.proofs.Distinct.{apart_in}
use Rattle.mig_field_laws.proofs.Nests.{ascends-each}
use Rattle.mig_rule.specs.Children.{Child, field_children, case_children, choice_children, children, map_fields, map_cases, map_choice, map_children, field_child, case_child, choice_child, entry_child, at_child, at_children}
use Rattle.mig_rule_laws.specs.Premises.{AllAscend, ItemsAscend, TreesAscend, IsTidy, IsSound}

-- ---- what each child has
abbrev pub FieldsHave : (Child → Type 0) → Fields → Type 0
FieldsHave Q no_field = Unit {0}
FieldsHave Q (field x p V fs) = Q (Some x, V) × FieldsHave Q fs

abbrev pub CasesHave : (Child → Type 0) → Cases → Type 0
CasesHave Q no_case = Unit {0}
CasesHave Q (case l fs cs) = FieldsHave Q fs × CasesHave Q cs

abbrev pub ChoiceHas : (Child → Type 0) → Choice → Type 0
ChoiceHas Q no_choice = Unit {0}
ChoiceHas Q (choice tag cs kept) = CasesHave Q cs

abbrev pub ChildrenHave : (Child → Type 0) → Template → Type 0
ChildrenHave Q (list V) = Q (None, V)
ChildrenHave Q (rec fs c r) = FieldsHave Q fs × ChoiceHas Q c
ChildrenHave Q (sum V W) = Q (None, V) × Q (None, W)
ChildrenHave Q V = Unit {0}

module _ (A B C : Child → Type 0) (g : (c : Child) → A c → B c → C c) where
  fields_have : (fs : Fields) → FieldsHave A fs → FieldsHave B fs → FieldsHave C fs
  fields_have no_field a b = tt
  fields_have (field x p V fs) a b = (g (Some x, V) a.0 b.0, fields_have fs a.1 b.1)

  cases_have : (cs : Cases) → CasesHave A cs → CasesHave B cs → CasesHave C cs
  cases_have no_case a b = tt
  cases_have (case l fs cs) a b = (fields_have fs a.0 b.0, cases_have cs a.1 b.1)

  choice_has : (c : Choice) → ChoiceHas A c → ChoiceHas B c → ChoiceHas C c
  choice_has no_choice a b = tt
  choice_has (choice tag cs kept) a b = cases_have cs a b

  pub children_have : (V : Template) → ChildrenHave A V → ChildrenHave B V → ChildrenHave C V
  children_have (leaf k) a b = tt
  children_have any a b = tt
  children_have (list V) a b = g (None, V) a b
  children_have (point n) a b = tt
  children_have (rec fs c r) a b = (fields_have fs a.0 b.0, choice_has c a.1 b.1)
  children_have (sum V W) a b = (g (None, V) a.0 b.0, g (None, W) a.1 b.1)

-- of which none passes a test
module _ (p : Child → Bool) where
  abbrev Fails : Child → Type 0
  Fails c = p c ≡ false

  fields_fail : (fs : Fields) → list_any p (field_children fs) ≡ false → FieldsHave Fails fs
  fields_fail no_field e = tt
  fields_fail (field x q V fs) e = let both = split_or (p (Some x, V)) (list_any p (field_children fs)) e in (both.0, fields_fail fs both.1)

  cases_fail : (cs : Cases) → list_any p (case_children cs) ≡ false → CasesHave Fails cs
  cases_fail no_case e = tt
  cases_fail (case l fs cs) e =
      let both = split_or (list_any p (field_children fs)) (list_any p (case_children cs)) (sym (list_any-append p (field_children fs) (case_children cs)) ∙ e) in
      (fields_fail fs both.0, cases_fail cs both.1)

  choice_fails : (c : Choice) → list_any p (choice_children c) ≡ false → ChoiceHas Fails c
  choice_fails no_choice e = tt
  choice_fails (choice tag cs kept) e = cases_fail cs e

  pub children_fail : (V : Template) → list_any p (children V) ≡ false → ChildrenHave Fails V
  children_fail (leaf k) e = tt
  children_fail any e = tt
  children_fail (list V) e = (split_or (p (None, V)) false e).0
  children_fail (point n) e = tt
  children_fail (rec fs c r) e =
      let both = split_or (list_any p (field_children fs)) (list_any p (choice_children c)) (sym (list_any-append p (field_children fs) (choice_children c)) ∙ e) in
      (fields_fail fs both.0, choice_fails c both.1)
  children_fail (sum V W) e = let both = split_or (p (None, V)) (p (None, W) || false) e in (both.0, (split_or (p (None, W)) false both.1).0)

-- every child
module _ (Q : Child → Type 0) (q : (c : Child) → Q c) where
  fields_all : (fs : Fields) → FieldsHave Q fs
  fields_all no_field = tt
  fields_all (field x p V fs) = (q (Some x, V), fields_all fs)

  cases_all : (cs : Cases) → CasesHave Q cs
  cases_all no_case = tt
  cases_all (case l fs cs) = (fields_all fs, cases_all cs)

  choice_all : (c : Choice) → ChoiceHas Q c
  choice_all no_choice = tt
  choice_all (choice tag cs kept) = cases_all cs

  pub children_all : (V : Template) → ChildrenHave Q V
  children_all (leaf k) = tt
  children_all any = tt
  children_all (list V) = q (None, V)
  children_all (point n) = tt
  children_all (rec fs c r) = (fields_all fs, choice_all c)
  children_all (sum V W) = (q (None, V), q (None, W))

-- where each child stays, the template does
module _ (f : Child → Template) where
  abbrev Stays : Child → Type 0
  Stays c = f c ≡ c.1

  fields_same : (fs : Fields) → FieldsHave Stays fs → map_fields f fs ≡ fs
  fields_same no_field e = refl
  fields_same (field x p V fs) e = ap₂ (λ W gs. field x p W gs) e.0 (fields_same fs e.1)

  cases_same : (cs : Cases) → CasesHave Stays cs → map_cases f cs ≡ cs
  cases_same no_case e = refl
  cases_same (case l fs cs) e = ap₂ (λ gs ds. case l gs ds) (fields_same fs e.0) (cases_same cs e.1)

  choice_same : (c : Choice) → ChoiceHas Stays c → map_choice f c ≡ c
  choice_same no_choice e = refl
  choice_same (choice tag cs kept) e = ap (λ ds. choice tag ds kept) (cases_same cs e)

  pub children_same : (V : Template) → ChildrenHave Stays V → map_children f V ≡ V
  children_same (leaf k) e = refl
  children_same any e = refl
  children_same (list V) e = ap list e
  children_same (point n) e = refl
  children_same (rec fs c r) e = ap₂ (λ gs d. rec gs d r) (fields_same fs e.0) (choice_same c e.1)
  children_same (sum V W) e = ap₂ sum e.0 e.1

-- ---- the names of a record with other children
module _ (f : Child → Template) where
  keys_same : (fs : Fields) → keys_of (field_list (map_fields f fs)) ≡ keys_of (field_list fs)
  keys_same no_field = refl
  keys_same (field x p V fs) = ap (λ (ks : List (List ℕ)). x ∷ ks) (keys_same fs)

  literals_same : (cs : Cases) → keys_of (case_list (map_cases f cs)) ≡ keys_of (case_list cs)
  literals_same no_case = refl
  literals_same (case l fs cs) = ap (λ (ks : List (List ℕ)). l ∷ ks) (literals_same cs)

  length_same : (cs : Cases) → length (case_list (map_cases f cs)) ≡ length (case_list cs)
  length_same no_case = refl
  length_same (case l fs cs) = ap suc (length_same cs)

  twice_same : (others : List (List ℕ)) (cs : Cases) → list_any (has_twice_in others) (case_list (map_cases f cs)) ≡ list_any (has_twice_in others) (case_list cs)
  twice_same others no_case = refl
  twice_same others (case l fs cs) = ap₂ ◌||◌ (ap (λ (ks : List (List ℕ)). has_twice (ks ++ others)) (keys_same fs)) (twice_same others cs)

  cases_ascend : (cs : Cases) → AllByRecursion (λ (d : template.Case). Ascends d.1) (case_list cs) → AllByRecursion (λ (d : template.Case). Ascends d.1) (case_list (map_cases f cs))
  cases_ascend no_case a = tt
  cases_ascend (case l fs cs) a = (subst (IsStrictlySortedBy by_bytes) (sym (keys_same fs)) a.0, cases_ascend cs a.1)

  still_record : (fs : Fields) (c : Choice) → IsRecord (field_list fs) (cases_in c) → IsRecord (field_list (map_fields f fs)) (cases_in (map_choice f c))
  still_record fs no_choice i = record {
    fields = subst (IsStrictlySortedBy by_bytes) (sym (keys_same fs)) i.fields;
    cases = tt;
    distinct = ap has_twice (keys_same fs) ∙ i.distinct;
    some = refl;
  }
  still_record fs (choice tag cs kept) i = record {
    fields = subst (IsStrictlySortedBy by_bytes) (sym (keys_same fs)) i.fields;
    cases = (subst (IsStrictlySortedBy by_bytes) (sym (literals_same cs)) i.cases.0, cases_ascend cs i.cases.1);
    distinct =
        ap₂ ◌||◌ (ap (λ (ks : List (List ℕ)). has_twice (tag ∷ ks)) (keys_same fs))
        (ap₂ ◌||◌ (twice_same (tag ∷ keys_of (field_list (map_fields f fs))) cs ∙ ap (λ (ks : List (List ℕ)). list_any (has_twice_in (tag ∷ ks)) (case_list cs)) (keys_same fs)) (ap has_twice (literals_same cs)))
        ∙ i.distinct;
    some = ap (λ n. n == 0) (length_same cs) ∙ i.some;
  }

-- ---- sound templates have sound children
module _ (form : Form) where
  abbrev pub SoundAt : (Child → Template) → Child → Type 0
  SoundAt f c = IsSound form (f c)

  abbrev pub Itself : Child → Template
  Itself c = c.1

  fields_sound : (fs : Fields) → FieldsKept fs → FieldsApart form fs → any_in_fields (is_wrong_leaf form) fs ≡ false → FieldsHave (SoundAt Itself) fs
  fields_sound no_field k a e = tt
  fields_sound (field x p V fs) k a e =
      let both = split_or (any_inside (is_wrong_leaf form) V) (any_in_fields (is_wrong_leaf form) fs) e in
      (record { kept = k.0; apart = a.0; right = both.0 }, fields_sound fs k.1 a.1 both.1)

  cases_sound : (cs : Cases) → CasesKept cs → CasesApart form cs → any_in_cases (is_wrong_leaf form) cs ≡ false → CasesHave (SoundAt Itself) cs
  cases_sound no_case k a e = tt
  cases_sound (case l fs cs) k a e =
      let both = split_or (any_in_fields (is_wrong_leaf form) fs) (any_in_cases (is_wrong_leaf form) cs) e in
      (fields_sound fs k.0 a.0 both.0, cases_sound cs k.1 a.1 both.1)

  choice_sound : (c : Choice) → ChoiceKept c → ChoiceApart form c → any_in_choice (is_wrong_leaf form) c ≡ false → ChoiceHas (SoundAt Itself) c
  choice_sound no_choice k a e = tt
  choice_sound (choice tag cs kept) k a e = cases_sound cs k a e

  pub children_sound : (V : Template) → IsSound form V → ChildrenHave (SoundAt Itself) V
  children_sound (leaf k) s = tt
  children_sound any s = tt
  children_sound (list V) s = record { kept = s.kept; apart = s.apart; right = s.right }
  children_sound (point n) s = tt
  children_sound (rec fs c r) s =
      let both = split_or (any_in_fields (is_wrong_leaf form) fs) (any_in_choice (is_wrong_leaf form) c) s.right in
      (fields_sound fs s.kept.1.0 s.apart.0 both.0, choice_sound c s.kept.1.1 s.apart.1 both.1)
  children_sound (sum V W) s =
      let both = split_or (any_inside (is_wrong_leaf form) V) (any_inside (is_wrong_leaf form) W) s.right in
      (record { kept = s.kept.0; apart = s.apart.1; right = both.0 }, record { kept = s.kept.1; apart = s.apart.2; right = both.1 })

  module _ (f : Child → Template) where
    abbrev FieldsAre : Fields → Type 0
    FieldsAre fs = FieldsKept fs × FieldsApart form fs × (any_in_fields (is_wrong_leaf form) fs ≡ false)

    abbrev CasesAre : Cases → Type 0
    CasesAre cs = CasesKept cs × CasesApart form cs × (any_in_cases (is_wrong_leaf form) cs ≡ false)

    abbrev ChoiceIs : Choice → Type 0
    ChoiceIs c = ChoiceKept c × ChoiceApart form c × (any_in_choice (is_wrong_leaf form) c ≡ false)

    of_fields : (fs : Fields) → FieldsHave (SoundAt f) fs → FieldsAre (map_fields f fs)
    of_fields no_field s = (tt, tt, refl)
    of_fields (field x p V fs) s =
        let rest = of_fields fs s.1 in
        ((s.0.kept, rest.0), (s.0.apart, rest.1), both_false (any_inside (is_wrong_leaf form) (f (Some x, V))) (any_in_fields (is_wrong_leaf form) (map_fields f fs)) s.0.right rest.2)

    of_cases : (cs : Cases) → CasesHave (SoundAt f) cs → CasesAre (map_cases f cs)
    of_cases no_case s = (tt, tt, refl)
    of_cases (case l fs cs) s =
        let here = of_fields fs s.0 in
        let rest = of_cases cs s.1 in
        ((here.0, rest.0), (here.1, rest.1), both_false (any_in_fields (is_wrong_leaf form) (map_fields f fs)) (any_in_cases (is_wrong_leaf form) (map_cases f cs)) here.2 rest.2)

    of_choice : (c : Choice) → ChoiceHas (SoundAt f) c → ChoiceIs (map_choice f c)
    of_choice no_choice s = (tt, tt, refl)
    of_choice (choice tag cs kept) s = of_cases cs s

    pub record_sound : (fs : Fields) (c : Choice) (r : Rest) → IsRecord (field_list fs) (cases_in c) → FieldsHave (SoundAt f) fs → ChoiceHas (SoundAt f) c
        → IsSound form (rec (map_fields f fs) (map_choice f c) r)
    record_sound fs c r i s t =
        let fields = of_fields fs s in
        let cased = of_choice c t in
        record {
          kept = (still_record f fs c i, (fields.0, cased.0));
          apart = (fields.1, cased.1);
          right = both_false (any_in_fields (is_wrong_leaf form) (map_fields f fs)) (any_in_choice (is_wrong_leaf form) (map_choice f c)) fields.2 cased.2;
        }

-- ---- what an action on trees does between two templates
pub record Step (form : Form) (P : List ℕ → Plain → Type 0) (V W : Template) (A : Plain → Plain) : Type 0 where
  pub sound : IsSound form V → IsSound form W
  pub alike : (k : Kind) → has_kind form W k ≡ has_kind form V k
  pub side : is_side V ≡ true → is_side W ≡ true
  pub kind : (t : Plain) → kind_of (A t) ≡ kind_of t
  pub leads : IsSound form V → (t : Plain) → IsTidy form t → Fits form P V t → IsTidy form (A t) × Fits form P W (A t)

there_each : (g : Treatment) (x : List ℕ) (es : Entries) → is_some (under x (each_entry g es)) ≡ is_some (under x es)
there_each g x es = ap is_some (found_each g x es) ∙ kept (under x es)
  where
    kept : (o : Option Plain) → is_some (option_map (g x) o) ≡ is_some o
    kept None = refl
    kept (Some t) = refl

kind_on_items : (f : Plain → Plain) (t : Plain) → kind_of (on_items f t) ≡ kind_of t
kind_on_items f (plain.list ts) = refl
kind_on_items f t = refl

kind_on_entries : (f : Entries → Entries) (t : Plain) → kind_of (on_entries f t) ≡ kind_of t
kind_on_entries f (plain.map ps) = refl
kind_on_entries f t = refl

module _ (form : Form) (P : List ℕ → Plain → Type 0) (f : Child → Template) (a : Child → Plain → Plain) where
  -- the trees of a child are led to its new template
  abbrev Leads : Child → Type 0
  Leads c = (t : Plain) → IsTidy form t → Fits form P c.1 t → IsTidy form (a c t) × Fits form P (f c) (a c t)

  -- ---- lists
  module _ (V W : Template) (g : Plain → Plain) (kind : (t : Plain) → kind_of (g t) ≡ kind_of t)
      (l : (t : Plain) → IsTidy form t → Fits form P V t → IsTidy form (g t) × Fits form P W (g t)) where
    abbrev made : Trees → Trees
    made ts = trees_of (map g (items ts))

    record AreMade (ts : Trees) : Type 0 where
      ascend : ItemsAscend (made ts)
      formed : items_in_form form (made ts) ≡ true
      fit : EachItem (Fits form P W) (items (made ts))

    items_made : (ts : Trees) → ItemsAscend ts → items_in_form form ts ≡ true → EachItem (Fits form P V) (items ts) → AreMade ts
    items_made no_tree b e s = record { ascend = tt; formed = refl; fit = tt }
    items_made (tree t ts) b e s =
        let both = split_and (is_in_form form t) (items_in_form form ts) e in
        let here = l t (record { ascend = b.0; formed = both.0 }) s.0 in
        let rest = items_made ts b.1 both.1 s.1 in
        record {
          ascend = (here.0.ascend, rest.ascend);
          formed = both_true (is_in_form form (g t)) (items_in_form form (made ts)) here.0.formed rest.formed;
          fit = (here.1, rest.fit);
        }

    kinds_made : (k : Kind) (ts : Trees) → are_of_kind k (made ts) ≡ are_of_kind k ts
    kinds_made k no_tree = refl
    kinds_made k (tree t ts) = ap₂ (λ j b. same_kind j k && b) (kind t) (kinds_made k ts)

    one_made : (ts : Trees) → have_one_kind (made ts) ≡ have_one_kind ts
    one_made no_tree = refl
    one_made (tree t ts) = ap (λ k. are_of_kind k (made ts)) (kind t) ∙ kinds_made (kind_of t) ts

    may_be_made : (o : Form) (ts : Trees) → may_be_items o (made ts) ≡ may_be_items o ts
    may_be_made F.Nbt ts = one_made ts
    may_be_made F.Json ts = refl

    pub list_leads : (t : Plain) → IsTidy form t → Fits form P (list V) t → IsTidy form (on_items g t) × Fits form P (list W) (on_items g t)
    list_leads (plain.list ts) b s =
        let both = split_and (may_be_items form ts) (items_in_form form ts) b.formed in
        let m = items_made ts b.ascend both.1 s in
        (record { ascend = m.ascend; formed = both_true (may_be_items form (made ts)) (items_in_form form (made ts)) (may_be_made form ts ∙ both.0) m.formed }, m.fit)
    list_leads t b s = absurd s

  -- ---- the trees of fields
  abbrev done : Fields → (Plain → Plain) → List ℕ → Plain → Plain
  done no_field o n u = o u
  done (field x p V fs) o n u = if same_name n x then a (Some x, V) u else done fs o n u

  abbrev at_entry : Fields → Choice → Entries → List ℕ → Plain → Plain
  at_entry fs c es n u = at_child a (entry_child n fs c es) u

  entry_is : (fs : Fields) (c : Choice) (es : Entries) (n : List ℕ) (u : Plain) → at_entry fs c es n u ≡ done fs (λ v. at_child a (choice_child n c es) v) n u
  entry_is no_field c es n u = refl
  entry_is (field x p V fs) c es n u = by (same_name n x) refl (entry_is fs c es n u)
    where
      by : (b : Bool) → same_name n x ≡ b → at_entry fs c es n u ≡ done fs (λ v. at_child a (choice_child n c es) v) n u
          → at_entry (field x p V fs) c es n u ≡ done (field x p V fs) (λ v. at_child a (choice_child n c es) v) n u
      by true e rest = rw e refl
      by false e rest = rw e rest

  child_is : (fs : Fields) (n : List ℕ) (u : Plain) → at_child a (field_child n fs) u ≡ done fs (λ v. v) n u
  child_is no_field n u = refl
  child_is (field x p V fs) n u = by (same_name n x) (child_is fs n u)
    where
      by : (b : Bool) → at_child a (field_child n fs) u ≡ done fs (λ v. v) n u
          → at_child a (if b then Some (Some x, V) else field_child n fs) u ≡ (if b then a (Some x, V) u else done fs (λ v. v) n u)
      by true rest = refl
      by false rest = rest

  fields_lead : (fs : Fields) → FieldsHave Leads fs → (O O' : List ℕ → Plain → Type 0) (o : Plain → Plain) (n : List ℕ) (t : Plain) → (O n t → IsTidy form (o t) × O' n (o t))
      → IsTidy form t → FieldsFit form P fs O n t → IsTidy form (done fs o n t) × FieldsFit form P (map_fields f fs) O' n (done fs o n t)
  fields_lead no_field l O O' o n t h b s = h s
  fields_lead (field x p V fs) l O O' o n t h b s = by (same_name n x) (l.0 t b) (fields_lead fs l.1 O O' o n t h b) s
    where
      by : (q : Bool) → (Fits form P V t → IsTidy form (a (Some x, V) t) × Fits form P (f (Some x, V)) (a (Some x, V) t))
          → (FieldsFit form P fs O n t → IsTidy form (done fs o n t) × FieldsFit form P (map_fields f fs) O' n (done fs o n t))
          → MatchBool q (Fits form P V t) (FieldsFit form P fs O n t)
          → IsTidy form (if q then a (Some x, V) t else done fs o n t)
          × MatchBool q (Fits form P (f (Some x, V)) (if q then a (Some x, V) t else done fs o n t)) (FieldsFit form P (map_fields f fs) O' n (if q then a (Some x, V) t else done fs o n t))
      by true here rest s = here s
      by false here rest s = rest s

  cases_lead : (cs : Cases) → CasesHave Leads cs → (tag : List ℕ) (r : Rest) (es es' : Entries) → ((l : List ℕ) → has_tag tag l es' ≡ has_tag tag l es) → (n : List ℕ) (t : Plain) → IsTidy form t
      → CasesFit form P tag cs r es n t → IsTidy form (at_child a (case_child n tag cs es) t) × CasesFit form P tag (map_cases f cs) r es' n (at_child a (case_child n tag cs es) t)
  cases_lead no_case l tag r es es' et n t b s = (b, tt)
  cases_lead (case k fs cs) l tag r es es' et n t b s =
      let u : Plain = at_child a (case_child n tag (case k fs cs) es) t in
      subst (λ (q : Bool). IsTidy form u × MatchBool q (FieldsFit form P (map_fields f fs) (Unknown r) n u) (CasesFit form P tag (map_cases f cs) r es' n u)) (sym (et k))
      (by (has_tag tag k es) here (cases_lead cs l.1 tag r es es' et n t b) s)
    where
      here : FieldsFit form P fs (Unknown r) n t → IsTidy form (at_child a (field_child n fs) t) × FieldsFit form P (map_fields f fs) (Unknown r) n (at_child a (field_child n fs) t)
      here s = subst (λ u. IsTidy form u × FieldsFit form P (map_fields f fs) (Unknown r) n u) (sym (child_is fs n t)) (fields_lead fs l.0 (Unknown r) (Unknown r) (λ v. v) n t (λ w. (b, w)) b s)

      by : (q : Bool) → (FieldsFit form P fs (Unknown r) n t → IsTidy form (at_child a (field_child n fs) t) × FieldsFit form P (map_fields f fs) (Unknown r) n (at_child a (field_child n fs) t))
          → (CasesFit form P tag cs r es n t → IsTidy form (at_child a (case_child n tag cs es) t) × CasesFit form P tag (map_cases f cs) r es' n (at_child a (case_child n tag cs es) t))
          → MatchBool q (FieldsFit form P fs (Unknown r) n t) (CasesFit form P tag cs r es n t)
          → IsTidy form (at_child a (if q then field_child n fs else case_child n tag cs es) t)
          × MatchBool q (FieldsFit form P (map_fields f fs) (Unknown r) n (at_child a (if q then field_child n fs else case_child n tag cs es) t))
          (CasesFit form P tag (map_cases f cs) r es' n (at_child a (if q then field_child n fs else case_child n tag cs es) t))
      by true h rest s = h s
      by false h rest s = rest s

  -- ---- the tag stays
  done_past : (fs : Fields) (o : Plain → Plain) (n : List ℕ) (u : Plain) → is_among (keys_of (field_list fs)) n ≡ false → done fs o n u ≡ o u
  done_past no_field o n u e = refl
  done_past (field x p V fs) o n u e =
      let both = split_or (same_name n x) (is_among (keys_of (field_list fs)) n) e in
      ap (λ q. if q then a (Some x, V) u else done fs o n u) both.0 ∙ done_past fs o n u both.1

  case_past : (others : List (List ℕ)) → has_twice others ≡ false → (n : List ℕ) → is_among others n ≡ true → (cs : Cases) → list_any (has_twice_in others) (case_list cs) ≡ false
      → (tag : List ℕ) (es : Entries) (u : Plain) → at_child a (case_child n tag cs es) u ≡ u
  case_past others o n i no_case e tag es u = refl
  case_past others o n i (case l fs cs) e tag es u = by (has_tag tag l es) (case_past others o n i cs both.1 tag es u)
    where
      both : (has_twice (keys_of (field_list fs) ++ others) ≡ false) × (list_any (has_twice_in others) (case_list cs) ≡ false)
      both = split_or (has_twice (keys_of (field_list fs) ++ others)) (list_any (has_twice_in others) (case_list cs)) e

      no_field_of : is_among (keys_of (field_list fs)) n ≡ false
      no_field_of = false_from_ne_true (is_among (keys_of (field_list fs)) n) (λ h. true≢false (sym i ∙ apart_in (keys_of (field_list fs)) others both.0 o n h))

      by : (q : Bool) → at_child a (case_child n tag cs es) u ≡ u → at_child a (if q then field_child n fs else case_child n tag cs es) u ≡ u
      by true rest = child_is fs n u ∙ done_past fs (λ v. v) n u no_field_of
      by false rest = rest

  tag_stays : (fs : Fields) (tag : List ℕ) (cs : Cases) (kept : Bool) → IsRecord (field_list fs) (cases_in (choice tag cs kept)) → (es : Entries) (u : Plain)
      → at_entry fs (choice tag cs kept) es tag u ≡ u
  tag_stays fs tag cs kept i es u =
      let s = split_or (has_twice (tag ∷ keys_of (field_list fs))) (is_twice_in (tag ∷ keys_of (field_list fs)) (case_list cs)) i.distinct in
      let c = split_or (list_any (has_twice_in (tag ∷ keys_of (field_list fs))) (case_list cs)) (has_twice (keys_of (case_list cs))) s.1 in
      let first = split_or (is_among (keys_of (field_list fs)) tag) (has_twice (keys_of (field_list fs))) s.0 in
      entry_is fs (choice tag cs kept) es tag u ∙ done_past fs (λ v. at_child a (case_child tag tag cs es) v) tag u first.0
      ∙ case_past (tag ∷ keys_of (field_list fs)) s.0 tag (left_or (same_name tag tag) (is_among (keys_of (field_list fs)) tag) (same_name_itself tag)) cs c.0 tag es u

  -- ---- one entry of a map
  entry_leads : (fs : Fields) (c : Choice) (r : Rest) → IsRecord (field_list fs) (cases_in c) → FieldsHave Leads fs → ChoiceHas Leads c → (es : Entries) (n : List ℕ) (t : Plain) → IsTidy form t
      → ChoiceFits form P c (FieldsFit form P fs) r es n t
      → IsTidy form (at_entry fs c es n t)
      × ChoiceFits form P (map_choice f c) (FieldsFit form P (map_fields f fs)) r (each_entry (at_entry fs c es) es) n (at_entry fs c es n t)
  entry_leads fs no_choice r i l m es n t b s =
      subst (λ u. IsTidy form u × FieldsFit form P (map_fields f fs) (Unknown r) n u) (sym (entry_is fs no_choice es n t)) (fields_lead fs l (Unknown r) (Unknown r) (λ v. v) n t (λ w. (b, w)) b s)
  entry_leads fs (choice tag cs kept) r i l m es n t b s = by (same_name n tag) refl s
    where
      g : List ℕ → Plain → Plain
      g = at_entry fs (choice tag cs kept) es

      after : Entries
      after = each_entry g es

      tags : (k : List ℕ) → has_tag tag k after ≡ has_tag tag k es
      tags k = ap (is_text k) (tag_found g tag es (tag_stays fs tag cs kept i es))

      inside : FieldsFit form P fs (CasesFit form P tag cs r es) n t → IsTidy form (g n t) × FieldsFit form P (map_fields f fs) (CasesFit form P tag (map_cases f cs) r after) n (g n t)
      inside s =
          subst (λ u. IsTidy form u × FieldsFit form P (map_fields f fs) (CasesFit form P tag (map_cases f cs) r after) n u) (sym (entry_is fs (choice tag cs kept) es n t))
          (fields_lead fs l (CasesFit form P tag cs r es) (CasesFit form P tag (map_cases f cs) r after) (λ v. at_child a (case_child n tag cs es) v) n t
          (cases_lead cs m tag r es after tags n t b) b s)

      by : (q : Bool) → same_name n tag ≡ q → MatchBool q (Unit {0}) (FieldsFit form P fs (CasesFit form P tag cs r es) n t)
          → IsTidy form (g n t) × MatchBool q (Unit {0}) (FieldsFit form P (map_fields f fs) (CasesFit form P tag (map_cases f cs) r after) n (g n t))
      by true e s = (subst (λ u. IsTidy form u) (sym (ap (λ m. g m t) (same_name_is n tag e) ∙ tag_stays fs tag cs kept i es t)) b, tt)
      by false e s = inside s

  -- ---- all entries
  abbrev entries_made : Treatment → Pairs → Pairs
  entries_made h ps = pairs_of (each_entry h (entries ps))

  record EntriesMade (h : Treatment) (B : List ℕ → Plain → Type 0) (ps : Pairs) : Type 0 where
    ascend : TreesAscend (entries_made h ps)
    formed : entries_in_form form (entries_made h ps) ≡ true
    fit : EachEntry B (each_entry h (entries ps))

  each_leads : (h : Treatment) (A B : List ℕ → Plain → Type 0) → ((n : List ℕ) (t : Plain) → IsTidy form t → A n t → IsTidy form (h n t) × B n (h n t)) → (ps : Pairs) → TreesAscend ps
      → entries_in_form form ps ≡ true → EachEntry A (entries ps) → EntriesMade h B ps
  each_leads h A B l no_pair b e s = record { ascend = tt; formed = refl; fit = tt }
  each_leads h A B l (pair n t ps) b e s =
      let both = split_and (is_in_form form t) (entries_in_form form ps) e in
      let here = l n t (record { ascend = b.0; formed = both.0 }) s.0 in
      let rest = each_leads h A B l ps b.1 both.1 s.1 in
      record {
        ascend = (here.0.ascend, rest.ascend);
        formed = both_true (is_in_form form (h n t)) (entries_in_form form (entries_made h ps)) here.0.formed rest.formed;
        fit = (here.1, rest.fit);
      }

  musts_same : (h : Treatment) (es : Entries) (fs : Fields) → has_musts (map_fields f fs) (each_entry h es) ≡ has_musts fs es
  musts_same h es no_field = refl
  musts_same h es (field x p V fs) = ap₂ (λ q b. (not (is_must p) || q) && b) (there_each h x es) (musts_same h es fs)

  case_same : (h : Treatment) (es : Entries) (tag : List ℕ) (cs : Cases) (kept : Bool) → under tag (each_entry h es) ≡ under tag es → has_case tag (map_cases f cs) kept (each_entry h es) ≡ has_case tag cs kept es
  case_same h es tag no_case kept e = ap (λ o. kept && is_some_text o) e
  case_same h es tag (case l fs cs) kept e = rw (ap (is_text l) e) (if_agree (has_tag tag l es) (musts_same h es fs) (case_same h es tag cs kept e))

  complete_same : (fs : Fields) (c : Choice) → IsRecord (field_list fs) (cases_in c) → (es : Entries) → is_complete (map_fields f fs) (map_choice f c) (each_entry (at_entry fs c es) es) ≡ is_complete fs c es
  complete_same fs no_choice i es = musts_same _ es fs
  complete_same fs (choice tag cs kept) i es =
      ap₂ ◌&&◌ (musts_same (at_entry fs (choice tag cs kept) es) es fs)
      (case_same (at_entry fs (choice tag cs kept) es) es tag cs kept (tag_found (at_entry fs (choice tag cs kept) es) tag es (tag_stays fs tag cs kept i es)))

  record_leads : (fs : Fields) (c : Choice) (r : Rest) → IsRecord (field_list fs) (cases_in c) → FieldsHave Leads fs → ChoiceHas Leads c → (t : Plain) → IsTidy form t → Fits form P (rec fs c r) t
      → IsTidy form (at_children form a (rec fs c r) t) × Fits form P (rec (map_fields f fs) (map_choice f c) r) (at_children form a (rec fs c r) t)
  record_leads fs c r i l m (plain.map ps) b s =
      let es : Entries = entries ps in
      let h : Treatment = at_entry fs c es in
      let made = each_leads h (ChoiceFits form P c (FieldsFit form P fs) r es) (ChoiceFits form P (map_choice f c) (FieldsFit form P (map_fields f fs)) r (each_entry h es))
      (λ n t d s. entry_leads fs c r i l m es n t d s) ps b.ascend.1 b.formed s.1 in (
        record { ascend = (subst (λ (q : Entries). Ascends q) (sym (entries_of_pairs (each_entry h es))) (ascends-each h es b.ascend.0), made.ascend); formed = made.formed },
        subst (λ (q : Entries). (is_complete (map_fields f fs) (map_choice f c) q ≡ true) × EachEntry (ChoiceFits form P (map_choice f c) (FieldsFit form P (map_fields f fs)) r q) q) (sym (entries_of_pairs (each_entry h es)))
            (complete_same fs c i es ∙ s.0, made.fit),
      )
  record_leads fs c r i l m t b s = absurd s

  -- ---- sums
  module _ (V W : Template) (v : Step form P V (f (None, V)) (a (None, V))) (w : Step form P W (f (None, W)) (a (None, W))) where
    abbrev V' : Template
    V' = f (None, V)

    abbrev W' : Template
    W' = f (None, W)

    abbrev at_sum : Plain → Plain
    at_sum t = at_children form a (sum V W) t

    sides_kept : AreSides form V W → AreSides form V' W'
    sides_kept s = record { left = v.side s.left; right = w.side s.right; apart = λ k h. w.alike k ∙ s.apart k (sym (v.alike k) ∙ h) }

    sum_sound : IsSound form (sum V W) → IsSound form (sum V' W')
    sum_sound s =
        let parts = children_sound form (sum V W) s in
        let left = v.sound parts.0 in
        let right = w.sound parts.1 in
        record {
          kept = (left.kept, right.kept);
          apart = (sides_kept s.apart.0, left.apart, right.apart);
          right = both_false (any_inside (is_wrong_leaf form) V') (any_inside (is_wrong_leaf form) W') left.right right.right;
        }

    sum_side : is_side (sum V W) ≡ true → is_side (sum V' W') ≡ true
    sum_side e = let both = split_and (is_side V) (is_side W) e in both_true (is_side V') (is_side W') (v.side both.0) (w.side both.1)

    sum_kind : (t : Plain) → kind_of (at_sum t) ≡ kind_of t
    sum_kind t = by (has_kind form V (kind_of t)) (has_kind form W (kind_of t))
      where
        by : (p q : Bool) → kind_of (if p then a (None, V) t else (if q then a (None, W) t else t)) ≡ kind_of t
        by true q = v.kind t
        by false true = w.kind t
        by false false = refl

    sum_leads : IsSound form (sum V W) → (t : Plain) → IsTidy form t → Fits form P (sum V W) t → IsTidy form (at_sum t) × Fits form P (sum V' W') (at_sum t)
    sum_leads s t b x =
        let parts = children_sound form (sum V W) s in
        elim (side_of form P V W t s.apart.0 x) [
          | inl y ↦
              let made = v.leads parts.0 t b y.1 in
              let left : at_sum t ≡ a (None, V) t = rw y.0 refl in
              subst (λ u. IsTidy form u × Fits form P (sum V' W') u) (sym left) (made.0, inl made.1)
          | inr y ↦
              let made = w.leads parts.1 t b y.2 in
              let right : at_sum t ≡ a (None, W) t = rw (y.0, y.1) refl in
              subst (λ u. IsTidy form u × Fits form P (sum V' W') u) (sym right) (made.0, inr made.1)
        ]

pub idle : (form : Form) (P : List ℕ → Plain → Type 0) (V : Template) → Step form P V V (λ t. t)
idle form P V = record { sound = λ s. s; alike = λ k. refl; side = λ e. e; kind = λ t. refl; leads = λ s t b x. (b, x) }

module _ (form : Form) (P : List ℕ → Plain → Type 0) (f : Child → Template) (a : Child → Plain → Plain) where
  abbrev Steps : Child → Type 0
  Steps c = Step form P c.1 (f c) (a c)

  -- what steps do to sound children
  sound_after : (c : Child) → Steps c → SoundAt form (Itself form) c → SoundAt form f c
  sound_after c s k = s.sound k

  leads_after : (c : Child) → Steps c → SoundAt form (Itself form) c → Leads form P f a c
  leads_after c s k = s.leads k

  pub children_step : (V : Template) → ChildrenHave Steps V → Step form P V (map_children f V) (at_children form a V)
  children_step (leaf k) h = idle form P (leaf k)
  children_step any h = idle form P any
  children_step (list V) h = record {
    sound = λ s. let k = h.sound (children_sound form (list V) s) in record { kept = k.kept; apart = k.apart; right = k.right };
    alike = λ k. refl;
    side = λ e. refl;
    kind = kind_on_items (a (None, V));
    leads = λ s t b x. list_leads form P f a V (f (None, V)) (a (None, V)) h.kind (h.leads (children_sound form (list V) s)) t b x;
  }
  children_step (point n) h = idle form P (point n)
  children_step (rec fs c r) h = record {
    sound = λ s.
        let k = children_sound form (rec fs c r) s in
        let new = children_have Steps (SoundAt form (Itself form)) (SoundAt form f) sound_after (rec fs c r) h k in
        record_sound form f fs c r s.kept.0 new.0 new.1;
    alike = λ k. refl;
    side = λ e. refl;
    kind = kind_on_entries (λ es. each_entry (at_entry form P f a fs c es) es);
    leads = λ s t b x.
        let k = children_sound form (rec fs c r) s in
        let l = children_have Steps (SoundAt form (Itself form)) (Leads form P f a) leads_after (rec fs c r) h k in
        record_leads form P f a fs c r s.kept.0 l.0 l.1 t b x;
  }
  children_step (sum V W) h = record {
    sound = sum_sound form P f a V W h.0 h.1;
    alike = λ k. ap₂ ◌||◌ (h.0.alike k) (h.1.alike k);
    side = sum_side form P f a V W h.0 h.1;
    kind = sum_kind form P f a V W h.0 h.1;
    leads = sum_leads form P f a V W h.0 h.1;
  }
