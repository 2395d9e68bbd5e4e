-- A deep fix keeps types: what is done at the end of a path leads from the trees of each template on the way to trees of it again.
--
-- The road. `Led` is what is made of a tree at one spot: tidy, of the same kind, and of the same template. A step into a list, a side or a field leads so where what is done behind it does; for a field this is a
-- change at one name (`named_led`). A step that chooses a case stays at the map, which fits the record with that case alone just where it fits the record and has the tag (`to_alone`, `from_alone`).
use Rattle.std.proofs.Common.{◌≡◌, ℕ, List, [], ◌∷◌, ◌++◌, Bool, true, false, true≢false, Option, Some, None, inl, inr, refl, sym, ap, ap₂, subst, ◌∙◌, arith}
use Rattle.std.specs.Prelude.{◌||◌, not, map, is_some, unwrap_or, option_map, option_and_then, if◌then◌else◌}
use Rattle.std.specs.Option.{option_or}
use Rattle.std.specs.Map.{keys_of}
use Rattle.std.specs.List.{list_any}
use Rattle.std.proofs.lemmas.Option.{same_Some}
use Rattle.mig_model.specs.declared.form.Form.{Form}
use Rattle.mig_model.specs.declared.kind.Kind.{Kind}
use Rattle.mig_model.specs.declared.kind.Kind.TheVariants as K
use Rattle.mig_model.specs.declared.presence.Presence.TheVariants.{Must}
use Rattle.mig_model.specs.declared.rest.Rest.{Rest}
use Rattle.mig_model.specs.Plain as plain
use Rattle.mig_model.specs.Plain.{Plain, Trees, no_tree, tree, trees_of, items, pairs_of, entries, on_items, on_entries}
use Rattle.mig_model.specs.Kinds.{kind_of, entries_of_pairs}
use Rattle.mig_model.specs.Names.{Ascends, under, has, same_name, has_twice, changed}
use Rattle.mig_model.specs.Template.{Template, leaf, any, list, point, rec, sum, Field, Fields, fields_of, field_list, Choice, no_choice, choice, Cases, no_case, case, cases_of, case_list, has_kind, is_open}
use Rattle.mig_model.specs.TemplateKept.{TemplateKept}
use Rattle.mig_model.specs.Record as template
use Rattle.mig_model.specs.Record.{RecordParts, IsRecord, choice_of, cases_in, record_of, is_twice_in, has_twice_in}
use Rattle.mig_model.specs.Fields.{if_so, is_in_choice}
use Rattle.mig_model.specs.Inhabits.{Entries, EachItem, EachEntry, Fits, has_tag, is_text, is_in_form, items_in_form, may_be_items}
use Rattle.mig_model.proofs.Bools.{split_and, split_or, both_false, left_or}
use Rattle.mig_model.proofs.Rising.{nothing_ascends}
use Rattle.mig_template.proofs.Views.{field_list_of, cases_in_of}
use Rattle.mig_rule.specs.Path.{is_tagged}
use Rattle.mig_model.proofs.Edits.{first, found_in, under-changed, ascends-changed, ascends-put}
use Rattle.mig_model.proofs.SameNames.{same_name_is, same_name_itself, same_name_flips}
use Rattle.mig_laws.proofs.Sides.{side_of}
use Rattle.mig_action.proofs.Stands.{case_of}
use Rattle.mig_action.proofs.Distinct.{common_apart, case_apart, case_ascends, case_once, distinct_of}
use Rattle.mig_field.specs.NewRecord.{FieldType, is_tag}
use Rattle.mig_field_laws.proofs.Places.{Stands, tagged, tag_place, place, is_unknown_tag, opened, HasTag, IsTag, Standing, Whole, fits_stand, stand_fits, each_under, under_each}
use Rattle.mig_rule.specs.Children.{Child}
use Rattle.mig_rule_laws.specs.Premises.{AllAscend, ItemsAscend, IsTidy, IsSound}
use Rattle.mig_rule_laws.proofs.Children.{FieldsHave, CasesHave, children_all, children_same, SoundAt, Itself, children_sound, record_sound}
use Rattle.mig_rule_laws.proofs.Treated.{tidy_down, Good, list_good, map_good}

module _ (form : Form) (P : List ℕ → Plain → Type 0) where
  -- what is made of a tree at a spot
  abbrev pub Led : Template → Plain → Plain → Type 0
  Led V t u = Good form t u × Fits form P V u

  abbrev pub Leads : Template → (Plain → Plain) → Type 0
  Leads V G = (t : Plain) → IsTidy form t → Fits form P V t → Led V t (G t)

  -- ---- lists
  items_fit : (V : Template) (G : Plain → Plain) → Leads V G → (ts : Trees) → ItemsAscend ts → items_in_form form ts ≡ true → EachItem (Fits form P V) (items ts)
      → EachItem (Fits form P V) (items (trees_of (map G (items ts))))
  items_fit V G l no_tree a e s = tt
  items_fit V G l (tree t ts) a e s =
      let both = split_and (is_in_form form t) (items_in_form form ts) e in
      ((l t (record { ascend = a.0; formed = both.0 }) s.0).1, items_fit V G l ts a.1 both.1 s.1)

  pub list_led : (V : Template) (G : Plain → Plain) → Leads V G → Leads (list V) (on_items G)
  list_led V G l (plain.list ts) b s = (
    list_good form (Fits form P V) G (λ t b s. (l t b s).0) (plain.list ts) b s,
    items_fit V G l ts b.ascend (split_and (may_be_items form ts) (items_in_form form ts) b.formed).1 s,
  )
  list_led V G l t b s = absurd s

  -- ---- sides
  pub left_led : (V W : Template) (G : Plain → Plain) → IsSound form (sum V W) → Leads V G → Leads (sum V W) (λ t. if has_kind form V (kind_of t) then G t else t)
  left_led V W G k l t b s =
      elim (side_of form P V W t k.apart.0 s) [
        | inl x ↦
            let made = l t b x.1 in
            let here : (if has_kind form V (kind_of t) then G t else t) ≡ G t = ap (λ q. if q then G t else t) x.0 in
            subst (Led (sum V W) t) (sym here) (made.0, inl made.1)
        | inr y ↦
            let here : (if has_kind form V (kind_of t) then G t else t) ≡ t = ap (λ q. if q then G t else t) y.0 in
            subst (Led (sum V W) t) (sym here) ((b, refl), s)
      ]

  pub right_led : (V W : Template) (G : Plain → Plain) → IsSound form (sum V W) → Leads W G → Leads (sum V W) (λ t. if has_kind form W (kind_of t) then G t else t)
  right_led V W G k l t b s =
      elim (side_of form P V W t k.apart.0 s) [
        | inl x ↦
            let here : (if has_kind form W (kind_of t) then G t else t) ≡ t = ap (λ q. if q then G t else t) (k.apart.0.apart (kind_of t) x.0) in
            subst (Led (sum V W) t) (sym here) ((b, refl), s)
        | inr y ↦
            let made = l t b y.2 in
            let here : (if has_kind form W (kind_of t) then G t else t) ≡ G t = ap (λ q. if q then G t else t) y.1 in
            subst (Led (sum V W) t) (sym here) (made.0, inr made.1)
      ]

  -- ---- fields
  module _ (p : RecordParts) (i : IsRecord p.fields p.choice) (x : List ℕ) (g : FieldType) (no_tag : is_tag x p.choice ≡ false)
      (stands : (s : List ℕ) → IsTag p.choice s → place p s x ≡ Some g) (G : Plain → Plain) (l : Leads g.1 G) where
    abbrev At : Entries → List ℕ → Plain → Type 0
    At es n u = same_name x n ≡ true → Fits form P g.1 u

    field_there : (s : List ℕ) (es : Entries) → Standing form P p s es → (n : List ℕ) (u : Plain) → under n es ≡ Some u → At es n u
    field_there s es st n u e q =
        let y = st.at x in
        let here : under x es ≡ Some u = ap (λ m. under m es) (same_name_is x n q) ∙ e in
        subst (λ (F : Option FieldType). Stands form P (opened p s) F (Some u)) (stands s st.literal) (subst (Stands form P (opened p s) (place p s x)) here y)

    still_tag : (s : List ℕ) (es : Entries) (c : Option template.Cases) → is_tag x c ≡ false → HasTag c s es → HasTag c s (changed x G es)
    still_tag s es None q k = tt
    still_tag s es (Some c) q k = under-changed x G es c.0 ∙ (ap (λ b. if b then option_map G (under c.0 es) else under c.0 es) (same_name_flips c.0 x ∙ q) ∙ k)

    still_at : (s : List ℕ) (es : Entries) → Standing form P p s es → ((n : List ℕ) (u : Plain) → under n es ≡ Some u → IsTidy form u) → (n : List ℕ)
        → Stands form P (opened p s) (place p s n) (under n (changed x G es))
    still_at s es st tidy n = subst (Stands form P (opened p s) (place p s n)) (sym (under-changed x G es n)) (by (same_name n x) refl)
      where
        done : (o : Option Plain) → under x es ≡ o → Stands form P (opened p s) (Some g) o → Stands form P (opened p s) (Some g) (option_map G o)
        done None e k = k
        done (Some u) e k = (l u (tidy x u e) k).1

        by : (b : Bool) → same_name n x ≡ b → Stands form P (opened p s) (place p s n) (if b then option_map G (under n es) else under n es)
        by true e =
            subst (λ m. Stands form P (opened p s) (place p s m) (option_map G (under m es))) (sym (same_name_is n x e))
            (subst (λ (F : Option FieldType). Stands form P (opened p s) F (option_map G (under x es))) (sym (stands s st.literal))
            (done (under x es) refl (subst (λ (F : Option FieldType). Stands form P (opened p s) F (under x es)) (stands s st.literal) (st.at x))))
        by false e = st.at n

    pub named_led : Leads (record_of p) (on_entries (changed x G))
    named_led (plain.map ps) b w =
        let es : Entries = entries ps in
        let st = fits_stand form P p es w in
        let each = under_each (At es) es b.ascend.0 (field_there st.0 es st.1) in
        let tidy = each_under (λ n. IsTidy form) es (tidy_down form (plain.map ps) b) in (
          map_good form (λ es n u. if same_name x n then G u else u) At (λ es. Unit {0}) (λ es n u c a. by (same_name x n) u c a) (plain.map ps) b (tt, each),
          subst (Whole form P p) (sym (entries_of_pairs (changed x G es)))
              (stand_fits form P p (changed x G es) st.0 (distinct_of p i (tagged st.0)) (ascends-changed x G es b.ascend.0)
              (record { tag = still_tag st.0 es p.choice no_tag st.1.tag; literal = st.1.literal; at = still_at st.0 es st.1 tidy })),
        )
      where
        by : (q : Bool) (u : Plain) → IsTidy form u → (q ≡ true → Fits form P g.1 u) → IsTidy form (if q then G u else u)
        by true u c a = (l u c (a refl)).0.0
        by false u c a = c
    named_led t b w = absurd w

-- what a record keeps, from its template
pub parts_record : (p : RecordParts) → TemplateKept (record_of p) → IsRecord p.fields p.choice
parts_record p k =
    subst (λ (fs : List Field). IsRecord fs p.choice) (field_list_of p.fields)
    (subst (λ (c : Option template.Cases). IsRecord (field_list (fields_of p.fields)) c) (cases_in_of p.choice) k.0)

-- ---- a case that was chosen
module _ (fs : List Field) (c : template.Cases) (r : Rest) (l : List ℕ) (gs : List Field) (found : under l c.1 ≡ Some gs) where
  abbrev pub with_all : RecordParts
  with_all = record { fields = fs; choice = Some c; rest = r }

  -- the record with the case alone
  abbrev pub with_one : RecordParts
  with_one = record { fields = fs; choice = Some (c.0, (l, gs) ∷ [], false); rest = r }

  pub one_record : IsRecord fs (Some c) → IsRecord fs (Some (c.0, (l, gs) ∷ [], false))
  one_record i =
      let names = c.0 ∷ keys_of fs in
      let s = split_or (has_twice (c.0 ∷ keys_of fs)) (is_twice_in (c.0 ∷ keys_of fs) c.1) i.distinct in
      let u = split_or (list_any (has_twice_in (c.0 ∷ keys_of fs)) c.1) (has_twice (keys_of c.1)) s.1 in
      let once = case_once (c.0 ∷ keys_of fs) c.1 u.0 l gs found in
      record {
        fields = i.fields;
        cases = (ascends-put l gs [] (nothing_ascends (List Field)), (case_ascends with_all i l gs found, tt));
        distinct =
            both_false (has_twice (c.0 ∷ keys_of fs)) (is_twice_in (c.0 ∷ keys_of fs) ((l, gs) ∷ [])) s.0
            (both_false (has_twice_in (c.0 ∷ keys_of fs) (l, gs) || false) false (both_false (has_twice_in (c.0 ∷ keys_of fs) (l, gs)) false once refl) refl);
        some = refl;
      }

  same_case : (s : List ℕ) → same_name s l ≡ true → under s c.1 ≡ (if same_name s l then Some gs else None)
  same_case s e = ap (λ m. under m c.1) (same_name_is s l e) ∙ (found ∙ sym (ap (λ (b : Bool). if b then Some gs else None) e))

  chosen_is : (b : Bool) → (is_some (if b then Some gs else None) || false) ≡ true → b ≡ true
  chosen_is true e = refl
  chosen_is false e = cc

  pub one_sound : (form : Form) → IsSound form (record_of with_all) → IsSound form (record_of with_one)
  one_sound form s =
      let kids = children_sound form (record_of with_all) s in
      let case_fields =
      found_in (λ (cs : List template.Case). CasesHave (SoundAt form (Itself form)) (cases_of cs)) (λ n (ds : List Field). FieldsHave (SoundAt form (Itself form)) (fields_of ds)) (λ c cs h. h) c.1 kids.1 l gs found in
      let i = one_record (parts_record with_all s.kept) in
      let listed = (record_kept_of i) in
      subst (IsSound form) (children_same (Itself form) (record_of with_one) (children_all (λ d. Itself form d ≡ d.1) (λ d. refl) (record_of with_one)))
      (record_sound form (Itself form) (fields_of fs) (choice c.0 (case l (fields_of gs) no_case) false) r listed kids.0 (case_fields, tt))
    where
      record_kept_of : IsRecord fs (Some (c.0, (l, gs) ∷ [], false)) → IsRecord (field_list (fields_of fs)) (Some (c.0, (l, field_list (fields_of gs)) ∷ [], false))
      record_kept_of i =
          subst (λ (es : List Field). IsRecord es (Some (c.0, (l, field_list (fields_of gs)) ∷ [], false))) (sym (field_list_of fs))
          (subst (λ (es : List Field). IsRecord fs (Some (c.0, (l, es) ∷ [], false))) (sym (field_list_of gs)) i)

  module _ (form : Form) (P : List ℕ → Plain → Type 0) (i : IsRecord fs (Some c)) where
    abbrev StandsBy : Entries → List ℕ → Option (List Field) → Type 0
    StandsBy es n F =
        Stands form P (is_open r || not (is_some F)) (first (if_so (same_name n c.0) (Must, leaf K.Text)) (first (under n fs) (under n (unwrap_or F [])))) (under n es)

    to_one : (t : Plain) → IsTidy form t → is_tagged c.0 l t ≡ true → Fits form P (record_of with_all) t → Fits form P (record_of with_one) t
    to_one (plain.map ps) b q w =
        let es : Entries = entries ps in
        let st = fits_stand form P with_all es w in
        let e : same_name st.0 l ≡ true = sym (ap (is_text l) st.1.tag) ∙ q in
        stand_fits form P with_one es st.0 (distinct_of with_one (one_record i) (tagged st.0)) b.ascend.0 (record {
          tag = st.1.tag;
          literal = ap (λ (b : Bool). is_some (if b then Some gs else None) || false) e;
          at = λ n. subst (StandsBy es n) (same_case st.0 e) (st.1.at n);
        })
    to_one t b q w = absurd w

    from_one : (t : Plain) → IsTidy form t → Fits form P (record_of with_one) t → Fits form P (record_of with_all) t
    from_one (plain.map ps) b w =
        let es : Entries = entries ps in
        let st = fits_stand form P with_one es w in
        let e = chosen_is (same_name st.0 l) st.1.literal in
        stand_fits form P with_all es st.0 (distinct_of with_all i (tagged st.0)) b.ascend.0 (record {
          tag = st.1.tag;
          literal = left_or (has st.0 c.1) c.2 (ap is_some (ap (λ m. under m c.1) (same_name_is st.0 l e) ∙ found));
          at = λ n. subst (StandsBy es n) (sym (same_case st.0 e)) (st.1.at n);
        })
    from_one t b w = absurd w

    pub case_led : (G : Plain → Plain) → Leads form P (record_of with_one) G → Leads form P (record_of with_all) (λ t. if is_tagged c.0 l t then G t else t)
    case_led G g t b w = by (is_tagged c.0 l t) refl
      where
        by : (q : Bool) → is_tagged c.0 l t ≡ q → Led form P (record_of with_all) t (if q then G t else t)
        by true q = let made = g t b (to_one t b q w) in (made.0, from_one (G t) made.0.0 made.1)
        by false q = ((b, refl), w)
