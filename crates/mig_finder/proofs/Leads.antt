-- What the optic of a place finds are the values where its way leads, by induction over the template.
use Rattle.std.proofs.Common.{◌≡◌, ◌∙◌, refl, sym, ap, subst, ℕ, List, [], ◌∷◌, ◌++◌, Bool, true, false, true≢false, Option, Some, None, MatchBool}
use Rattle.std.specs.Prelude.{◌||◌, is_some, option_to_list, if◌then◌else◌}
use Rattle.std.specs.List.{AllByRecursion, list_any}
use Rattle.std.specs.Map.{keys_of}
use Rattle.std.specs.Option.{option_or}
use Rattle.mig_model.proofs.Ascending.{flips}
use Rattle.mig_model.specs.declared.form.Form.{Form}
use Rattle.mig_model.specs.declared.presence.Presence.{Presence}
use Rattle.mig_model.specs.declared.presence.Presence.TheVariants.{Must, May}
use Rattle.mig_model.specs.declared.rest.Rest.{Rest}
use Rattle.mig_model.specs.Names.{has_twice, same_name, is_among}
use Rattle.mig_model.specs.Fields.{is_field, find_field}
use Rattle.mig_model.specs.Inhabits.{has_musts}
use Rattle.mig_model.specs.Kinds.{kind_of}
use Rattle.mig_model.specs.Template as template
use Rattle.mig_model.specs.Template.{Template, Fields, no_field, field, field_list, Choice, no_choice, choice, Cases, no_case, case, case_list, has_kind}
use Rattle.mig_laws.specs.Sides.{SumsApart, FieldsApart, ChoiceApart, CasesApart}
use Rattle.mig_model.specs.TemplateKept.{TemplateKept, FieldsKept, ChoiceKept, CasesKept}
use Rattle.mig_model.specs.Record.{has_twice_in, cases_in, is_twice_named}
use Rattle.mig_template.proofs.Sorted.{once_if_ascends}
use Rattle.mig_value.specs.Typed.{Typed, list, left, right, rec, Items, no_item, item, items, Slots, no_slot, slot, slots, Tag, out, out_slots}
use Rattle.mig_value.specs.Kept as value
use Rattle.mig_value.specs.Kept.{ItemsKept, SlotsKept}
use Rattle.mig_value.specs.Fit.{ValueFits, FieldsFit, ChoiceFits, CasesFit, IsUnknown, EachSlot, TagFits, has_case_musts, has_cased_musts, is_cased, is_field_of_case}
use Rattle.mig_path.specs.declared.side.Side.TheVariants.{Left, Right}
use Rattle.mig_path.specs.Fields.{value_in}
use Rattle.mig_path.specs.Path.{Path, may_field, case_of, each, side, foci, over}
use Rattle.mig_finder.specs.Places.{Place, behind, to_field, places, field_places, choice_places, case_places}
use Rattle.mig_finder.specs.Ways.{Step, Way, name, tagged, item as each_item, kinds, at_place, after, ways, field_ways, choice_ways, case_ways}
use Rattle.mig_finder.specs.Law.{EachTwo, IsWayOf, PlacesLead}
use Rattle.mig_finder.proofs.Records.{names, literals, EachField, by_name, from_three, FieldFinds, finds_common, finds_cased, name_of_field, name_of_choice}
use Rattle.mig_finder.proofs.Laws.{all_weaker, all_items, all_distinct, distinct_fields, at_literal}
use Rattle.mig_finder.proofs.Steps.{Does, Free, Once, does_each, does_left, does_right, not_left, not_right, kind_there, does_common, does_cased, does_case}
use Rattle.mig_finder.proofs.Names.{other_name}
use Rattle.mig_model.proofs.Bools.{split_and, split_or, left_or, right_or}
use Rattle.mig_model.proofs.SameNames.{same_name_is, same_name_itself}
use Rattle.mig_template.proofs.Names.{apart_from_first, first_once}
use Rattle.std.proofs.lemmas.Bool.{false_from_ne_true, MatchBool-at_true, MatchBool-at_false}
use Rattle.std.proofs.lemmas.Option.{same_Some}
use Rattle.mig_value.proofs.Views.{weaker_slots}

-- ---- lists
two_append : {A B : Type 0} (R : A → B → Type 0) (xs ys : List A) (us vs : List B) → EachTwo R xs us → EachTwo R ys vs → EachTwo R (xs ++ ys) (us ++ vs)
two_append R [] ys [] vs h k = k
two_append R (x ∷ xs) ys (u ∷ us) vs h k = (h.0, two_append R xs ys us vs h.1 k)
two_append R _ ys _ vs h k = absurd h

all_both : {A : Type 0} (Q R : A → Type 0) (xs : List A) → AllByRecursion Q xs → AllByRecursion R xs → AllByRecursion (λ x. Q x × R x) xs
all_both Q R [] h k = tt
all_both Q R (x ∷ xs) h k = ((h.0, k.0), all_both Q R xs h.1 k.1)

-- ---- names of slots
free_of : (n : List ℕ) (ss : Slots) → list_any (same_name n) (keys_of (slots ss)) ≡ false → Free n ss
free_of n no_slot h = tt
free_of n (slot m v ss) h = let both = split_or (same_name n m) (list_any (same_name n) (keys_of (slots ss))) h in (both.0, free_of n ss both.1)

once_of : (y : List ℕ) (ss : Slots) → has_twice (keys_of (slots ss)) ≡ false → Once y ss
once_of y no_slot d = tt
once_of y (slot n v ss) d =
    let both = split_or (list_any (same_name n) (keys_of (slots ss))) (has_twice (keys_of (slots ss))) d in
    by (same_name y n) refl both.0 (once_of y ss both.1)
  where
    by : (b : Bool) → same_name y n ≡ b → list_any (same_name n) (keys_of (slots ss)) ≡ false → Once y ss → MatchBool b (Free y ss) (Once y ss)
    by true i none rest = subst (λ (m : List ℕ). Free m ss) (sym (same_name_is y n i)) (free_of n ss none)
    by false i none rest = rest

free_by : (y : List ℕ) (ns : List (List ℕ)) → is_among ns y ≡ true → (qs : Slots) → EachSlot (λ n w. is_among ns n ≡ false) qs → Free y qs
free_by y ns a qs e = weaker_slots (λ n w. is_among ns n ≡ false) (λ n w. same_name y n ≡ false) (λ n w k. other_name y n ns a k) qs e

field_among : (n : List ℕ) (fs : Fields) → is_field n fs ≡ is_among (names fs) n
field_among n no_field = refl
field_among n (field y p V fs) = by (same_name n y) (field_among n fs)
  where
    by : (b : Bool) → is_field n fs ≡ is_among (names fs) n → is_some (if b then Some (p, V) else find_field n fs) ≡ (b || is_among (names fs) n)
    by true h = refl
    by false h = h

-- ---- values under names
kept_in : (y : List ℕ) (ss : Slots) → SlotsKept ss → (w : Typed) → value_in y ss ≡ Some w → value.ValueKept w
kept_in y no_slot k w e = absurd cc
kept_in y (slot n v ss) k w e = by (same_name y n) e (kept_in y ss k.1 w)
  where
    by : (b : Bool) → (if b then Some v else value_in y ss) ≡ Some w → (value_in y ss ≡ Some w → value.ValueKept w) → value.ValueKept w
    by true i rest = let is : v ≡ w = cc in subst value.ValueKept is k.0
    by false i rest = rest i

kept_under : (y : List ℕ) (ss zs : Slots) → SlotsKept ss → SlotsKept zs → AllByRecursion value.ValueKept (option_to_list (option_or (value_in y ss) (value_in y zs)))
kept_under y ss zs k l = by (value_in y ss) (value_in y zs) (kept_in y ss k) (kept_in y zs l)
  where
    by : (o q : Option Typed) → ((w : Typed) → o ≡ Some w → value.ValueKept w) → ((w : Typed) → q ≡ Some w → value.ValueKept w) → AllByRecursion value.ValueKept (option_to_list (option_or o q))
    by (Some v) q f g = (f v refl, tt)
    by None (Some v) f g = (g v refl, tt)
    by None None f g = tt

kept_items : (vs : Items) → ItemsKept vs → AllByRecursion value.ValueKept (items vs)
kept_items no_item k = tt
kept_items (item v vs) k = (k.0, kept_items vs k.1)

module _ (form : Form) (U : Typed → Type 0) (P : List ℕ → Typed → Type 0) (x : List ℕ) where
  abbrev AllLead : Typed → List Place → List Way → Type 0
  AllLead v ps ws = EachTwo (IsWayOf U P v) ps ws

  -- ---- there is a way for each place
  abbrev Same : Place → Way → Type 0
  Same p w = Unit {0}

  paired_behind : (o : Path) (s : Step) (ps : List Place) (ws : List Way) → EachTwo Same ps ws → EachTwo Same (behind o ps) (after s ws)
  paired_behind o s [] [] h = tt
  paired_behind o s (p ∷ ps) (w ∷ ws) h = (tt, paired_behind o s ps ws h.1)
  paired_behind o s _ _ h = absurd h

  paired_field : (b : Bool) (y : List ℕ) (p : Presence) (V : Template) → EachTwo Same (places x V) (ways form x V) → EachTwo Same (if b then (to_field y p, V) ∷ [] else behind (to_field y p) (places x V)) (if b then (name y ∷ []) ∷ [] else after (name y) (ways form x V))
  paired_field true y p V h = (tt, tt)
  paired_field false y p V h = paired_behind (to_field y p) (name y) (places x V) (ways form x V) h

  mutual
    paired : (V : Template) → EachTwo Same (places x V) (ways form x V)
    paired (template.leaf k) = tt
    paired template.any = tt
    paired (template.list V) = paired_behind each each_item (places x V) (ways form x V) (paired V)
    paired (template.point n) = tt
    paired (template.rec fs c r) = two_append Same (field_places x fs) (choice_places x c) (field_ways form x fs) (choice_ways form x c) (paired_fields fs) (paired_choice c)
    paired (template.sum V W) =
        two_append Same (behind (side Left) (places x V)) (behind (side Right) (places x W)) (after (kinds form V) (ways form x V)) (after (kinds form W) (ways form x W)) (paired_behind (side Left) (kinds form V) (places x V) (ways form x V) (paired V)) (paired_behind (side Right) (kinds form W) (places x W) (ways form x W) (paired W))

    paired_fields : (fs : Fields) → EachTwo Same (field_places x fs) (field_ways form x fs)
    paired_fields no_field = tt
    paired_fields (field y p V fs) =
        two_append Same (if same_name x y then (to_field y p, V) ∷ [] else behind (to_field y p) (places x V)) (field_places x fs) (if same_name x y then (name y ∷ []) ∷ [] else after (name y) (ways form x V)) (field_ways form x fs) (paired_field (same_name x y) y p V (paired V)) (paired_fields fs)

    paired_choice : (c : Choice) → EachTwo Same (choice_places x c) (choice_ways form x c)
    paired_choice no_choice = tt
    paired_choice (choice tg cs k) = paired_cases tg cs

    paired_cases : (tg : List ℕ) (cs : Cases) → EachTwo Same (case_places x cs) (case_ways form x tg cs)
    paired_cases tg no_case = tt
    paired_cases tg (case l fs cs) =
        two_append Same (behind (case_of l) (field_places x fs)) (case_places x cs) (after (tagged tg l) (field_ways form x fs)) (case_ways form x tg cs) (paired_behind (case_of l) (tagged tg l) (field_places x fs) (field_ways form x fs) (paired_fields fs)) (paired_cases tg cs)

  -- ---- places behind an optic
  behind_lead : (o : Path) (s : Step) (v : Typed) → Does o s v → (ps : List Place) (ws : List Way) → EachTwo Same ps ws → AllByRecursion (λ u. AllLead u ps ws) (foci o v) → AllLead v (behind o ps) (after s ws)
  behind_lead o s v d [] [] same h = tt
  behind_lead o s v d (p ∷ ps) (w ∷ ws) same h = (
    λ g f c. d (over p.0 g) (at_place w f) (all_weaker (λ u. AllLead u (p ∷ ps) (w ∷ ws)) (λ u. out (over p.0 g u) ≡ at_place w f (out u)) (λ u k. k.0 g f c) (foci o v) h),
    behind_lead o s v d ps ws same.1 (all_weaker (λ u. AllLead u (p ∷ ps) (w ∷ ws)) (λ u. AllLead u ps ws) (λ u k. k.1) (foci o v) h),
  )
  behind_lead o s v d _ _ same h = absurd same

  -- ---- fields
  -- what stands under a name of a value is kept, and changed there the value's tree is changed there
  record Ready (y : List ℕ) (v : Typed) : Type 0 where
    does : Does (may_field y) (name y) v
    kept : AllByRecursion value.ValueKept (foci (may_field y) v)

  record FieldLeads (v : Typed) (y : List ℕ) (p : Presence) (V : Template) : Type 0 where
    does : Does (to_field y p) (name y) v
    found : AllByRecursion (λ w. value.ValueKept w × ValueFits U P V w) (foci (to_field y p) v)

  field_leads : (v : Typed) (y : List ℕ) (p : Presence) (V : Template) → FieldFinds U P v y p V → Ready y v → FieldLeads v y p V
  field_leads v y Must V h r = record { does = r.does; found = all_both value.ValueKept (ValueFits U P V) (foci (to_field y Must) v) r.kept h.fit }
  field_leads v y May V h r = record { does = r.does; found = all_both value.ValueKept (ValueFits U P V) (foci (to_field y May) v) r.kept h.fit }

  each_leads : (v : Typed) (fs : Fields) → EachField (FieldFinds U P v) fs → ((y : List ℕ) → is_among (names fs) y ≡ true → Ready y v) → EachField (FieldLeads v) fs
  each_leads v fs h f =
      let ready : EachField (λ y p V. Ready y v) fs = by_name (λ y. Ready y v) fs f in
      from_three (FieldFinds U P v) (λ y p V. Ready y v) (λ y p V. Ready y v) (FieldLeads v) (λ y p V a b c. field_leads v y p V a b) fs h ready ready

  field_lead : (b : Bool) (v : Typed) (y : List ℕ) (p : Presence) (V : Template) → FieldLeads v y p V → ((w : Typed) → value.ValueKept w → ValueFits U P V w → AllLead w (places x V) (ways form x V)) → AllLead v (if b then (to_field y p, V) ∷ [] else behind (to_field y p) (places x V)) (if b then (name y ∷ []) ∷ [] else after (name y) (ways form x V))
  field_lead true v y p V h k =
      (λ g f c. h.does g f (all_weaker (λ w. value.ValueKept w × ValueFits U P V w) (λ w. out (g w) ≡ f (out w)) (λ w q. c w q.0 q.1) (foci (to_field y p) v) h.found), tt)
  field_lead false v y p V h k =
      behind_lead (to_field y p) (name y) v h.does (places x V) (ways form x V) (paired V) (all_weaker (λ w. value.ValueKept w × ValueFits U P V w) (λ w. AllLead w (places x V) (ways form x V)) (λ w q. k w q.0 q.1) (foci (to_field y p) v) h.found)

  module _ (ss : Slots) (tag : Option Tag) (zs rs : Slots) (kept : value.ValueKept (rec ss tag zs rs)) where
    abbrev whole : Typed
    whole = rec ss tag zs rs

    kept_there : (y : List ℕ) → AllByRecursion value.ValueKept (foci (may_field y) whole)
    kept_there y = kept_under y ss zs kept.1.0 kept.1.1.0

    common_leads : (fs : Fields) → has_twice (names fs) ≡ false → has_musts fs (out_slots ss) ≡ true → EachSlot (FieldsFit U P fs) ss → EachSlot (λ n w. is_among (names fs) n ≡ false) zs → EachSlot (λ n w. is_among (names fs) n ≡ false) rs → ((t : Tag) → tag ≡ Some t → is_among (names fs) t.0 ≡ false) → EachField (FieldLeads whole) fs
    common_leads fs d m e apart unknown no_tag =
        each_leads whole fs (finds_common U P ss tag zs rs fs d m e apart)
        (λ y a. record {
          does = does_common y ss tag zs rs (λ t i. other_name y t.0 (names fs) a (no_tag t i)) (free_by y (names fs) a rs unknown) (once_of y ss (once_if_ascends (slots ss) kept.0.fields)) (free_by y (names fs) a zs apart);
          kept = kept_there y;
        })

    cased_leads : (ds : Fields) → has_twice (names ds) ≡ false → has_musts ds (out_slots zs) ≡ true → EachSlot (FieldsFit U P ds) zs → EachSlot (λ n w. is_among (names ds) n ≡ false) ss → EachSlot (λ n w. is_among (names ds) n ≡ false) rs → ((t : Tag) → tag ≡ Some t → is_among (names ds) t.0 ≡ false) → EachField (FieldLeads whole) ds
    cased_leads ds d m e apart unknown no_tag =
        each_leads whole ds (finds_cased U P ss tag zs rs ds d m e apart)
        (λ y a. record {
          does = does_cased y ss tag zs rs (λ t i. other_name y t.0 (names ds) a (no_tag t i)) (free_by y (names ds) a rs unknown) (free_by y (names ds) a ss apart) (once_of y zs (once_if_ascends (slots zs) kept.0.cased));
          kept = kept_there y;
        })

  -- ---- cases
  module _ (ss : Slots) (t : Tag) (zs rs : Slots) (tg : List ℕ) (does : (m : List ℕ) → Does (case_of m) (tagged tg m) (rec ss (Some t) zs rs)) where
    abbrev chosen : Typed
    chosen = rec ss (Some t) zs rs

    case_lead : (m : List ℕ) (ds : Fields) → (b : Bool) → same_name m t.1 ≡ b → (b ≡ true → AllLead chosen (field_places x ds) (field_ways form x ds)) → AllLead chosen (behind (case_of m) (field_places x ds)) (after (tagged tg m) (field_ways form x ds))
    case_lead m ds b e f =
        behind_lead (case_of m) (tagged tg m) chosen (does m) (field_places x ds) (field_ways form x ds) (paired_fields ds) (at_literal (λ w. AllLead w (field_places x ds) (field_ways form x ds)) chosen (same_name m t.1) b e f)

    both_cases : (m : List ℕ) (ds : Fields) (cs : Cases) → AllLead chosen (behind (case_of m) (field_places x ds)) (after (tagged tg m) (field_ways form x ds)) → AllLead chosen (case_places x cs) (case_ways form x tg cs) → AllLead chosen (case_places x (case m ds cs)) (case_ways form x tg (case m ds cs))
    both_cases m ds cs h k =
        two_append (IsWayOf U P chosen) (behind (case_of m) (field_places x ds)) (case_places x cs) (after (tagged tg m) (field_ways form x ds)) (case_ways form x tg cs) h k

    -- cases of which none has the literal
    other_cases : (cs : Cases) → is_among (literals cs) t.1 ≡ false → AllLead chosen (case_places x cs) (case_ways form x tg cs)
    other_cases no_case h = tt
    other_cases (case m ds cs) h =
        let both = split_or (same_name t.1 m) (is_among (literals cs) t.1) h in
        both_cases m ds cs (case_lead m ds false (flips m t.1 ∙ both.0) (λ e. absurd cc)) (other_cases cs both.1)

    -- the first case and the others
    cases_lead : (m : List ℕ) (ds : Fields) (cs : Cases) (b : Bool) → same_name t.1 m ≡ b → has_twice (m ∷ literals cs) ≡ false → (b ≡ true → AllLead chosen (field_places x ds) (field_ways form x ds)) → (b ≡ false → AllLead chosen (case_places x cs) (case_ways form x tg cs)) → AllLead chosen (case_places x (case m ds cs)) (case_ways form x tg (case m ds cs))
    cases_lead m ds cs true e d f g =
        let none : is_among (literals cs) t.1 ≡ false = ap (is_among (literals cs)) (same_name_is t.1 m e) ∙ (split_or (is_among (literals cs) m) (has_twice (literals cs)) d).0 in
        both_cases m ds cs (case_lead m ds true (flips m t.1 ∙ e) f) (other_cases cs none)
    cases_lead m ds cs false e d f g = both_cases m ds cs (case_lead m ds false (flips m t.1 ∙ e) (λ i. absurd cc)) (g refl)

  -- ---- what is asked of the first case where it has the literal, and of the others where it hasn't
  other_bool : (b c d a : Bool) → b ≡ false → (if b then c else d) ≡ a → d ≡ a
  other_bool b c d a e m = sym (ap (λ i. if i then c else d) e) ∙ m

  this_bool : (b c d a : Bool) → b ≡ true → (if b then c else d) ≡ a → c ≡ a
  this_bool b c d a e m = sym (ap (λ i. if i then c else d) e) ∙ m

  lead_sum : (V W : Template) (v : Typed) → AllLead v (behind (side Left) (places x V)) (after (kinds form V) (ways form x V)) → AllLead v (behind (side Right) (places x W)) (after (kinds form W) (ways form x W)) → AllLead v (places x (template.sum V W)) (ways form x (template.sum V W))
  lead_sum V W v h k = two_append (IsWayOf U P v) (behind (side Left) (places x V)) (behind (side Right) (places x W)) (after (kinds form V) (ways form x V)) (after (kinds form W) (ways form x W)) h k

  mutual
    lead : (V : Template) (v : Typed) → TemplateKept V → SumsApart form V → value.ValueKept v → ValueFits U P V v → AllLead v (places x V) (ways form x V)
    lead (template.leaf k) v kept apart own h = tt
    lead template.any v kept apart own h = tt
    lead (template.point n) v kept apart own h = tt
    lead (template.list V) (list vs) kept apart own h =
        behind_lead each each_item (list vs) (does_each vs) (places x V) (ways form x V) (paired V)
        (all_weaker (λ w. value.ValueKept w × ValueFits U P V w) (λ w. AllLead w (places x V) (ways form x V)) (λ w q. lead V w kept apart q.0 q.1) (items vs) (all_both value.ValueKept (ValueFits U P V) (items vs) (kept_items vs own) (all_items (ValueFits U P V) (ValueFits U P V) (λ w k. k) vs h)))
    lead (template.sum V W) (left v) kept apart own h =
        let there : has_kind form V (kind_of (out v)) ≡ true = kind_there form U P V v apart.0.left h in
        let elsewhere : has_kind form W (kind_of (out v)) ≡ false = apart.0.apart (kind_of (out v)) there in
        lead_sum V W (left v) (behind_lead (side Left) (kinds form V) (left v) (does_left form V v there) (places x V) (ways form x V) (paired V) (lead V v kept.0 apart.1 own h, tt)) (behind_lead (side Right) (kinds form W) (left v) (not_right form W v elsewhere) (places x W) (ways form x W) (paired W) tt)
    lead (template.sum V W) (right v) kept apart own h =
        let there : has_kind form W (kind_of (out v)) ≡ true = kind_there form U P W v apart.0.right h in
        let elsewhere : has_kind form V (kind_of (out v)) ≡ false = false_from_ne_true (has_kind form V (kind_of (out v))) (λ e. true≢false (sym there ∙ apart.0.apart (kind_of (out v)) e)) in
        lead_sum V W (right v) (behind_lead (side Left) (kinds form V) (right v) (not_left form V v elsewhere) (places x V) (ways form x V) (paired V) tt) (behind_lead (side Right) (kinds form W) (right v) (does_right form W v there) (places x W) (ways form x W) (paired W) (lead W v kept.1 apart.2 own h, tt))
    lead (template.rec fs c r) (rec ss tag zs rs) kept apart own h =
        let musts = split_and (has_musts fs (out_slots ss)) (has_cased_musts c tag (out_slots zs)) h.1 in
        lead_choice c fs r ss tag zs rs kept.1.1 apart.1 own kept.0.distinct h.0 musts.1 h.2 h.3 h.4
        (λ cased tagless. lead_fields fs (rec ss tag zs rs) kept.1.0 apart.0
        (common_leads ss tag zs rs own fs (distinct_fields fs c kept.0.distinct) musts.0 h.2 cased
        (weaker_slots (IsUnknown U fs c tag r) (λ n w. is_among (names fs) n ≡ false) (λ n w u. sym (field_among n fs) ∙ (split_or (is_field n fs) (is_cased n c tag) u.0).0) rs h.4) tagless))
    lead _ v kept apart own h = absurd h

    lead_fields : (fs : Fields) (v : Typed) → FieldsKept fs → FieldsApart form fs → EachField (FieldLeads v) fs → AllLead v (field_places x fs) (field_ways form x fs)
    lead_fields no_field v kept apart h = tt
    lead_fields (field y p V fs) v kept apart h =
        two_append (IsWayOf U P v) (if same_name x y then (to_field y p, V) ∷ [] else behind (to_field y p) (places x V)) (field_places x fs) (if same_name x y then (name y ∷ []) ∷ [] else after (name y) (ways form x V)) (field_ways form x fs)
        (field_lead (same_name x y) v y p V h.0 (λ w k q. lead V w kept.0 apart.0 k q)) (lead_fields fs v kept.1 apart.1 h.1)

    lead_choice : (c : Choice) (fs : Fields) (r : Rest) (ss : Slots) (tag : Option Tag) (zs rs : Slots) → ChoiceKept c → ChoiceApart form c → value.ValueKept (rec ss tag zs rs) → is_twice_named (field_list fs) (cases_in c) ≡ false → TagFits c tag → has_cased_musts c tag (out_slots zs) ≡ true → EachSlot (FieldsFit U P fs) ss → EachSlot (ChoiceFits U P c tag) zs → EachSlot (IsUnknown U fs c tag r) rs → (EachSlot (λ n w. is_among (names fs) n ≡ false) zs → ((t : Tag) → tag ≡ Some t → is_among (names fs) t.0 ≡ false) → AllLead (rec ss tag zs rs) (field_places x fs) (field_ways form x fs)) → AllLead (rec ss tag zs rs) (field_places x fs ++ choice_places x c) (field_ways form x fs ++ choice_ways form x c)
    lead_choice no_choice fs r ss None zs rs kept apart own d t m e h u f =
        two_append (IsWayOf U P (rec ss None zs rs)) (field_places x fs) [] (field_ways form x fs) [] (f (weaker_slots (λ n w. ⊥) (λ n w. is_among (names fs) n ≡ false) (λ n w k. absurd k) zs h) (λ t e. absurd cc)) tt
    lead_choice no_choice fs r ss (Some t) zs rs kept apart own d tag_fits m e h u f = absurd tag_fits
    lead_choice (choice tg cs k) fs r ss None zs rs kept apart own d t m e h u f = absurd t
    lead_choice (choice tg cs k) fs r ss (Some t) zs rs kept apart own d tag_fits m e h u f =
        let distinct = (all_distinct fs tg cs k d).1 in
        let tagless : is_among (names fs) t.0 ≡ false = subst (λ (n : List ℕ). is_among (names fs) n ≡ false) (sym tag_fits.0) (all_distinct fs tg cs k d).0.0 in
        let no_tag : (s : Tag) → Some t ≡ Some s → is_among (names fs) s.0 ≡ false = λ s i. subst (λ (q : Tag). is_among (names fs) q.0 ≡ false) (same_Some t s i) tagless in
        let free : Free t.0 ss = weaker_slots (FieldsFit U P fs) (λ n w. same_name t.0 n ≡ false) (λ n w q. flips t.0 n ∙ other_name n t.0 (names fs) (name_of_field U P fs n w q) tagless) ss e in
        let does : (l : List ℕ) → Does (case_of l) (tagged tg l) (rec ss (Some t) zs rs) = λ l. subst (λ (n : List ℕ). Does (case_of l) (tagged n l) (rec ss (Some t) zs rs)) tag_fits.0 (does_case l ss t zs rs free) in
        two_append (IsWayOf U P (rec ss (Some t) zs rs)) (field_places x fs) (case_places x cs) (field_ways form x fs) (case_ways form x tg cs)
        (f (weaker_slots (CasesFit U P t.1 cs) (λ n w. is_among (names fs) n ≡ false) (λ n w q. name_of_choice U P fs tg cs t n w distinct.0 q) zs h) no_tag)
        (lead_cases cs (tg ∷ names fs) ss t zs rs tg does kept apart own (left_or (same_name t.0 tg) (is_among (names fs) t.0) (subst (λ (n : List ℕ). same_name t.0 n ≡ true) tag_fits.0 (same_name_itself t.0))) distinct.0 distinct.1
        (weaker_slots (FieldsFit U P fs) (λ n w. is_among (tg ∷ names fs) n ≡ true) (λ n w q. right_or (same_name n tg) (is_among (names fs) n) (name_of_field U P fs n w q)) ss e) h m
        (weaker_slots (IsUnknown U fs (choice tg cs k) (Some t) r) (λ n w. is_field_of_case n t.1 cs ≡ false) (λ n w q. (split_or (same_name n tg) (is_field_of_case n t.1 cs) (split_or (is_field n fs) (same_name n tg || is_field_of_case n t.1 cs) q.0).1).1) rs u))

    lead_cases : (cs : Cases) (others : List (List ℕ)) (ss : Slots) (t : Tag) (zs rs : Slots) (tg : List ℕ) → ((m : List ℕ) → Does (case_of m) (tagged tg m) (rec ss (Some t) zs rs)) → CasesKept cs → CasesApart form cs → value.ValueKept (rec ss (Some t) zs rs) → is_among others t.0 ≡ true → list_any (has_twice_in others) (case_list cs) ≡ false → has_twice (literals cs) ≡ false → EachSlot (λ n w. is_among others n ≡ true) ss → EachSlot (CasesFit U P t.1 cs) zs → has_case_musts t.1 cs (out_slots zs) ≡ true → EachSlot (λ n w. is_field_of_case n t.1 cs ≡ false) rs → AllLead (rec ss (Some t) zs rs) (case_places x cs) (case_ways form x tg cs)
    lead_cases no_case others ss t zs rs tg does kept apart own among d once e h m u = tt
    lead_cases (case l ds cs) others ss t zs rs tg does kept apart own among d once e h m u =
        let both = split_or (has_twice (names ds ++ others)) (list_any (has_twice_in others) (case_list cs)) d in
        cases_lead ss t zs rs tg does l ds cs (same_name t.1 l) refl once
        (λ i. lead_fields ds (rec ss (Some t) zs rs) kept.0 apart.0
        (cased_leads ss (Some t) zs rs own ds (first_once (names ds) others both.0) (this_bool (same_name t.1 l) (has_musts ds (out_slots zs)) (has_case_musts t.1 cs (out_slots zs)) true i m)
        (weaker_slots (λ n w. MatchBool (same_name t.1 l) (FieldsFit U P ds n w) (CasesFit U P t.1 cs n w)) (FieldsFit U P ds) (λ n w q. MatchBool-at_true (FieldsFit U P ds n w) (CasesFit U P t.1 cs n w) i q) zs h)
        (weaker_slots (λ n w. is_among others n ≡ true) (λ n w. is_among (names ds) n ≡ false) (λ n w q. apart_from_first (names ds) others n both.0 q) ss e)
        (weaker_slots (λ n w. (if same_name t.1 l then is_field n ds else is_field_of_case n t.1 cs) ≡ false) (λ n w. is_among (names ds) n ≡ false) (λ n w q. sym (field_among n ds) ∙ this_bool (same_name t.1 l) (is_field n ds) (is_field_of_case n t.1 cs) false i q) rs u)
        (λ s j. subst (λ (q : Tag). is_among (names ds) q.0 ≡ false) (same_Some t s j) (apart_from_first (names ds) others t.0 both.0 among))))
        (λ i. lead_cases cs others ss t zs rs tg does kept.1 apart.1 own among both.1 (split_or (is_among (literals cs) l) (has_twice (literals cs)) once).1 e
        (weaker_slots (λ n w. MatchBool (same_name t.1 l) (FieldsFit U P ds n w) (CasesFit U P t.1 cs n w)) (CasesFit U P t.1 cs) (λ n w q. MatchBool-at_false (FieldsFit U P ds n w) (CasesFit U P t.1 cs n w) i q) zs h)
        (other_bool (same_name t.1 l) (has_musts ds (out_slots zs)) (has_case_musts t.1 cs (out_slots zs)) true i m)
        (weaker_slots (λ n w. (if same_name t.1 l then is_field n ds else is_field_of_case n t.1 cs) ≡ false) (λ n w. is_field_of_case n t.1 cs ≡ false) (λ n w q. other_bool (same_name t.1 l) (is_field n ds) (is_field_of_case n t.1 cs) false i q) rs u))

-- what the optic of a place finds are the values where its way leads
pub places_lead : (form : Form) (U : Typed → Type 0) (P : List ℕ → Typed → Type 0) → PlacesLead form U P
places_lead form U P x V v kept apart own h = lead form U P x V v kept apart own h
