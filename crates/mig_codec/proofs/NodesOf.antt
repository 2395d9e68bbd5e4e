-- A value that fits as reading gives it has as many counted nodes as its tree has by the family.
use Rattle.std.proofs.Common.{◌≡◌, refl, sym, ap, ap₂, ◌∙◌, subst, ℕ, zero, suc, ◌+◌, arith, List, [], ◌∷◌, ◌++◌, take, drop, Bool, true, false, true≢false, Option, Some, None, MatchBool}
use Rattle.std.proofs.lemmas.Bool.{false_from_ne_true}
use Rattle.std.specs.Prelude.{IsPermutation, Contains, sum_by, ◌||◌, is_some, if◌then◌else◌}
use Rattle.std.specs.List.{list_any}
use Rattle.std.specs.Map.{keys_of}
use Rattle.std.proofs.lemmas.List.{drop_more, take-append-drop}
use Rattle.std.proofs.lemmas.List.Sums.{sum_by-cons}
use Rattle.std.proofs.lemmas.List.Sorted.{Contains-permutation, sum_by-IsPermutation}
use Rattle.mig_model.specs.declared.form.Form.{Form}
use Rattle.mig_model.specs.declared.presence.Presence.{Presence}
use Rattle.mig_model.specs.declared.rest.Rest.{Rest}
use Rattle.mig_model.specs.Plain as plain
use Rattle.mig_model.specs.Plain.{Plain, pairs_of}
use Rattle.mig_model.specs.Kinds.{kind_of, entries_of_pairs}
use Rattle.mig_model.specs.Names.{Ascends, under, same_name, has_twice, is_among}
use Rattle.mig_model.specs.Template as template
use Rattle.mig_model.specs.Template.{Template, Fields, no_field, field, field_list, Choice, no_choice, choice, Cases, no_case, case, case_list, same_kind, has_kind}
use Rattle.mig_model.specs.Inhabits.{Entries}
use Rattle.mig_model.specs.Fields.{is_field, find_field}
use Rattle.mig_model.specs.Family.{Family, body, IsFormed}
use Rattle.mig_laws.specs.Sides.{is_side, AreSides, SumsApart, FieldsApart, ChoiceApart, CasesApart}
use Rattle.mig_laws.proofs.Formed.{body_apart}
use Rattle.mig_laws.proofs.Reading.{tag_is}
use Rattle.mig_model.specs.Record.{has_twice_in, is_twice_in, is_twice_named, cases_in}
use Rattle.mig_model.specs.TemplateKept as kept
use Rattle.mig_template.proofs.Found.{among_is_found}
use Rattle.mig_value.specs.Typed as typed
use Rattle.mig_value.specs.Typed.{Typed, Items, no_item, item, Slots, no_slot, slot, slots, slots_of, out, out_items, out_slots, tag_pair, in_order, Tag, typed_size}
use Rattle.mig_value.specs.Parts as values
use Rattle.mig_value.specs.Fit.{ValueFits, FieldsFit, ChoiceFits, CasesFit, EachItem, EachSlot, IsUnknown, IsAtomOf, TagFits, is_field_of_case, FitWithin}
use Rattle.mig_value.specs.Kept.{ValueKept, ItemsKept, SlotsKept}
use Rattle.mig_value.specs.Nodes.{Test, count, nodes, nodes_in_items, nodes_in_slots, sum_items, sum_entries, tally, tally_fields, tally_choice, tally_cases, tree_nodes}
use Rattle.mig_value.proofs.Orders.{in_order_named}
use Rattle.mig_codec.specs.Laws.{BodiesKept, NodesByTree}
use Rattle.mig_write.specs.Lists.{pairs_in}
use Rattle.mig_write.proofs.Pairs.{has_order}
use Rattle.mig_codec.proofs.RowEnd.{or_false}
use Rattle.mig_codec.proofs.ReadOf.{found_here}
use Rattle.mig_codec.proofs.RowLoop.{sum_append}
use Rattle.mig_codec.proofs.RowNodes.{other_tally}
use Rattle.mig_codec.proofs.Tally.{Count, record_tally, body_nodes}
use Rattle.mig_model.proofs.Bools.{split_and, split_or, right_or, left_or}
use Rattle.mig_model.proofs.SameNames.{same_name_itself, same_kind_itself}
use Rattle.mig_value.proofs.Views.{slots_whole}
use Rattle.mig_template.proofs.Names.{apart_from_first}

-- ---- sums over pairs
sum_as : (g : Count) (es : Entries) → sum_by (λ (e : List ℕ × Plain). g e.0 e.1) es ≡ sum_entries g es
sum_as g [] = refl
sum_as g (e ∷ es) = sum_by-cons (λ (x : List ℕ × Plain). g x.0 x.1) e es ∙ ap (λ i. g e.0 e.1 + i) (sum_as g es)

sum_moved : (g : Count) (es ds : Entries) → IsPermutation es ds → sum_entries g ds ≡ sum_entries g es
sum_moved g es ds p = sym (sum_as g ds) ∙ sum_by-IsPermutation (λ (e : List ℕ × Plain). g e.0 e.1) es ds p ∙ sum_as g es

-- each slot's nodes are what g says of its tree
slots_sum : (g : Count) (q : Test) (Q : List ℕ → Typed → Type 0) → ((n : List ℕ) (v : Typed) → Q n v → ValueKept v → g n (out v) ≡ nodes q v) → (ss : Slots) → EachSlot Q ss → SlotsKept ss → sum_entries g (out_slots ss) ≡ nodes_in_slots q ss
slots_sum g q Q h no_slot e k = refl
slots_sum g q Q h (slot n v ss) e k = ap₂ ◌+◌ (h n v e.0 k.0) (slots_sum g q Q h ss e.1 k.1)

-- ---- a pair that stands in a map is found by its name
found_moved : (es ds : Entries) (n : List ℕ) (t : Plain) → IsPermutation es ds → Ascends ds → Contains es (n, t) → under n ds ≡ Some t
found_moved es ds n t p s c =
    let there = Contains-permutation es ds (n, t) p c in
    let tail : drop there.0 ds ≡ (n, t) ∷ drop (there.0 + 1) ds = drop_more ds there.0 (n, t) there.1 ∙ ap (λ (e : List ℕ × Plain). e ∷ drop (there.0 + 1) ds) there.2 in
    let parted : ds ≡ take there.0 ds ++ (n, t) ∷ drop (there.0 + 1) ds = sym (take-append-drop there.0 ds) ∙ ap (λ (l : Entries). take there.0 ds ++ l) tail in
    ap (under n) parted ∙ found_here (take there.0 ds) (drop (there.0 + 1) ds) n t (subst Ascends parted s)

behind : (xs ys : Entries) (e : List ℕ × Plain) → Contains (xs ++ e ∷ ys) e
behind [] ys e = (0, omega arith, refl)
behind (x ∷ xs) ys e = let more = behind xs ys e in (suc more.0, omega (arith, more.1), more.2)

-- ---- names of fields
fields_named : (U : Typed → Type 0) (P : List ℕ → Typed → Type 0) (fs : Fields) (n : List ℕ) (v : Typed) → FieldsFit U P fs n v → is_among (keys_of (field_list fs)) n ≡ true
fields_named U P no_field n v h = absurd h
fields_named U P (field x p V fs) n v h = by (same_name n x) h (fields_named U P fs n v)
  where
    by : (b : Bool) → MatchBool b (ValueFits U P V v) (FieldsFit U P fs n v) → (FieldsFit U P fs n v → is_among (keys_of (field_list fs)) n ≡ true) → (b || is_among (keys_of (field_list fs)) n) ≡ true
    by true k rest = refl
    by false k rest = rest k

-- a name of the case with this literal is none of the others
case_named : (U : Typed → Type 0) (P : List ℕ → Typed → Type 0) (others : List (List ℕ)) (l : List ℕ) (cs : Cases) (n : List ℕ) (v : Typed) → list_any (has_twice_in others) (case_list cs) ≡ false → CasesFit U P l cs n v → is_among others n ≡ false
case_named U P others l no_case n v once h = absurd h
case_named U P others l (case m fs cs) n v once h =
    let both = split_or (has_twice (keys_of (field_list fs) ++ others)) (list_any (has_twice_in others) (case_list cs)) once in
    by (same_name l m) h both.0 (case_named U P others l cs n v both.1)
  where
    by : (b : Bool) → MatchBool b (FieldsFit U P fs n v) (CasesFit U P l cs n v) → has_twice (keys_of (field_list fs) ++ others) ≡ false → (CasesFit U P l cs n v → is_among others n ≡ false) → is_among others n ≡ false
    by true k apart rest = false_from_ne_true (is_among others n) (λ i. absurd (true≢false (sym (fields_named U P fs n v k) ∙ apart_from_first (keys_of (field_list fs)) others n apart i)))
    by false k apart rest = rest k

not_field : (fs : Fields) (n : List ℕ) → is_field n fs ≡ false → find_field n fs ≡ None
not_field fs n = by (find_field n fs)
  where
    by : (o : Option (Presence × Template)) → is_some o ≡ false → o ≡ None
    by None e = refl
    by (Some s) e = absurd (true≢false e)

-- ---- the kind of a value's tree tells the side

value_kind : (form : Form) (P : List ℕ → Typed → Type 0) (V : Template) (v : Typed) → is_side V ≡ true → ValueFits (IsAtomOf form) P V v → has_kind form V (kind_of (out v)) ≡ true
value_kind form P (template.leaf k) (typed.atom t) s h = ap (same_kind k) h ∙ same_kind_itself k
value_kind form P template.any v s h = absurd (true≢false (sym s))
value_kind form P (template.list V) (typed.list vs) s h = refl
value_kind form P (template.point n) v s h = absurd (true≢false (sym s))
value_kind form P (template.rec fs c r) (typed.rec ss tag cs rs) s h = refl
value_kind form P (template.sum V W) (typed.left v) s h = left_or _ _ (value_kind form P V v (split_and (is_side V) (is_side W) s).0 h)
value_kind form P (template.sum V W) (typed.right v) s h = right_or _ _ (value_kind form P W v (split_and (is_side V) (is_side W) s).1 h)
value_kind form P _ v s h = absurd h

match_is : (b : Bool) (A B : Type 0) {x y z : ℕ} → (A → x ≡ z) → (B → y ≡ z) → MatchBool b A B → (if b then x else y) ≡ z
match_is true A B f g m = f m
match_is false A B f g m = g m

module _ (form : Form) (q : Test) (T : Count) (P : List ℕ → Typed → Type 0) (known : (n : List ℕ) (v : Typed) → P n v → ValueKept v → nodes q v ≡ T n (out v)) where
  abbrev U : Typed → Type 0
  U = IsAtomOf form

  -- a point counts by its name, and what is below it
  abbrev at_point : Count
  at_point m u = count (q m) + T m u

  items_sum : (h : Plain → ℕ) (Q : Typed → Type 0) → ((v : Typed) → Q v → ValueKept v → nodes q v ≡ h (out v)) → (vs : Items) → EachItem Q vs → ItemsKept vs → nodes_in_items q vs ≡ sum_items h (plain.items (out_items vs))
  items_sum h Q f no_item e k = refl
  items_sum h Q f (item v vs) e k = ap₂ ◌+◌ (f v e.0 k.0) (items_sum h Q f vs e.1 k.1)

  no_nodes : (v : Typed) → U v → 0 ≡ nodes q v
  no_nodes (typed.atom t) u = refl
  no_nodes v u = absurd u

  abbrev CountsFields : Fields → Type 0
  CountsFields fs = (others : Count) (n : List ℕ) (v : Typed) → FieldsFit U P fs n v → ValueKept v → tally_fields form at_point fs others n (out v) ≡ nodes q v

  abbrev CountsCases : List ℕ → Cases → Type 0
  CountsCases tag cs = (l : List ℕ) (es : Entries) → under tag es ≡ Some (plain.text l) → (n : List ℕ) (v : Typed) → CasesFit U P l cs n v → ValueKept v → tally_cases form at_point tag cs es n (out v) ≡ nodes q v

  abbrev CountsChoice : Choice → Type 0
  CountsChoice no_choice = Unit {0}
  CountsChoice (choice tag cs keeps) = CountsCases tag cs

  -- an unknown name is in no case
  none_in_cases : (tag l : List ℕ) (es : Entries) → under tag es ≡ Some (plain.text l) → (cs : Cases) (n : List ℕ) (t : Plain) → is_field_of_case n l cs ≡ false → tally_cases form at_point tag cs es n t ≡ 0
  none_in_cases tag l es is no_case n t e = refl
  none_in_cases tag l es is (case m fs cs) n t e = rw (tag_is tag l es is m) (by (same_name l m) e (none_in_cases tag l es is cs n t))
    where
      by : (b : Bool) → (if b then is_field n fs else is_field_of_case n l cs) ≡ false → (is_field_of_case n l cs ≡ false → tally_cases form at_point tag cs es n t ≡ 0) → (if b then tally_fields form at_point fs (λ m' u. 0) n t else tally_cases form at_point tag cs es n t) ≡ 0
      by true k rest = other_tally form at_point fs n (not_field fs n k) (λ m' u. 0) t
      by false k rest = rest k

  -- the pairs of a record's map, in their order and list by list
  module _ (fs : Fields) (c : Choice) (ss : Slots) (tag : Option Tag) (cs rs : Slots) where
    abbrev all : Entries
    all = out_slots ss ++ (tag_pair tag ++ (out_slots cs ++ out_slots rs))

    abbrev given : values.RecordParts
    given = record { fields = slots ss; tag = tag; cased = slots cs; rest = slots rs }

    all_is : pairs_in given ≡ all
    all_is = λ i. out_slots (slots_whole ss i) ++ (tag_pair tag ++ (out_slots (slots_whole cs i) ++ out_slots (slots_whole rs i)))

    ordered : values.IsRecordValue given → IsPermutation all (in_order all) × Ascends (in_order all)
    ordered k =
        let order = has_order given k in
        let is : order.0 ≡ in_order all = sym (in_order_named (pairs_in given) order.0 order.1 order.2) ∙ ap in_order all_is in
        (subst (λ (l : Entries). IsPermutation l (in_order all)) all_is (subst (IsPermutation (pairs_in given)) is order.1), subst Ascends is order.2)

    -- what is to be shown of each list
    abbrev here : Count
    here = tally_choice form at_point c (tally_fields form at_point fs) (in_order all)

    lists_sum : values.IsRecordValue given → sum_entries here (out_slots ss) ≡ nodes_in_slots q ss → sum_entries here (tag_pair tag) ≡ 0 → sum_entries here (out_slots cs) ≡ nodes_in_slots q cs → sum_entries here (out_slots rs) ≡ nodes_in_slots q rs
        → nodes_in_slots q ss + (nodes_in_slots q cs + nodes_in_slots q rs) ≡ sum_entries here (in_order all)
    lists_sum k e1 e2 e3 e4 =
        omega (
          arith,
          sum_moved here all (in_order all) (ordered k).0,
          sum_append here (out_slots ss) (tag_pair tag ++ (out_slots cs ++ out_slots rs)),
          sum_append here (tag_pair tag) (out_slots cs ++ out_slots rs),
          sum_append here (out_slots cs) (out_slots rs),
          e1,
          e2,
          e3,
          e4,
        )

  abbrev RecordCounts : (fs : Fields) (c : Choice) (ss : Slots) (tag : Option Tag) (cs rs : Slots) → Type 0
  RecordCounts fs c ss tag cs rs =
      nodes_in_slots q ss + (nodes_in_slots q cs + nodes_in_slots q rs) ≡ sum_entries (tally_choice form at_point c (tally_fields form at_point fs) (in_order (all fs c ss tag cs rs))) (in_order (all fs c ss tag cs rs))

  untagged_counts : (fs : Fields) (r : Rest) → CountsFields fs → (ss cs rs : Slots) → values.IsRecordValue (given fs no_choice ss None cs rs) → SlotsKept ss → SlotsKept cs → SlotsKept rs
      → EachSlot (FieldsFit U P fs) ss → EachSlot (ChoiceFits U P no_choice None) cs → EachSlot (IsUnknown U fs no_choice None r) rs → RecordCounts fs no_choice ss None cs rs
  untagged_counts fs r hf ss cs rs k ks kc kr e1 e3 e4 =
      lists_sum fs no_choice ss None cs rs k
      (slots_sum (here fs no_choice ss None cs rs) q (FieldsFit U P fs) (λ n v f w. hf (λ m u. 0) n v f w) ss e1 ks)
      refl
      (slots_sum (here fs no_choice ss None cs rs) q (ChoiceFits U P no_choice None) (λ n v f w. absurd f) cs e3 kc)
      (slots_sum (here fs no_choice ss None cs rs) q (IsUnknown U fs no_choice None r)
      (λ n v f w. other_tally form at_point fs n (not_field fs n (split_or (is_field n fs) false f.0).0) (λ m u. 0) (out v) ∙ no_nodes v f.2) rs e4 kr)

  tagged_counts : (fs : Fields) (tag : List ℕ) (ds : Cases) (keeps : Bool) (r : Rest) → CountsFields fs → CountsCases tag ds → is_twice_named (field_list fs) (Some (tag, case_list ds, keeps)) ≡ false
      → (ss : Slots) (l : List ℕ) (cs rs : Slots) → values.IsRecordValue (given fs (choice tag ds keeps) ss (Some (tag, l)) cs rs) → SlotsKept ss → SlotsKept cs → SlotsKept rs
      → EachSlot (FieldsFit U P fs) ss → EachSlot (ChoiceFits U P (choice tag ds keeps) (Some (tag, l))) cs → EachSlot (IsUnknown U fs (choice tag ds keeps) (Some (tag, l)) r) rs
      → RecordCounts fs (choice tag ds keeps) ss (Some (tag, l)) cs rs
  tagged_counts fs tag ds keeps r hf hc once ss l cs rs k ks kc kr e1 e3 e4 =
      lists_sum fs (choice tag ds keeps) ss (Some (tag, l)) cs rs k
      (slots_sum there q (FieldsFit U P fs) (λ n v f w. beside_tag n (out v) (no_tag n v f) ∙ hf cases n v f w) ss e1 ks)
      (omega (arith, at_tag))
      (slots_sum there q (CasesFit U P l ds) (λ n v f w.
      let apart = split_or (same_name n tag) (is_among (keys_of (field_list fs)) n) (case_named U P (tag ∷ keys_of (field_list fs)) l ds n v both_in.0 f) in
      beside_tag n (out v) apart.0 ∙ other_tally form at_point fs n (not_field fs n (among_is_found n (field_list fs) ∙ apart.1)) cases (out v) ∙ hc l es text n v f w) cs e3 kc)
      (slots_sum there q (IsUnknown U fs (choice tag ds keeps) (Some (tag, l)) r) (λ n v f w.
      let first = split_or (is_field n fs) (same_name n tag || is_field_of_case n l ds) f.0 in
      let second = split_or (same_name n tag) (is_field_of_case n l ds) first.1 in
      beside_tag n (out v) second.0 ∙ other_tally form at_point fs n (not_field fs n first.0) cases (out v) ∙ none_in_cases tag l es text ds n (out v) second.1 ∙ no_nodes v f.2) rs e4 kr)
    where
      es : Entries
      es = in_order (all fs (choice tag ds keeps) ss (Some (tag, l)) cs rs)

      there : Count
      there = here fs (choice tag ds keeps) ss (Some (tag, l)) cs rs

      cases : Count
      cases = tally_cases form at_point tag ds es

      both : (has_twice (tag ∷ keys_of (field_list fs)) ≡ false) × (is_twice_in (tag ∷ keys_of (field_list fs)) (case_list ds) ≡ false)
      both = split_or (has_twice (tag ∷ keys_of (field_list fs))) (is_twice_in (tag ∷ keys_of (field_list fs)) (case_list ds)) once

      both_in : (list_any (has_twice_in (tag ∷ keys_of (field_list fs))) (case_list ds) ≡ false) × (has_twice (keys_of (case_list ds)) ≡ false)
      both_in = split_or (list_any (has_twice_in (tag ∷ keys_of (field_list fs))) (case_list ds)) (has_twice (keys_of (case_list ds))) both.1

      no_tag : (n : List ℕ) (v : Typed) → FieldsFit U P fs n v → same_name n tag ≡ false
      no_tag n v f = or_false (same_name n tag) (apart_from_first (tag ∷ []) (keys_of (field_list fs)) n both.0 (fields_named U P fs n v f))

      beside_tag : (n : List ℕ) (t : Plain) → same_name n tag ≡ false → there n t ≡ tally_fields form at_point fs cases n t
      beside_tag n t e = λ i. if e i then 0 else tally_fields form at_point fs cases n t

      at_tag : there tag (plain.text l) ≡ 0
      at_tag = λ i. if same_name_itself tag i then 0 else tally_fields form at_point fs cases tag (plain.text l)

      text : under tag es ≡ Some (plain.text l)
      text =
          let order = ordered fs (choice tag ds keeps) ss (Some (tag, l)) cs rs k in
          found_moved (all fs (choice tag ds keeps) ss (Some (tag, l)) cs rs) es tag (plain.text l) order.0 order.1 (behind (out_slots ss) (out_slots cs ++ out_slots rs) (tag, plain.text l))

  record_counts : (fs : Fields) (c : Choice) (r : Rest) → CountsFields fs → CountsChoice c → is_twice_named (field_list fs) (cases_in c) ≡ false
      → (ss : Slots) (tag : Option Tag) (cs rs : Slots) → values.IsRecordValue (given fs c ss tag cs rs) → SlotsKept ss → SlotsKept cs → SlotsKept rs
      → TagFits c tag → EachSlot (FieldsFit U P fs) ss → EachSlot (ChoiceFits U P c tag) cs → EachSlot (IsUnknown U fs c tag r) rs → RecordCounts fs c ss tag cs rs
  record_counts fs no_choice r hf hc once ss None cs rs k ks kc kr t e1 e3 e4 = untagged_counts fs r hf ss cs rs k ks kc kr e1 e3 e4
  record_counts fs no_choice r hf hc once ss (Some g) cs rs k ks kc kr t e1 e3 e4 = absurd t
  record_counts fs (choice tag ds keeps) r hf hc once ss None cs rs k ks kc kr t e1 e3 e4 = absurd t
  record_counts fs (choice tag ds keeps) r hf hc once ss (Some g) cs rs k ks kc kr t e1 e3 e4 =
      by tag t.0 hc once k e3 e4
    where
      by : (m : List ℕ) → g.0 ≡ m → CountsCases m ds → is_twice_named (field_list fs) (Some (m, case_list ds, keeps)) ≡ false → values.IsRecordValue (given fs (choice m ds keeps) ss (Some g) cs rs)
          → EachSlot (ChoiceFits U P (choice m ds keeps) (Some g)) cs → EachSlot (IsUnknown U fs (choice m ds keeps) (Some g) r) rs → RecordCounts fs (choice m ds keeps) ss (Some g) cs rs
      by m is = subst (λ (x : List ℕ). CountsCases x ds → is_twice_named (field_list fs) (Some (x, case_list ds, keeps)) ≡ false → values.IsRecordValue (given fs (choice x ds keeps) ss (Some g) cs rs)
          → EachSlot (ChoiceFits U P (choice x ds keeps) (Some g)) cs → EachSlot (IsUnknown U fs (choice x ds keeps) (Some g) r) rs → RecordCounts fs (choice x ds keeps) ss (Some g) cs rs) is
          (λ hc' once' k' e3' e4'. tagged_counts fs g.0 ds keeps r hf hc' once' ss g.1 cs rs k' ks kc kr e1 e3' e4')

  other_side : (V W : Template) (v : Typed) → AreSides form V W → has_kind form W (kind_of (out v)) ≡ true → has_kind form V (kind_of (out v)) ≡ false
  other_side V W v a told = false_from_ne_true (has_kind form V (kind_of (out v))) (λ e. true≢false (sym told ∙ a.apart (kind_of (out v)) e))

  mutual
    counts : (V : Template) → SumsApart form V → kept.TemplateKept V → (v : Typed) → ValueKept v → ValueFits U P V v → nodes q v ≡ tally form at_point V (out v)
    counts (template.leaf k) a d (typed.atom t) w h = refl
    counts template.any a d (typed.atom t) w h = refl
    counts (template.list V) a d (typed.list vs) w h = items_sum (tally form at_point V) (ValueFits U P V) (λ v f k. counts V a d v k f) vs h w
    counts (template.point n) a d (typed.point m v) w h = λ i. count (q (h.0 i)) + known n v h.1 w i
    counts (template.rec fs c r) a d (typed.rec ss tag cs rs) w h =
        record_counts fs c r (fields_count fs a.0 d.1.0) (choice_count c a.1 d.1.1) d.0.distinct ss tag cs rs w.0 w.1.0 w.1.1.0 w.1.1.1 h.0 h.2 h.3 h.4
        ∙ ap (record_tally form at_point fs c) (sym (entries_of_pairs (in_order (all fs c ss tag cs rs))))
    counts (template.sum V W) a d (typed.left v) w h =
        counts V a.1 d.0 v w h ∙ (λ i. if sym (value_kind form P V v a.0.left h) i then tally form at_point V (out v) else (if has_kind form W (kind_of (out v)) then tally form at_point W (out v) else 0))
    counts (template.sum V W) a d (typed.right v) w h =
        let told = value_kind form P W v a.0.right h in
        counts W a.2 d.1 v w h ∙ (λ i. if sym (other_side V W v a.0 told) i then tally form at_point V (out v) else (if sym told i then tally form at_point W (out v) else 0))
    counts _ a d v w h = absurd h

    fields_count : (fs : Fields) → FieldsApart form fs → kept.FieldsKept fs → CountsFields fs
    fields_count no_field a d others n v h w = absurd h
    fields_count (field x p V fs) a d others n v h w = match_is (same_name n x) _ _ (λ f. sym (counts V a.0 d.0 v w f)) (λ f. fields_count fs a.1 d.1 others n v f w) h

    choice_count : (c : Choice) → ChoiceApart form c → kept.ChoiceKept c → CountsChoice c
    choice_count no_choice a d = tt
    choice_count (choice tag cs keeps) a d = cases_count cs a d tag

    cases_count : (cs : Cases) → CasesApart form cs → kept.CasesKept cs → (tag : List ℕ) → CountsCases tag cs
    cases_count no_case a d tag l es is n v h w = absurd h
    cases_count (case m fs cs) a d tag l es is n v h w =
        rw (tag_is tag l es is m) (match_is (same_name l m) _ _ (λ f. fields_count fs a.0 d.0 (λ m' u. 0) n v f w) (λ f. cases_count cs a.1 d.1 tag l es is n v f w) h)

within_counted : (f : Family) → IsFormed f → BodiesKept f → (q : Test) (k : ℕ) (n : List ℕ) (v : Typed) → FitWithin (IsAtomOf f.form) (body f) k n v → ValueKept v → nodes q v ≡ tree_nodes f q n (out v)
within_counted f formed keep q zero n v h w = absurd h
within_counted f formed keep q (suc k) n v h w =
    counts f.form q (tree_nodes f q) (FitWithin (IsAtomOf f.form) (body f) k) (within_counted f formed keep q k) (body f n) (body_apart f formed n) (keep n) v w h ∙ sym (body_nodes f formed q n (out v))

pub nodes_by_tree : NodesByTree
nodes_by_tree f formed keep q n v w h = within_counted f formed keep q (typed_size v) n v h w
