-- Settling: a value that was kept with an unknown tag is given the fields of a case with that literal.
use Rattle.std.proofs.Common.{◌≡◌, ℕ, List, [], ◌∷◌, Bool, true, false, true≢false, Option, Some, None, refl, sym, ap, subst, ◌∙◌, inl, inr, arith}
use Rattle.std.specs.Prelude.{not, ◌||◌, ◌&&◌, is_some, option_map, option_and_then, unwrap_or, if◌then◌else◌}
use Rattle.std.specs.Option.{option_or}
use Rattle.std.specs.List.{filter}
use Rattle.std.specs.Map.{keys_of}
use Rattle.mig_model.specs.declared.kind.Kind.{Kind}
use Rattle.mig_model.specs.declared.kind.Kind.TheVariants as K
use Rattle.mig_model.specs.declared.presence.Presence.TheVariants.{May}
use Rattle.mig_model.specs.declared.rest.Rest.{Rest}
use Rattle.mig_model.specs.Kinds.{kind_of}
use Rattle.mig_model.specs.Names.{Ascends, same_name, has_twice, is_among, under, has, bring, those, others}
use Rattle.mig_model.specs.Template.{leaf, any, Field, is_leaf, is_must, is_open}
use Rattle.mig_model.specs.Fields.{if_so}
use Rattle.mig_model.specs.Const.{const_tree}
use Rattle.mig_model.specs.Inhabits.{Entries}
use Rattle.mig_model.specs.Record as template
use Rattle.mig_model.specs.Record.{choice_of, found_case}
use Rattle.mig_value.specs.Typed.{Typed, atom, Slot, Tag, out, tag_pair}
use Rattle.mig_value.specs.Parts as value
use Rattle.mig_field.specs.FieldFn.{zero}
use Rattle.mig_field.specs.NewRecord.{FieldType, is_easy, are_easy}
use Rattle.mig_field.specs.Act.{by_field, settled_tree, where_closed, settle}
use Rattle.mig_action.specs.Moves.{settled_value, settle_case, learned_value}
use Rattle.mig_model.proofs.Edits.{first, found_in, same_under, under-bring, under-put_all, under-those, under-others, ascends-put, ascends-put_all, ascends-those, ascends-others, among_is}
use Rattle.mig_model.proofs.Options.{none-there}
use Rattle.mig_action.proofs.Stands.{Stands, IsRest, none_stands, opened, case_of, has_either, literal_is}
use Rattle.mig_action.proofs.Values.{Learned, learned_tree, learned_stands}
use Rattle.mig_action.proofs.Orders.{pairs_of_record, under_record, ascends-in_order, pairs_by_list}
use Rattle.mig_action.proofs.Distinct.{distinct_of}
use Rattle.mig_action.proofs.Scopes.{Suits, Becomes, tag_under}
use Rattle.std.proofs.lemmas.Bool.{false_from_ne_true}
use Rattle.mig_model.proofs.Bools.{both_false, split_or}
use Rattle.mig_model.proofs.Rising.{nothing_ascends}
use Rattle.mig_model.proofs.SameNames.{same_name_is}

-- ---- field by field
module _ {A : Type 0} (g : FieldType → Option A → Option A) where
  pub under-by_field : (fs : List Field) → has_twice (keys_of fs) ≡ false → (es : List (List ℕ × A)) (n : List ℕ) → under n (by_field g fs es) ≡ option_and_then (λ s. g s (under n es)) (under n fs)
  under-by_field [] h es n = refl
  under-by_field (f ∷ fs) h es n =
      let s = split_or (is_among (keys_of fs) f.0) (has_twice (keys_of fs)) h in
      let none : under f.0 fs ≡ None = none-there (under f.0 fs) (sym (among_is fs f.0) ∙ s.0) in
      grind (arith, none, same_name_is n f.0, under-by_field fs s.1 es n, under-bring f.0 (g f.1 (under f.0 es)) (by_field g fs es) n)

  ascends-bring : (x : List ℕ) (o : Option A) (es : List (List ℕ × A)) → Ascends es → Ascends (bring x o es)
  ascends-bring x None es h = h
  ascends-bring x (Some a) es h = ascends-put x a es h

  pub ascends-by_field : (fs : List Field) (es : List (List ℕ × A)) → Ascends (by_field g fs es)
  ascends-by_field [] es = nothing_ascends A
  ascends-by_field (f ∷ fs) es = ascends-bring f.0 (g f.1 (under f.0 es)) (by_field g fs es) (ascends-by_field fs es)

-- the order of the fields doesn't count
pub settle_in_order : (ds fs : List Field) → has_twice (keys_of ds) ≡ false → has_twice (keys_of fs) ≡ false → ((n : List ℕ) → under n ds ≡ under n fs) → (r : Rest) (v : value.RecordParts) → settle_case ds r v ≡ settle_case fs r v
settle_in_order ds fs h k same r v = λ i. record v { cased = cased i; rest = (if is_open r then filter (λ e. not (names e.0 i)) v.rest else []) }
  where
    cased : by_field settled_value ds v.rest ≡ by_field settled_value fs v.rest
    cased =
        same_under (by_field settled_value ds v.rest) (by_field settled_value fs v.rest) (ascends-by_field settled_value ds v.rest) (ascends-by_field settled_value fs v.rest)
        (λ n. under-by_field settled_value ds h v.rest n ∙ (ap (option_and_then (λ s. settled_value s (under n v.rest))) (same n) ∙ sym (under-by_field settled_value fs k v.rest n)))

    names : (n : List ℕ) → is_among (keys_of ds) n ≡ is_among (keys_of fs) n
    names n = among_is ds n ∙ (ap is_some (same n) ∙ sym (among_is fs n))

-- ---- one field
pub zero_kind : (k : Kind) → is_leaf k ≡ true → kind_of (const_tree (zero k)) ≡ k
zero_kind K.Byte h = refl
zero_kind K.Short h = refl
zero_kind K.Int h = refl
zero_kind K.Long h = refl
zero_kind K.Float h = refl
zero_kind K.Double h = refl
zero_kind K.Text h = refl
zero_kind K.Bytes h = refl
zero_kind K.Ints h = refl
zero_kind K.Longs h = refl
zero_kind K.Null h = refl
zero_kind K.Bool h = refl
zero_kind K.Whole h = refl
zero_kind k h = cc

-- the tree of what a field has is what it has in the map
settled_out : (s : FieldType) → is_easy s ≡ true → (R : Option Typed) → option_map out (settled_value s R) ≡ settled_tree s (option_map out R)
settled_out (p, leaf k) h R = by (learned_tree (Some k) h R)
  where
    by : Learned (Some k) R → option_map out (settled_value (p, leaf k) R) ≡ settled_tree (p, leaf k) (option_map out R)
    by (inl l) = grind (arith, l.0, l.1)
    by (inr l) = grind (arith, l.0, l.1)
settled_out (p, any) h R = refl
settled_out s h R = cc

module _ (U : Typed → Type 0) (P : List ℕ → Typed → Type 0) where
  settled_stands : (F : Option FieldType) → ((s : FieldType) → F ≡ Some s → is_easy s ≡ true) → (G : Option FieldType) (a o : Bool) (R : Option Typed) → IsRest U G a o R → Stands U P F (option_and_then (λ s. settled_value s R) F)
  settled_stands None e G a o R h = tt
  settled_stands (Some (p, leaf k)) e G a o R h = by (option_and_then (learned_value (Some k)) R) (learned_stands U P (Some k) G a o R h)
    where
      zero_stands : (b : Bool) → is_must p ≡ b → Stands U P (Some (p, leaf k)) (if_so b (atom (const_tree (zero k))))
      zero_stands true m = zero_kind k (e (p, leaf k) refl)
      zero_stands false m = m

      by : (L : Option Typed) → Stands U P (Some (May, leaf k)) L → Stands U P (Some (p, leaf k)) (option_or L (if_so (is_must p) (atom (const_tree (zero k)))))
      by None l = zero_stands (is_must p) refl
      by (Some w) l = l
  settled_stands (Some (p, any)) e G a o None h = let easy = e (p, any) refl in grind (arith, easy)
  settled_stands (Some (p, any)) e G a o (Some w) h = h.3
  settled_stands (Some s) e G a o R h = let easy = e s refl in cc

  -- ---- a record with a choice that keeps the tag's text
  module _ (fs : List Field) (c : template.Cases) (rest : Rest) (vf : List Slot) (t : Tag) (vc vr : List Slot) where
    abbrev p : template.RecordParts
    p = record { fields = fs; choice = Some c; rest = rest }

    abbrev v : value.RecordParts
    v = record { fields = vf; tag = Some t; cased = vc; rest = vr }

    module _ (q : Suits U P p v) (kept : has t.1 c.1 ≡ false) (ds gs : List Field) (cs : List template.Case) (now : under t.1 cs ≡ Some gs) (once : has_twice (keys_of ds) ≡ false)
        (ascend : Ascends gs) (same : (n : List ℕ) → under n gs ≡ under n ds) (apart : (n : List ℕ) → has n ds ≡ true → (has n fs || same_name n c.0) ≡ false)
        (easy : are_easy ds ≡ true) where
      abbrev r : template.RecordParts
      r = record { fields = fs; choice = Some (c.0, cs, c.2); rest = rest }

      abbrev w : value.RecordParts
      w = settle_case ds rest v

      case_is : case_of (Some (c.0, cs, c.2)) (Some t) ≡ gs
      case_is = ap (λ (F : Option (List Field)). unwrap_or F []) now

      no_case : (n : List ℕ) → under n vc ≡ None
      no_case n = none_stands U P (under n (case_of (Some c) (Some t))) (under n vc) (q.stand.cased n) (ap (λ (F : Option (List Field)). has n (unwrap_or F [])) (none-there (under t.1 c.1) kept))

      no_field : (n : List ℕ) → has n fs ≡ false → under n vf ≡ None
      no_field n h = none_stands U P (under n fs) (under n vf) (q.stand.fields n) h

      no_tag : (n : List ℕ) → same_name n c.0 ≡ false → under n (tag_pair (Some t)) ≡ None
      no_tag n h = tag_under n (Some c) (Some t) q.stand.tag h

      cased_under : (n : List ℕ) → under n w.cased ≡ option_and_then (λ s. settled_value s (under n vr)) (under n ds)
      cased_under n = under-by_field settled_value ds once vr n

      rest_under : (n : List ℕ) → under n w.rest ≡ (if is_open rest && not (has n ds) then under n vr else None)
      rest_under n = grind (arith, under-others (keys_of ds) vr n, among_is ds n)

      rest_ascends : Ascends w.rest
      rest_ascends = by (is_open rest)
        where
          by : (b : Bool) → Ascends (if b then others (keys_of ds) vr else [])
          by true = ascends-others (keys_of ds) vr q.rest_ascend
          by false = nothing_ascends Typed

      easy_at : (n : List ℕ) (s : FieldType) → under n ds ≡ Some s → is_easy s ≡ true
      easy_at n s e = found_in (λ (l : List Field). are_easy l ≡ true) (λ m s. is_easy s ≡ true) (λ f l h. (grind (arith, h), grind (arith, h))) ds easy n s e

      rest_stands : (n : List ℕ) → IsRest U (under n fs) (has_either n r.choice (Some t)) (opened r (Some t)) (under n w.rest)
      rest_stands n = subst (IsRest U (under n fs) (has_either n r.choice (Some t)) (opened r (Some t))) (sym (rest_under n)) (by (is_open rest) refl (has n ds) refl (under n vr) (q.stand.rest n))
        where
          by : (o : Bool) → is_open rest ≡ o → (b : Bool) → has n ds ≡ b → (R : Option Typed) → IsRest U (under n fs) (has_either n (Some c) (Some t)) (opened p (Some t)) R
              → IsRest U (under n fs) (has_either n r.choice (Some t)) (opened r (Some t)) (if o && not b then R else None)
          by true e false k None h = tt
          by true e false k (Some x) h =
              let s = split_or (same_name n c.0) (has n (case_of (Some c) (Some t))) h.1 in
              (h.0, both_false (same_name n c.0) (has n (case_of r.choice (Some t))) s.0 (ap (has n) case_is ∙ (ap is_some (same n) ∙ k)), grind (arith, e), h.3)
          by true e true k R h = tt
          by false e b k R h = tt

      abbrev es : Entries
      es = pairs_of_record v

      beside_under : (n : List ℕ) → under n (where_closed rest (c.0 ∷ keys_of fs) (others (keys_of ds) es)) ≡ (if (is_open rest || (same_name n c.0 || has n fs)) && not (has n ds) then under n es else None)
      beside_under n = grind (arith, under-those (c.0 ∷ keys_of fs) (others (keys_of ds) es) n, under-others (keys_of ds) es n, among_is ds n, among_is fs n)

      beside_ascends : Ascends (where_closed rest (c.0 ∷ keys_of fs) (others (keys_of ds) es))
      beside_ascends = by (is_open rest)
        where
          all : Ascends (others (keys_of ds) es)
          all = ascends-others (keys_of ds) es (ascends-in_order (pairs_by_list v))

          by : (b : Bool) → Ascends (if b then others (keys_of ds) es else those (c.0 ∷ keys_of fs) (others (keys_of ds) es))
          by true = all
          by false = ascends-those (c.0 ∷ keys_of fs) (others (keys_of ds) es) all

      -- an unknown name is no common field and not the tag
      unknown_apart : (n : List ℕ) → is_some (under n vr) ≡ true → (has n fs ≡ false) × (same_name n c.0 ≡ false)
      unknown_apart n = by (under n vr) (q.stand.rest n)
        where
          by : (R : Option Typed) → IsRest U (under n fs) (has_either n (Some c) (Some t)) (opened p (Some t)) R → is_some R ≡ true → (has n fs ≡ false) × (same_name n c.0 ≡ false)
          by None h k = cc
          by (Some x) h k = (ap is_some h.0, (split_or (same_name n c.0) (has n (case_of (Some c) (Some t))) h.1).0)

      same_pairs : (n : List ℕ) → under n (pairs_of_record w) ≡ under n (settle ds p c.0 es)
      same_pairs n = by (under n ds) refl
        where
          whole : under n (settle ds p c.0 es) ≡ first (option_and_then (λ s. settled_tree s (under n es)) (under n ds)) (if (is_open rest || (same_name n c.0 || has n fs)) && not (has n ds) then under n es else None)
          whole =
              under-put_all (by_field settled_tree ds es) (where_closed rest (c.0 ∷ keys_of fs) (others (keys_of ds) es)) n
              ∙ (λ i. first (under-by_field settled_tree ds once es n i) (beside_under n i))

          by : (F : Option FieldType) → under n ds ≡ F → under n (pairs_of_record w) ≡ under n (settle ds p c.0 es)
          by None e =
              let u = unknown_apart n in
              grind (arith, under_record w n, whole, under_record v n, e, u, no_case n, cased_under n, rest_under n, no_field n, no_tag n)
          by (Some s) e =
              let a = split_or (has n fs) (same_name n c.0) (apart n (ap is_some e)) in
              let o = settled_out s (easy_at n s e) (under n vr) in
              grind (arith, under_record w n, whole, under_record v n, e, o, no_case n, cased_under n, rest_under n, no_field n a.0, no_tag n a.1)

      pub settled : Becomes U P r w (settle ds p c.0 es)
      settled =
          let d = distinct_of p q.is_record (Some t) in
          record {
            stand = record {
              tag = (q.stand.tag.0, ap (λ b. b || c.2) (literal_is t.1 cs ∙ ap is_some now));
              fields = q.stand.fields;
              cased = λ n. subst (λ l. Stands U P (under n l) (under n w.cased)) (sym case_is)
                  (subst (λ F. Stands U P F (under n w.cased)) (sym (same n)) (subst (Stands U P (under n ds)) (sym (cased_under n)) (settled_stands (under n ds) (easy_at n) (under n fs) (has_either n (Some c) (Some t)) (opened p (Some t)) (under n vr) (q.stand.rest n))));
              rest = rest_stands;
            };
            distinct = record {
              fields = λ n k. both_false (same_name n c.0) (has n (case_of r.choice (Some t))) (split_or (same_name n c.0) (has n (case_of (Some c) (Some t))) (d.fields n k)).0
                  (ap (has n) case_is ∙ (ap is_some (same n) ∙ false_from_ne_true (has n ds) (λ e. true≢false (sym k ∙ (split_or (has n fs) (same_name n c.0) (apart n e)).0))));
              cased = λ n k. (split_or (has n fs) (same_name n c.0) (apart n (sym (ap is_some (same n)) ∙ (sym (ap (has n) case_is) ∙ k)))).1;
              fields_ascend = d.fields_ascend;
              cased_ascend = subst Ascends (sym case_is) ascend;
            };
            fields_ascend = q.fields_ascend;
            cased_ascend = ascends-by_field settled_value ds vr;
            rest_ascend = rest_ascends;
            map = same_under (pairs_of_record w) (settle ds p c.0 es) (ascends-in_order (pairs_by_list w)) (ascends-put_all (by_field settled_tree ds es) (where_closed rest (c.0 ∷ keys_of fs) (others (keys_of ds) es)) beside_ascends) same_pairs;
          }
