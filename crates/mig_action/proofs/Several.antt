-- Nesting and unnesting: changes at several names.
use Rattle.std.proofs.Common.{◌≡◌, ℕ, List, [], ◌∷◌, Bool, true, false, Option, Some, None, refl, sym, ap, subst, subst₂, ◌∙◌, arith}
use Rattle.std.specs.Prelude.{◌||◌, is_some, map, option_map, if◌then◌else◌}
use Rattle.std.specs.List.{list_all}
use Rattle.std.specs.Map.{keys_of}
use Rattle.mig_model.specs.declared.presence.Presence.{Presence}
use Rattle.mig_model.specs.declared.presence.Presence.TheVariants.{Must, May}
use Rattle.mig_model.specs.declared.rest.Rest.{Rest}
use Rattle.mig_model.specs.declared.rest.Rest.TheVariants.{Open}
use Rattle.mig_model.specs.Plain as plain
use Rattle.mig_model.specs.Plain.{Plain, pairs_of, entries}
use Rattle.mig_model.specs.Names.{Ascends, same_name, is_among, under, has, without, put, put_all, those, others}
use Rattle.mig_model.specs.Template.{Template, rec, Field, Fields, fields_of, field_list, no_choice, is_must, is_open}
use Rattle.mig_model.specs.Inhabits.{Entries}
use Rattle.mig_model.specs.Record as template
use Rattle.mig_value.specs.Typed.{Typed, Slot, Slots, Tag, slots, slots_of, no_slot, out, tag_pair}
use Rattle.mig_value.specs.Typed as typed
use Rattle.mig_value.specs.Parts as value
use Rattle.mig_value.specs.Fit.{ValueFits, TagFits}
use Rattle.mig_value.specs.Kept as value_kept
use Rattle.mig_laws.proofs.Reading.{fields_of_list}
use Rattle.mig_field.specs.FieldFn.{nest, unnest}
use Rattle.mig_field.specs.NewRecord.{Scoped, is_free, can_nest, unnested}
use Rattle.mig_field.specs.Act.{edit, pairs_in, inner_names}
use Rattle.mig_action.specs.Moves.{Moving, move, open_record, inner_slots}
use Rattle.mig_model.proofs.Edits.{first, under-put, under-without, under-those, under-others, under-put_all, put_without, same_under, ascends-put, ascends-without, ascends-those, ascends-others, ascends-put_all, among_is, all_names}
use Rattle.mig_model.proofs.Options.{none-there}
use Rattle.mig_action.proofs.Stands.{Stands, IsRest, stands_none, none_stands, no_rest, fits_stand, stand_fits, case_of, has_either}
use Rattle.mig_action.proofs.Settings.{Setting, Mapped, first-none, own_tree, own_rest, own_away, free_slot, not_away}
use Rattle.mig_action.proofs.OneName.{Settled, settled}
use Rattle.mig_action.proofs.Orders.{pairs_by_list, pairs_of_record, under_record, ascends-in_order}
use Rattle.mig_model.proofs.Rising.{nothing_ascends}
use Rattle.mig_model.specs.Kinds.{entries_of_pairs}
use Rattle.mig_model.proofs.SameNames.{same_name_is}
use Rattle.mig_value.proofs.Views.{slots_whole}

module _ (U : Typed → Type 0) (P : List ℕ → Typed → Type 0) (opened : Bool) (away : List ℕ → Bool) (elsewhere : List ℕ → Option Plain) where
  module _ (s : Scoped) (m : Moving) (es : Entries) (t : Setting U P opened away s m) (d : Mapped away elsewhere m es) where
    -- ---- nesting
    module _ (xs : List (List ℕ)) (y : List ℕ) (h : can_nest xs y s ≡ true) where
      there : (n : List ℕ) → is_among xs n ≡ true → has n s.fields ≡ true
      there n k = all_names (λ x. has x s.fields) xs (grind (arith, h)) n k

      y_free : s.taken y ≡ false
      y_free = let a = there y in let b = t.apart y in grind (arith, h, a, b)

      -- what is elsewhere in the map under a name that is nested
      record Own (n : List ℕ) : Type 0 where
        tree : under n es ≡ option_map out (under n m.slots)
        rest : under n m.rest ≡ None
        elsewhere_none : elsewhere n ≡ None

      own : (n : List ℕ) → is_among xs n ≡ true → Own n
      own n k = record {
        tree = own_tree U P opened away s m t elsewhere es d n (there n k);
        rest = own_rest U P opened away s m t n (there n k);
        elsewhere_none = d.away_alone n (own_away U P opened away s m t n (there n k));
      }

      abbrev pub Inner : Template
      Inner = rec (fields_of (those xs s.fields)) no_choice Open

      abbrev inner_value : value.RecordParts
      inner_value = record { fields = those xs m.slots; tag = None; cased = []; rest = [] }

      abbrev Whole : Plain
      Whole = plain.map (pairs_of (those xs es))

      inner_stands : (n : List ℕ) → Stands U P (under n (those xs s.fields)) (under n (those xs m.slots))
      inner_stands n = subst₂ (Stands U P) (sym (under-those xs s.fields n)) (sym (under-those xs m.slots n)) (by (is_among xs n))
        where
          by : (b : Bool) → Stands U P (if b then under n s.fields else None) (if b then under n m.slots else None)
          by true = t.stand n
          by false = tt

      inner_fits : ValueFits U P Inner (open_record (those xs m.slots))
      inner_fits =
          stand_fits U P (record { fields = those xs s.fields; choice = None; rest = Open }) inner_value
          (ascends-those xs s.fields t.fields_ascend) (nothing_ascends (Presence × Template)) (ascends-those xs m.slots t.slots_ascend) (nothing_ascends Typed) (nothing_ascends Typed)
          (record { tag = tt; fields = inner_stands; cased = λ n. tt; rest = λ n. tt })

      inner_tree : Whole ≡ out (open_record (those xs m.slots))
      inner_tree = ap (λ l. plain.map (pairs_of l)) (same_under (those xs es) (pairs_of_record inner_value) (ascends-those xs es d.ascend) (ascends-in_order (pairs_by_list inner_value)) at)
        where
          at : (n : List ℕ) → under n (those xs es) ≡ under n (pairs_of_record inner_value)
          at n = let o = own n in grind (arith, o, under-those xs es n, under-those xs m.slots n, under_record inner_value n)

      pub nests : Settled U P opened away elsewhere s (put y (Must, Inner) (others xs s.fields)) (move (nest xs y) s.fields m) (edit (nest xs y) s.fields es)
      nests = settled U P opened away elsewhere s m es t d _ _ _ (record {
        at = λ n. same_name n y || is_among xs n;
        fields = λ n. if same_name n y then Some (Must, Inner) else None;
        slots = λ n. if same_name n y then Some (open_record (those xs m.slots)) else None;
        rest = λ n. if same_name n y then None else under n m.rest;
        fields_ascend = ascends-put y (Must, Inner) (others xs s.fields) (ascends-others xs s.fields t.fields_ascend);
        slots_ascend = ascends-put y (open_record (those xs m.slots)) (others xs m.slots) (ascends-others xs m.slots t.slots_ascend);
        rest_ascend = ascends-without y m.rest t.rest_ascend;
        map_ascends = ascends-put y Whole (without y (others xs es)) (ascends-without y (others xs es) (ascends-others xs es d.ascend));
        fields_are = λ n. grind (arith, under-put y (Must, Inner) (others xs s.fields) n, under-others xs s.fields n);
        slots_are = λ n. grind (arith, under-put y (open_record (those xs m.slots)) (others xs m.slots) n, under-others xs m.slots n);
        rest_is = λ n. grind (arith, under-without y m.rest n t.rest_ascend);
        map_is = λ n. let o = own n in grind (arith, o, put_without y Whole (others xs es) n (ascends-others xs es d.ascend), under-others xs es n, inner_tree);
        stand = λ n k. standing (same_name n y);
        rests = λ n k. subst (IsRest U (if same_name n y then Some (Must, Inner) else None) (away n) opened) (sym (no_unknown n k)) tt;
        apart = λ n k l. grind (arith, l, same_name_is n y, y_free);
      })
        where
          standing : (a : Bool) → Stands U P (if a then Some (Must, Inner) else None) (if a then Some (open_record (those xs m.slots)) else None)
          standing true = inner_fits
          standing false = tt

          no_unknown : (n : List ℕ) → (same_name n y || is_among xs n) ≡ true → (if same_name n y then None else under n m.rest) ≡ None
          no_unknown n k = let o = own n in grind (arith, o)

    -- ---- unnesting
    module _ (y : List ℕ) (q : Presence) (gf : Fields) (r : Rest) (there : under y s.fields ≡ Some (q, rec gf no_choice r)) (kept : Ascends (field_list gf))
        (deep : (v : Typed) → under y m.slots ≡ Some v → value_kept.ValueKept v) where
      abbrev gs : List Field
      gs = field_list gf

      abbrev inner : List Slot
      inner = inner_slots (under y m.slots)

      abbrev ns : List (List ℕ)
      ns = inner_names (under y s.fields)

      y_there : has y s.fields ≡ true
      y_there = ap is_some there

      names_are : ns ≡ keys_of gs
      names_are = ap inner_names there

      among : (n : List ℕ) → is_among ns n ≡ has n gs
      among n = ap (λ l. is_among l n) names_are ∙ among_is gs n

      y_stands : Stands U P (Some (q, rec gf no_choice r)) (under y m.slots)
      y_stands = subst (λ F. Stands U P F (under y m.slots)) there (t.stand y)

      abbrev outer : Presence × Template → Presence × Template
      outer f = ((if is_must q then f.0 else May), f.1)

      -- the fields of the record that come out
      under_unnested : (fs : List Field) (n : List ℕ) → under n (map (unnested q) fs) ≡ option_map outer (under n fs)
      under_unnested [] n = refl
      under_unnested (f ∷ fs) n = grind (arith, under_unnested fs n)

      outer_there : (F : Option (Presence × Template)) → is_some (option_map outer F) ≡ is_some F
      outer_there F = grind arith

      -- what is known of the record value that stands there
      record Inside : Type 0 where
        stand : (n : List ℕ) → Stands U P (option_map outer (under n gs)) (under n inner)
        tree : (n : List ℕ) → has n gs ≡ true → under n (pairs_in (under y es)) ≡ option_map out (under n inner)

      less : (F : Option (Presence × Template)) (S : Option Typed) → Stands U P F S → Stands U P (option_map outer F) S
      less None S h = h
      less (Some f) (Some v) h = h
      less (Some f) None h = grind arith

      y_tree : under y es ≡ option_map out (under y m.slots)
      y_tree = own_tree U P opened away s m t elsewhere es d y y_there

      inside : Inside
      inside = by (under y m.slots) refl y_stands
        where
          absent : is_must q ≡ false → (F : Option (Presence × Template)) → Stands U P (option_map outer F) None
          absent h None = tt
          absent h (Some f) = grind arith

          gone : (S : Option Typed) → under y m.slots ≡ S → pairs_in (under y es) ≡ pairs_in (option_map out S)
          gone S k = ap pairs_in (y_tree ∙ ap (option_map out) k)

          by : (S : Option Typed) → under y m.slots ≡ S → Stands U P (Some (q, rec gf no_choice r)) S → Inside
          by None k h = record {
            stand = λ n. subst (λ (S : Option Typed). Stands U P (option_map outer (under n gs)) (under n (inner_slots S))) (sym k) (absent h (under n gs));
            tree = λ n l. ap (under n) (gone None k) ∙ sym (ap (λ (S : Option Typed). option_map out (under n (inner_slots S))) k);
          }
          by (Some (typed.rec fs tag cs rs)) k h =
              let w : value.RecordParts = record { fields = slots fs; tag = tag; cased = slots cs; rest = slots rs } in
              let p : template.RecordParts = record { fields = gs; choice = None; rest = r } in
              let e : ◌≡◌ {A = Typed} (typed.rec fs tag cs rs) (value.record_of w) = sym (λ i. typed.rec (slots_whole fs i) tag (slots_whole cs i) (slots_whole rs i)) in
              let f : ValueFits U P (template.record_of p) (value.record_of w) = subst (ValueFits U P (template.record_of p)) e (subst (λ (X : Fields). ValueFits U P (rec X no_choice r) (typed.rec fs tag cs rs)) (sym (fields_of_list gf)) h) in
              let a = fits_stand U P p w f in
              record {
                stand = λ n. subst (λ (S : Option Typed). Stands U P (option_map outer (under n gs)) (under n (inner_slots S))) (sym k) (less (under n gs) (under n (slots fs)) (a.fields n));
                tree = λ n l.
                    ap (under n) (gone (Some (typed.rec fs tag cs rs)) k ∙ (ap (λ v. pairs_in (Some (out v))) e ∙ entries_of_pairs (pairs_of_record w)))
                    ∙ (under_record w n
                    ∙ (alone n tag (slots cs) (under n (slots fs)) (under n (slots rs)) a.tag (a.cased n) (no_rest U P (under n gs) (has_either n None tag) (is_open r || false) (under n (slots rs)) (a.rest n) l)
                    ∙ sym (ap (λ (S : Option Typed). option_map out (under n (inner_slots S))) k)));
              }
            where
              alone : (n : List ℕ) (tag : Option Tag) (cs : List Slot) (S R : Option Typed) → TagFits (template.choice_of None) tag → Stands U P (under n (case_of None tag)) (under n cs) → R ≡ None
                  → first (option_map out S) (first (under n (tag_pair tag)) (first (option_map out (under n cs)) (option_map out R))) ≡ option_map out S
              alone n (Some g) cs S R a b c = absurd a
              alone n None cs S R a b c = (λ i. first (option_map out S) (first None (first (option_map out (stands_none U P (under n cs) b i)) (option_map out (c i))))) ∙ first-none (option_map out S)
          by (Some v) k h = absurd h

      module _ (free : list_all (λ n. same_name n y || is_free s n) (keys_of gs) ≡ true) where
        -- a name of the record is y or free
        one_of : (n : List ℕ) → has n gs ≡ true → (same_name n y || is_free s n) ≡ true
        one_of n h = all_names (λ x. same_name x y || is_free s x) (keys_of gs) free n (among_is gs n ∙ h)

        not_taken : (n : List ℕ) → (same_name n y || has n gs) ≡ true → s.taken n ≡ false
        not_taken n h = let a = one_of n in let b = t.apart y y_there in grind (arith, a, b, same_name_is n y)

        nowhere : (n : List ℕ) → (same_name n y || has n gs) ≡ true → elsewhere n ≡ None
        nowhere n h = d.away_alone n (not_away U P opened away s m t n (not_taken n h))

        no_slot_there : (n : List ℕ) → has n gs ≡ true → same_name n y ≡ false → under n m.slots ≡ None
        no_slot_there n h e = let a = one_of n h in free_slot U P opened away s m t n (none-there (under n s.fields) (grind (arith, a)))

        no_unknown : (n : List ℕ) → (same_name n y || has n gs) ≡ true → (if has n gs then None else under n m.rest) ≡ None
        no_unknown n h = grind (arith, own_rest U P opened away s m t y y_there, same_name_is n y)

        outside : (n : List ℕ) → has n gs ≡ false → under n inner ≡ None
        outside n h = none_stands U P (option_map outer (under n gs)) (under n inner) (inside.stand n) (outer_there (under n gs) ∙ h)

        pub unnests : Settled U P opened away elsewhere s (put_all (map (unnested q) gs) (without y s.fields)) (move (unnest y) s.fields m) (edit (unnest y) s.fields es)
        unnests = settled U P opened away elsewhere s m es t d _ _ _ (record {
          at = λ n. same_name n y || has n gs;
          fields = λ n. under n (map (unnested q) gs);
          slots = λ n. under n inner;
          rest = λ n. if has n gs then None else under n m.rest;
          fields_ascend = ascends-put_all (map (unnested q) gs) (without y s.fields) (ascends-without y s.fields t.fields_ascend);
          slots_ascend = ascends-put_all inner (without y m.slots) (ascends-without y m.slots t.slots_ascend);
          rest_ascend = ascends-others ns m.rest t.rest_ascend;
          map_ascends = ascends-put_all (those ns (pairs_in (under y es))) (others ns (without y es)) (ascends-others ns (without y es) (ascends-without y es d.ascend));
          fields_are = λ n. grind (arith, under-put_all (map (unnested q) gs) (without y s.fields) n, under-without y s.fields n t.fields_ascend, under_unnested gs n);
          slots_are = λ n. let a = no_slot_there n in let b = outside n in grind (arith, under-put_all inner (without y m.slots) n, under-without y m.slots n t.slots_ascend, a, b);
          rest_is = λ n. grind (arith, under-others ns m.rest n, among n);
          map_is = λ n. map_at n;
          stand = λ n k. subst (λ (F : Option (Presence × Template)). Stands U P F (under n inner)) (sym (under_unnested gs n)) (inside.stand n);
          rests = λ n k. subst (IsRest U (under n (map (unnested q) gs)) (away n) opened) (sym (no_unknown n k)) tt;
          apart = λ n k l. not_taken n k;
        })
          where
            map_at : (n : List ℕ) → under n (edit (unnest y) s.fields es)
                ≡ (if same_name n y || has n gs then first (option_map out (under n inner)) (first (elsewhere n) (option_map out (if has n gs then None else under n m.rest))) else under n es)
            map_at n =
                let made = under-put_all (those ns (pairs_in (under y es))) (others ns (without y es)) n in
                let a = nowhere n in
                let b = no_unknown n in
                let c = outside n in
                let e = inside.tree n in
                grind (arith, made, under-those ns (pairs_in (under y es)) n, under-others ns (without y es) n, among n, under-without y es n d.ascend, a, b, c, e)
