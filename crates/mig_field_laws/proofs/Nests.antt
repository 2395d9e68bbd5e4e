-- Nesting and unnesting.
use Rattle.std.proofs.Common.{◌≡◌, ℕ, List, [], ◌∷◌, Bool, true, false, Option, Some, None, refl, sym, ap, subst, ◌∙◌, arith}
use Rattle.std.specs.Prelude.{◌||◌, is_some, map, option_map, if◌then◌else◌}
use Rattle.std.specs.List.{list_all}
use Rattle.std.specs.Map.{keys_of}
use Rattle.std.specs.List.Sorted.{IsStrictlySortedBy}
use Rattle.mig_model.specs.declared.form.Form.{Form}
use Rattle.mig_model.specs.declared.presence.Presence.{Presence}
use Rattle.mig_model.specs.declared.presence.Presence.TheVariants.{Must, May}
use Rattle.mig_model.specs.declared.rest.Rest.{Rest}
use Rattle.mig_model.specs.declared.rest.Rest.TheVariants.{Open}
use Rattle.mig_model.specs.Plain as plain
use Rattle.mig_model.specs.Plain.{Plain, Pairs, pairs_of, entries, each_entry}
use Rattle.mig_model.specs.Kinds.{entries_of_pairs}
use Rattle.mig_model.specs.Names.{Ascends, by_bytes, same_name, is_among, under, has, without, put, put_all, those, others}
use Rattle.mig_model.specs.Template.{Template, rec, Field, Fields, fields_of, field_list, no_choice, is_must, is_open}
use Rattle.mig_model.specs.Inhabits.{Entries, Fits}
use Rattle.mig_model.proofs.SameNames.{same_name_is}
use Rattle.mig_model.proofs.Rising.{nothing_ascends}
use Rattle.mig_model.specs.Record.{RecordParts}
use Rattle.mig_laws.proofs.Reading.{fields_of_list}
use Rattle.mig_fold.specs.Fold.{treat}
use Rattle.mig_fold.proofs.Treats.{Treatment}
use Rattle.mig_field.specs.FieldFn.{nest, unnest}
use Rattle.mig_field.specs.NewRecord.{Scoped, FieldType, is_free, can_nest, unnested}
use Rattle.mig_field.specs.Act.{edit, pairs_in, inner_names}
use Rattle.mig_model.proofs.Edits.{first, under-put, under-without, under-those, under-others, under-put_all, put_without, same_under, ascends-put, ascends-without, ascends-those, ascends-others, ascends-put_all, among_is, all_names}
use Rattle.mig_action.proofs.Settings.{first-none}
use Rattle.mig_action.proofs.Distinct.{Distinct}
use Rattle.mig_field_laws.proofs.Places.{Stands, treat_at, tagged, place, Standing, treated, under_treated, Whole, fits_stand, stand_fits}
use Rattle.mig_field_laws.proofs.Scopes.{InOrder, Refield, EditAt, At, Scene, own, Step}

-- the names of a map stay in order
keys_each : (g : Treatment) (es : Entries) → keys_of (each_entry g es) ≡ keys_of es
keys_each g [] = refl
keys_each g (e ∷ es) = ap (λ ks. e.0 ∷ ks) (keys_each g es)

pub ascends-each : (g : Treatment) (es : Entries) → Ascends es → Ascends (each_entry g es)
ascends-each g es a = subst (IsStrictlySortedBy by_bytes) (sym (keys_each g es)) a

-- ---- the fields
module _ (s : Scoped) (i : InOrder s) where
  module _ (xs : List (List ℕ)) (y : List ℕ) (h : can_nest xs y s ≡ true) where
    abbrev pub Inner : Template
    Inner = rec (fields_of (those xs s.fields)) no_choice Open

    abbrev pub at_nest : List ℕ → Bool
    at_nest n = same_name n y || is_among xs n

    abbrev pub nest_places : List ℕ → Option FieldType
    nest_places n = if same_name n y then Some (Must, Inner) else None

    pub nested_apart : (n : List ℕ) → is_among xs n ≡ true → s.taken n ≡ false
    nested_apart n k = i.apart n (all_names (λ x. has x s.fields) xs (grind (arith, h)) n k)

    y_apart : s.taken y ≡ false
    y_apart = let a = nested_apart y in grind (arith, h, a)

    pub field_nest : Refield s (put y (Must, Inner) (others xs s.fields)) at_nest nest_places
    field_nest = record {
      ascend = ascends-put y (Must, Inner) (others xs s.fields) (ascends-others xs s.fields i.ascend);
      are = λ n. grind (arith, under-put y (Must, Inner) (others xs s.fields) n, under-others xs s.fields n);
      free = λ n k. let a = nested_apart n in grind (arith, k, a, same_name_is n y, y_apart);
    }

  module _ (y : List ℕ) (q : Presence) (gf : Fields) (r : Rest) (there : under y s.fields ≡ Some (q, rec gf no_choice r)) where
    abbrev pub outer : FieldType → FieldType
    outer f = ((if is_must q then f.0 else May), f.1)

    -- the fields of the record that come out
    pub under_unnested : (fs : List Field) (n : List ℕ) → under n (map (unnested q) fs) ≡ option_map outer (under n fs)
    under_unnested [] n = refl
    under_unnested (f ∷ fs) n = grind (arith, under_unnested fs n)

    abbrev pub at_unnest : List ℕ → Bool
    at_unnest n = same_name n y || has n (field_list gf)

    abbrev pub unnest_places : List ℕ → Option FieldType
    unnest_places n = option_map outer (under n (field_list gf))

    pub field_unnest : list_all (λ n. same_name n y || is_free s n) (keys_of (field_list gf)) ≡ true
        → Refield s (put_all (map (unnested q) (field_list gf)) (without y s.fields)) at_unnest unnest_places
    field_unnest free = record {
      ascend = ascends-put_all (map (unnested q) (field_list gf)) (without y s.fields) (ascends-without y s.fields i.ascend);
      are = λ n. grind (arith, under-put_all (map (unnested q) (field_list gf)) (without y s.fields) n, under-without y s.fields n i.ascend, under_unnested (field_list gf) n);
      free = λ n k. let a = one_of n in let b = i.apart y (ap is_some there) in grind (arith, k, a, b, same_name_is n y);
    }
      where
        one_of : (n : List ℕ) → has n (field_list gf) ≡ true → (same_name n y || is_free s n) ≡ true
        one_of n h = all_names (λ x. same_name x y || is_free s x) (keys_of (field_list gf)) free n (among_is (field_list gf) n ∙ h)

-- ---- the maps
pub nesting : (xs : List (List ℕ)) (y : List ℕ) → EditAt (λ n. same_name n y || is_among xs n) (λ es. put y (plain.map (pairs_of (those xs es))) (without y (others xs es)))
    (λ n es. if same_name n y then Some (plain.map (pairs_of (those xs es))) else None)
nesting xs y = record {
  ascend = λ es a. ascends-put y (plain.map (pairs_of (those xs es))) (without y (others xs es)) (ascends-without y (others xs es) (ascends-others xs es a));
  is = λ es a n. grind (arith, put_without y (plain.map (pairs_of (those xs es))) (others xs es) n (ascends-others xs es a), under-others xs es n);
}

pub unnesting : (y : List ℕ) (fs gs : List Field) → inner_names (under y fs) ≡ keys_of gs
    → EditAt (λ n. same_name n y || has n gs) (edit (unnest y) fs) (λ n es. if has n gs then under n (pairs_in (under y es)) else None)
unnesting y fs gs e = record {
  ascend = λ es a. ascends-put_all (those ns (pairs_in (under y es))) (others ns (without y es)) (ascends-others ns (without y es) (ascends-without y es a));
  is = λ es a n. grind (
    arith,
    under-put_all (those ns (pairs_in (under y es))) (others ns (without y es)) n,
    under-those ns (pairs_in (under y es)) n,
    under-others ns
        (without y es) n,
    among n,
    under-without y es n a,
  );
}
  where
    ns : List (List ℕ)
    ns = inner_names (under y fs)

    among : (n : List ℕ) → is_among ns n ≡ has n gs
    among n = ap (λ l. is_among l n) e ∙ among_is gs n

module _ (form : Form) (P : List ℕ → Plain → Type 0) (w : Bool) (h : Treatment) (o : Bool) (other : List ℕ → Option FieldType) (s : Scoped) (es ts : Entries)
    (c : Scene form P w h o other s es ts) where
  here : (n : List ℕ) → s.taken n ≡ false → At form P w h o (under n s.fields) (under n es) (under n ts)
  here = own form P w h o other s es ts c

  -- ---- nesting
  module _ (xs : List (List ℕ)) (y : List ℕ) (able : can_nest xs y s ≡ true) where
    abbrev inner_parts : RecordParts
    inner_parts = record { fields = those xs s.fields; choice = None; rest = Open }

    wider : (F : Option FieldType) (u : Option Plain) → Stands form P o F u → Stands form P true F u
    wider None None k = k
    wider None (Some t) k = refl
    wider (Some f) None k = k
    wider (Some f) (Some t) k = k

    inner_place : (n : List ℕ) → place inner_parts [] n ≡ (if is_among xs n then under n s.fields else None)
    inner_place n = first-none (under n (those xs s.fields)) ∙ under-those xs s.fields n

    inner_at : (n : List ℕ) (b : Bool) → is_among xs n ≡ b → At form P w h true (if b then under n s.fields else None) (if b then under n es else None) (if b then under n ts else None)
    inner_at n true k = let a = here n (nested_apart s c.fields xs y able n k) in (λ y. wider (under n s.fields) (under n es) (a.0 y), a.1)
    inner_at n false k = (λ y. tt, refl)

    inner_stands : w ≡ true → Standing form P inner_parts [] (those xs es)
    inner_stands x = record {
      tag = tt;
      literal = tt;
      at = λ n. subst (λ (u : Option Plain). Stands form P true (place inner_parts [] n) u) (sym (under-those xs es n))
          (subst (λ F. Stands form P true F (if is_among xs n then under n es else None)) (sym (inner_place n)) ((inner_at n (is_among xs n) refl).0 x));
    }

    inner_distinct : Distinct inner_parts (tagged [])
    inner_distinct = record { fields = λ n k. refl; cased = λ n k. refl; fields_ascend = ascends-those xs s.fields c.fields.ascend; cased_ascend = nothing_ascends FieldType }

    inner_fits : w ≡ true → Fits form P (Inner s c.fields xs y able) (plain.map (pairs_of (those xs es)))
    inner_fits x = subst (Whole form P inner_parts) (sym (entries_of_pairs (those xs es)))
        (stand_fits form P inner_parts (those xs es) [] inner_distinct (ascends-those xs es c.ascend) (inner_stands x))

    inner_treated : those xs ts ≡ treated form h inner_parts (those xs es)
    inner_treated = same_under (those xs ts) (treated form h inner_parts (those xs es)) (ascends-those xs ts c.also) (ascends-each _ (those xs es) (ascends-those xs es c.ascend)) at
      where
        at : (n : List ℕ) → under n (those xs ts) ≡ under n (treated form h inner_parts (those xs es))
        at n = under-those xs ts n ∙ ((inner_at n (is_among xs n) refl).1 ∙ sym
            (under_treated form h inner_parts [] (those xs es) tt n ∙ (λ j. option_map (treat_at form h (inner_place n j)) (under-those xs es n j))))

    inner_same : plain.map (pairs_of (those xs ts)) ≡ treat form h (Inner s c.fields xs y able) (plain.map (pairs_of (those xs es)))
    inner_same = ap (λ l. plain.map (pairs_of l)) (inner_treated ∙ ap (treated form h inner_parts) (sym (entries_of_pairs (those xs es))))

    pub nests : Step form P w h o other s es ts c (edit (nest xs y) s.fields) (put y (Must, Inner s c.fields xs y able) (others xs s.fields))
    nests = record {
      at = at_nest s c.fields xs y able;
      places = nest_places s c.fields xs y able;
      fields = field_nest s c.fields xs y able;
      trees = λ n es. if same_name n y then Some (plain.map (pairs_of (those xs es))) else None;
      edit = nesting xs y;
      each = λ n k. by (same_name n y);
    }
      where
        by : (b : Bool) → At form P w h o (if b then Some (Must, Inner s c.fields xs y able) else None) (if b then Some (plain.map (pairs_of (those xs es))) else None)
            (if b then Some (plain.map (pairs_of (those xs ts))) else None)
        by true = (inner_fits, ap Some inner_same)
        by false = (λ x. tt, refl)

  -- ---- unnesting
  module _ (y : List ℕ) (q : Presence) (gf : Fields) (r : Rest) (there : under y s.fields ≡ Some (q, rec gf no_choice r)) where
    abbrev out_parts : RecordParts
    out_parts = record { fields = field_list gf; choice = None; rest = r }

    y_at : At form P w h o (Some (q, rec gf no_choice r)) (under y es) (under y ts)
    y_at = subst (λ F. At form P w h o F (under y es) (under y ts)) there (here y (c.fields.apart y (ap is_some there)))

    -- a field of the record, in the map there and in the treated one
    inside : (n : List ℕ) (f : FieldType) → under n (field_list gf) ≡ Some f → (u v : Option Plain) → At form P w h o (Some (q, rec gf no_choice r)) u v
        → At form P w h o (Some (outer s c.fields y q gf r there f)) (under n (pairs_in u)) (under n (pairs_in v))
    inside n f e None v a = (λ x. (let m = a.0 x in grind (arith, m)), ap (λ z. under n (pairs_in z)) a.1)
    inside n f e (Some (plain.map ps)) v a = (fits, same)
      where
        by : (u : Option Plain) → Stands form P (is_open r || false) (Some f) u → Stands form P o (Some (outer s c.fields y q gf r there f)) u
        by None k = grind (arith, k)
        by (Some t) k = k

        fits : w ≡ true → Stands form P o (Some (outer s c.fields y q gf r there f)) (under n (entries ps))
        fits x =
            let stand = fits_stand form P out_parts (entries ps) (subst (λ X. Fits form P (rec X no_choice r) (plain.map ps)) (sym (fields_of_list gf)) (a.0 x)) in
            by (under n (entries ps)) (subst (λ F. Stands form P (is_open r || false) F (under n (entries ps))) (ap (λ F. first F None) e) (stand.1.at n))

        same : under n (pairs_in v) ≡ option_map (treat form h f.1) (under n (entries ps))
        same =
            ap (λ z. under n (pairs_in z)) a.1
            ∙ (ap (λ X. under n (pairs_in (Some (treat form h (rec X no_choice r) (plain.map ps))))) (sym (fields_of_list gf))
            ∙ (ap (under n) (entries_of_pairs (treated form h out_parts (entries ps)))
            ∙ (under_treated form h out_parts [] (entries ps) tt n ∙ ap (λ F. option_map (treat_at form h (first F None)) (under n (entries ps))) e)))
    inside n f e (Some t) v a = (λ x. absurd (a.0 x), ap (λ z. under n (pairs_in z)) a.1)

    pub unnests : list_all (λ n. same_name n y || is_free s n) (keys_of (field_list gf)) ≡ true
        → Step form P w h o other s es ts c (edit (unnest y) s.fields) (put_all (map (unnested q) (field_list gf)) (without y s.fields))
    unnests free = record {
      at = at_unnest s c.fields y q gf r there;
      places = unnest_places s c.fields y q gf r there;
      fields = field_unnest s c.fields y q gf r there free;
      trees = λ n es. if has n (field_list gf) then under n (pairs_in (under y es)) else None;
      edit = unnesting y s.fields (field_list gf) (ap inner_names there);
      each = λ n k. by n (under n (field_list gf)) refl;
    }
      where
        by : (n : List ℕ) (F : Option FieldType) → under n (field_list gf) ≡ F
            → At form P w h o (option_map (outer s c.fields y q gf r there) F) (if is_some F then under n (pairs_in (under y es)) else None)
            (if is_some F then under n (pairs_in (under y ts)) else None)
        by n None e = (λ x. tt, refl)
        by n (Some f) e = inside n f e (under y es) (under y ts) y_at
