-- The place of a name in a record value is that of the value under the name.
use Rattle.std.proofs.Common.{◌≡◌, ◌∙◌, ◌<◌, sym, ap, ap₂, subst, refl, ℕ, suc, List, [], ◌∷◌, length, Bool, true, false, Option, Some, None, arith}
use Rattle.std.specs.Prelude.{option_map, is_some, if◌then◌else◌}
use Rattle.std.specs.Option.{option_or}
use Rattle.std.specs.Ordering.{is_eq}
use Rattle.std.specs.declared.cmp.Ordering.{Ordering}
use Rattle.std.specs.declared.cmp.Ordering.TheVariants.{Less, Equal, Greater}
use Rattle.std.proofs.lemmas.Map.Lookups.{exact_bytes}
use Rattle.mig_model.specs.Names.{by_bytes, same_name}
use Rattle.mig_value.specs.Typed.{Typed, Slot, rec, slot, slots_of}
use Rattle.mig_value.specs.Parts.{RecordParts, record_of}
use Rattle.mig_value.specs.declared.place.SlotPlace.{SlotPlace}
use Rattle.mig_value.specs.declared.place.SlotPlace.TheVariants.{Field, Cased}
use Rattle.mig_value.specs.Places.{place_in, value_at, with_value_at, first_place, slot_place, IsPlace, value_there, with_value_there}
use Rattle.mig_path.specs.Fields.{null, value_in, with_value, value_under, with_value_under}
use Rattle.mig_record_optic.specs.Holes.{name_at, name_there, IsFirst}

is_same : (x n : List ℕ) → same_name x n ≡ true → n ≡ x
is_same x n h = sym (exact_bytes x n (by (by_bytes x n) h))
  where
    by : (o : Ordering) → is_eq o ≡ true → o ≡ Equal
    by Less e = absurd cc
    by Equal e = refl
    by Greater e = absurd cc

-- ---- among slots
record AtPlace (x : List ℕ) (i : ℕ) (ss : List Slot) : Type 0 where
  below : i < length ss
  name : name_at i ss ≡ x
  value : value_in x (slots_of ss) ≡ Some (value_at i ss)
  changed : (w : Typed) → slots_of (with_value_at i w ss) ≡ with_value x w (slots_of ss)
  stays : (w : Typed) → place_in x (with_value_at i w ss) ≡ Some i

at_first : (x : List ℕ) (s : Slot) (ss : List Slot) → same_name x s.0 ≡ true → AtPlace x 0 (s ∷ ss)
at_first x s ss h = record {
  below = omega arith;
  name = is_same x s.0 h;
  value = ap (λ b. if b then Some s.1 else value_in x (slots_of ss)) h;
  changed = λ w. sym (ap (λ b. if b then slot s.0 w (slots_of ss) else slot s.0 s.1 (with_value x w (slots_of ss))) h);
  stays = λ w. ap (λ b. if b then Some 0 else option_map (λ n. suc n) (place_in x ss)) h;
}

at_later : (x : List ℕ) (i : ℕ) (s : Slot) (ss : List Slot) → same_name x s.0 ≡ false → AtPlace x i ss → AtPlace x (suc i) (s ∷ ss)
at_later x i s ss h rest = record {
  below = let b = rest.below in omega arith;
  name = rest.name;
  value = ap (λ b. if b then Some s.1 else value_in x (slots_of ss)) h ∙ rest.value;
  changed = λ w.
      ap (slot s.0 s.1) (rest.changed w) ∙ sym (ap (λ b. if b then slot s.0 w (slots_of ss) else slot s.0 s.1 (with_value x w (slots_of ss))) h);
  stays = λ w.
      ap (λ b. if b then Some 0 else option_map (λ n. suc n) (place_in x (with_value_at i w ss))) h ∙ ap (λ (o : Option ℕ). option_map (λ n. suc n) o) (rest.stays w);
}

at_place : (x : List ℕ) (i : ℕ) (ss : List Slot) → place_in x ss ≡ Some i → AtPlace x i ss
at_place x i [] e = absurd cc
at_place x i (s ∷ ss) e = by (same_name x s.0) refl e (λ j. at_place x j ss)
  where
    later : same_name x s.0 ≡ false → (o : Option ℕ) → place_in x ss ≡ o → option_map (λ n. suc n) o ≡ Some i → ((j : ℕ) → place_in x ss ≡ Some j → AtPlace x j ss) → AtPlace x i (s ∷ ss)
    later h None d f rest = absurd cc
    later h (Some j) d f rest = let is : suc j ≡ i = cc in subst (λ k. AtPlace x k (s ∷ ss)) is (at_later x j s ss h (rest j d))

    by : (b : Bool) → same_name x s.0 ≡ b → (if b then Some 0 else option_map (λ n. suc n) (place_in x ss)) ≡ Some i → ((j : ℕ) → place_in x ss ≡ Some j → AtPlace x j ss) → AtPlace x i (s ∷ ss)
    by true h f rest = let is : 0 ≡ i = cc in subst (λ k. AtPlace x k (s ∷ ss)) is (at_first x s ss h)
    by false h f rest = later h (place_in x ss) refl f rest

no_place : (x : List ℕ) (ss : List Slot) → place_in x ss ≡ None → value_in x (slots_of ss) ≡ None
no_place x [] e = refl
no_place x (s ∷ ss) e = by (same_name x s.0) e (no_place x ss)
  where
    later : (o : Option ℕ) → place_in x ss ≡ o → option_map (λ n. suc n) o ≡ None → place_in x ss ≡ None
    later None d f = d
    later (Some j) d f = absurd cc

    by : (b : Bool) → (if b then Some 0 else option_map (λ n. suc n) (place_in x ss)) ≡ None → (place_in x ss ≡ None → value_in x (slots_of ss) ≡ None) → (if b then Some s.1 else value_in x (slots_of ss)) ≡ None
    by true f rest = absurd cc
    by false f rest = rest (later (place_in x ss) refl f)

-- ---- in a record value
pub record AtName (x : List ℕ) (place : SlotPlace) (p : RecordParts) : Type 0 where
  pub is_place : IsPlace place p
  pub name : name_there place p ≡ x
  pub value : value_under x (record_of p) ≡ Some (value_there place p)
  pub changed : (w : Typed) → record_of (with_value_there place w p) ≡ with_value_under x w (record_of p)
  pub stays : (w : Typed) → slot_place x (with_value_there place w p) ≡ Some place

in_fields : (x : List ℕ) (i : ℕ) (p : RecordParts) → AtPlace x i p.fields → AtName x (Field i) p
in_fields x i p h = record {
  is_place = h.below;
  name = h.name;
  value = ap (λ o. option_or o (value_in x (slots_of p.cased))) h.value;
  changed = λ w.
      ap (λ ss. rec ss p.tag (slots_of p.cased) (slots_of p.rest)) (h.changed w)
      ∙ sym (ap (λ o. if is_some o then rec (with_value x w (slots_of p.fields)) p.tag (slots_of p.cased) (slots_of p.rest) else rec (slots_of p.fields) p.tag (with_value x w (slots_of p.cased)) (slots_of p.rest)) h.value);
  stays = λ w. ap (λ o. first_place o (place_in x p.cased)) (h.stays w);
}

in_cased : (x : List ℕ) (i : ℕ) (p : RecordParts) → place_in x p.fields ≡ None → AtPlace x i p.cased → AtName x (Cased i) p
in_cased x i p e h =
    let absent = no_place x p.fields e in
    record {
      is_place = h.below;
      name = h.name;
      value = ap (λ o. option_or o (value_in x (slots_of p.cased))) absent ∙ h.value;
      changed = λ w.
          ap (λ ss. rec (slots_of p.fields) p.tag ss (slots_of p.rest)) (h.changed w)
          ∙ sym (ap (λ o. if is_some o then rec (with_value x w (slots_of p.fields)) p.tag (slots_of p.cased) (slots_of p.rest) else rec (slots_of p.fields) p.tag (with_value x w (slots_of p.cased)) (slots_of p.rest)) absent);
      stays = λ w. ap (λ o. first_place o (place_in x (with_value_at i w p.cased))) e ∙ ap (λ (o : Option ℕ). option_map (λ n. Cased n) o) (h.stays w);
    }

pub at_name : (x : List ℕ) (place : SlotPlace) (p : RecordParts) → slot_place x p ≡ Some place → AtName x place p
at_name x place p e = by (place_in x p.fields) refl e
  where
    later : place_in x p.fields ≡ None → (o : Option ℕ) → place_in x p.cased ≡ o → option_map (λ n. Cased n) o ≡ Some place → AtName x place p
    later h None d f = absurd cc
    later h (Some i) d f = let is : Cased i ≡ place = cc in subst (λ q. AtName x q p) is (in_cased x i p h (at_place x i p.cased d))

    by : (o : Option ℕ) → place_in x p.fields ≡ o → first_place o (place_in x p.cased) ≡ Some place → AtName x place p
    by None d f = later d (place_in x p.cased) refl f
    by (Some i) d f = let is : Field i ≡ place = cc in subst (λ q. AtName x q p) is (in_fields x i p (at_place x i p.fields d))

pub no_name : (x : List ℕ) (p : RecordParts) → slot_place x p ≡ None → value_under x (record_of p) ≡ None
no_name x p e = by (place_in x p.fields) refl e
  where
    later : (o : Option ℕ) → place_in x p.cased ≡ o → option_map (λ n. Cased n) o ≡ None → place_in x p.cased ≡ None
    later None d f = d
    later (Some i) d f = absurd cc

    by : (o : Option ℕ) → place_in x p.fields ≡ o → first_place o (place_in x p.cased) ≡ None → value_under x (record_of p) ≡ None
    by None d f = ap (λ m. option_or m (value_in x (slots_of p.cased))) (no_place x p.fields d) ∙ no_place x p.cased (later (place_in x p.cased) refl f)
    by (Some i) d f = absurd cc

-- the place stays that of the name
pub still_first : (x : List ℕ) (place : SlotPlace) (p : RecordParts) (w : Typed) → AtName x place p → IsFirst place (with_value_there place w p)
still_first x place p w h =
    let new = at_name x place (with_value_there place w p) (h.stays w) in
    ap (λ n. slot_place n (with_value_there place w p)) new.name ∙ h.stays w

pub same_there : (x : List ℕ) (place : SlotPlace) (p : RecordParts) (w : Typed) → AtName x place p → name_there place (with_value_there place w p) ≡ x
same_there x place p w h = (at_name x place (with_value_there place w p) (h.stays w)).name

abbrev in_slot : List ℕ → Typed → Slot
in_slot n v = (n, v)

-- ---- a record value whose value at the place of a name was taken out
pub hole_first : (x : List ℕ) (place : SlotPlace) (p q : RecordParts) → slot_place x p ≡ Some place → q ≡ with_value_there place null p → IsFirst place q
hole_first x place p q e is = subst (λ (r : RecordParts). IsFirst place r) (sym is) (still_first x place p null (at_name x place p e))

pub focus_is : (x : List ℕ) (place : SlotPlace) (p : RecordParts) (w : Typed) → slot_place x p ≡ Some place → w ≡ value_there place p → value_under x (record_of p) ≡ Some w
focus_is x place p w e is = (at_name x place p e).value ∙ ap (λ (v : Typed). Some v) (sym is)

pub hole_is : (x : List ℕ) (place : SlotPlace) (p q : RecordParts) → slot_place x p ≡ Some place → q ≡ with_value_there place null p → ◌≡◌ {A = Slot} (name_there place q, record_of q) (x, with_value_under x null (record_of p))
hole_is x place p q e is =
    let at : AtName x place p = at_name x place p e in
    ap (λ (r : RecordParts). in_slot (name_there place r) (record_of r)) is ∙ ap₂ in_slot (same_there x place p null at) (at.changed null)

-- the record value with another value in the hole
pub filled : (place : SlotPlace) (p q : RecordParts) (w : Typed) (h : Slot) → IsFirst place p → q ≡ with_value_there place w p → ◌≡◌ {A = Slot} (name_there place p, record_of p) h → record_of q ≡ with_value_under h.0 w h.1
filled place p q w h first is view =
    ap record_of is ∙ (at_name (name_there place p) place p first).changed w ∙ ap (λ (s : Slot). with_value_under s.0 w s.1) view
