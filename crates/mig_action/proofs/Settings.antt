-- A scope of a record, the parts of a value that stand in it, and the map that they are part of; and what it takes that a change keeps them.
use Rattle.std.proofs.Common.{◌≡◌, ℕ, List, Bool, true, false, Option, None, refl, sym, ap, subst₂, arith}
use Rattle.std.specs.Prelude.{is_some, option_map, if◌then◌else◌}
use Rattle.mig_model.specs.declared.presence.Presence.{Presence}
use Rattle.mig_model.specs.Plain.{Plain}
use Rattle.mig_model.specs.Names.{Ascends, under, has}
use Rattle.mig_model.specs.Template.{Template, Field}
use Rattle.mig_model.specs.Inhabits.{Entries}
use Rattle.mig_value.specs.Typed.{Typed, out}
use Rattle.mig_field.specs.NewRecord.{Scoped}
use Rattle.mig_action.specs.Moves.{Moving}
use Rattle.mig_model.proofs.Edits.{first}
use Rattle.mig_action.proofs.Stands.{Stands, IsRest, none_stands, no_rest}

-- the slots are those of the scope's fields, the unknown ones are no field's; `away` are the names elsewhere in the value, which no field of the scope has
pub record Setting (U : Typed → Type 0) (P : List ℕ → Typed → Type 0) (opened : Bool) (away : List ℕ → Bool) (s : Scoped) (m : Moving) : Type 0 where
  pub fields_ascend : Ascends s.fields
  pub slots_ascend : Ascends m.slots
  pub rest_ascend : Ascends m.rest
  pub stand : (n : List ℕ) → Stands U P (under n s.fields) (under n m.slots)
  pub rests : (n : List ℕ) → IsRest U (under n s.fields) (away n) opened (under n m.rest)
  pub apart : (n : List ℕ) → has n s.fields ≡ true → s.taken n ≡ false
  pub within : (n : List ℕ) → away n ≡ true → s.taken n ≡ true

-- the pairs of the map: those of the slots, those elsewhere, and the unknown ones
pub record Mapped (away : List ℕ → Bool) (elsewhere : List ℕ → Option Plain) (m : Moving) (es : Entries) : Type 0 where
  pub ascend : Ascends es
  pub away_alone : (n : List ℕ) → away n ≡ false → elsewhere n ≡ None
  pub at : (n : List ℕ) → under n es ≡ first (option_map out (under n m.slots)) (first (elsewhere n) (option_map out (under n m.rest)))

pub first-none : {A : Type 0} (o : Option A) → first o None ≡ o
first-none o = grind arith

-- a change at some names of the fields, the slots, the unknown slots and the map
pub record Changed (U : Typed → Type 0) (P : List ℕ → Typed → Type 0) (opened : Bool) (away : List ℕ → Bool) (s : Scoped) (m : Moving) (elsewhere : List ℕ → Option Plain) (es : Entries) (gs : List Field) (m' : Moving) (es' : Entries) : Type 0 where
  pub at : List ℕ → Bool
  pub fields : List ℕ → Option (Presence × Template)
  pub slots : List ℕ → Option Typed
  pub rest : List ℕ → Option Typed
  pub fields_ascend : Ascends gs
  pub slots_ascend : Ascends m'.slots
  pub rest_ascend : Ascends m'.rest
  pub map_ascends : Ascends es'
  pub fields_are : (n : List ℕ) → under n gs ≡ (if at n then fields n else under n s.fields)
  pub slots_are : (n : List ℕ) → under n m'.slots ≡ (if at n then slots n else under n m.slots)
  pub rest_is : (n : List ℕ) → under n m'.rest ≡ (if at n then rest n else under n m.rest)
  pub map_is : (n : List ℕ) → under n es' ≡ (if at n then first (option_map out (slots n)) (first (elsewhere n) (option_map out (rest n))) else under n es)
  pub stand : (n : List ℕ) → at n ≡ true → Stands U P (fields n) (slots n)
  pub rests : (n : List ℕ) → at n ≡ true → IsRest U (fields n) (away n) opened (rest n)
  pub apart : (n : List ℕ) → at n ≡ true → is_some (fields n) ≡ true → s.taken n ≡ false

module _ (U : Typed → Type 0) (P : List ℕ → Typed → Type 0) (opened : Bool) (away : List ℕ → Bool) (s : Scoped) (m : Moving) where
  pub changed_setting : (t : Setting U P opened away s m) (elsewhere : List ℕ → Option Plain) (es : Entries) (gs : List Field) (m' : Moving) (es' : Entries)
      → Changed U P opened away s m elsewhere es gs m' es' → Setting U P opened away (record s { fields = gs }) m'
  changed_setting t elsewhere es gs m' es' c = record {
    fields_ascend = c.fields_ascend;
    slots_ascend = c.slots_ascend;
    rest_ascend = c.rest_ascend;
    stand = λ n. subst₂ (Stands U P) (sym (c.fields_are n)) (sym (c.slots_are n)) (stand n (c.at n) refl);
    rests = λ n. subst₂ (λ F R. IsRest U F (away n) opened R) (sym (c.fields_are n)) (sym (c.rest_is n)) (rests n (c.at n) refl);
    apart = λ n h. let new = c.apart n in let old = t.apart n in grind (arith, c.fields_are n, new, old);
    within = t.within;
  }
    where
      stand : (n : List ℕ) (b : Bool) → c.at n ≡ b → Stands U P (if b then c.fields n else under n s.fields) (if b then c.slots n else under n m.slots)
      stand n true h = c.stand n h
      stand n false h = t.stand n

      rests : (n : List ℕ) (b : Bool) → c.at n ≡ b → IsRest U (if b then c.fields n else under n s.fields) (away n) opened (if b then c.rest n else under n m.rest)
      rests n true h = c.rests n h
      rests n false h = t.rests n

  pub changed_map : (elsewhere : List ℕ → Option Plain) (es : Entries) → Mapped away elsewhere m es → (gs : List Field) (m' : Moving) (es' : Entries)
      → Changed U P opened away s m elsewhere es gs m' es' → Mapped away elsewhere m' es'
  changed_map elsewhere es d gs m' es' c = record {
    ascend = c.map_ascends;
    away_alone = d.away_alone;
    at = λ n. grind (arith, c.map_is n, c.slots_are n, c.rest_is n, d.at n);
  }

  -- ---- what a setting tells of one name
  module _ (t : Setting U P opened away s m) where
    pub free_slot : (n : List ℕ) → under n s.fields ≡ None → under n m.slots ≡ None
    free_slot n h = none_stands U P (under n s.fields) (under n m.slots) (t.stand n) (ap is_some h)

    pub own_rest : (n : List ℕ) → has n s.fields ≡ true → under n m.rest ≡ None
    own_rest n h = no_rest U P (under n s.fields) (away n) opened (under n m.rest) (t.rests n) h

    pub not_away : (n : List ℕ) → s.taken n ≡ false → away n ≡ false
    not_away n h = let w = t.within n in grind (arith, w)

    pub own_away : (n : List ℕ) → has n s.fields ≡ true → away n ≡ false
    own_away n h = not_away n (t.apart n h)

    module _ (elsewhere : List ℕ → Option Plain) (es : Entries) (d : Mapped away elsewhere m es) where
      -- a field's tree
      pub own_tree : (n : List ℕ) → has n s.fields ≡ true → under n es ≡ option_map out (under n m.slots)
      own_tree n h = grind (arith, d.at n, d.away_alone n (own_away n h), own_rest n h)

      -- the tree under a free name is an unknown one
      pub free_tree : (n : List ℕ) → under n s.fields ≡ None → s.taken n ≡ false → under n es ≡ option_map out (under n m.rest)
      free_tree n h k = grind (arith, d.at n, d.away_alone n (not_away n k), free_slot n h)
