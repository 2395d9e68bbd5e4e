-- Changes at a single name.
use Rattle.std.proofs.Common.{◌≡◌, ℕ, List, Bool, true, false, Option, Some, None, refl, sym, ap, subst, ◌∙◌, arith}
use Rattle.std.specs.Prelude.{option_map, if◌then◌else◌}
use Rattle.mig_model.specs.declared.presence.Presence.{Presence}
use Rattle.mig_model.specs.Plain.{Plain}
use Rattle.mig_model.specs.Names.{Ascends, same_name, under, has, without, put, bring, changed}
use Rattle.mig_model.specs.Template.{Template, Field}
use Rattle.mig_model.specs.Inhabits.{Entries}
use Rattle.mig_value.specs.Typed.{Typed, out}
use Rattle.mig_value.specs.Fit.{ValueFits}
use Rattle.mig_field.specs.NewRecord.{Scoped}
use Rattle.mig_action.specs.Moves.{Moving}
use Rattle.mig_model.proofs.Edits.{first, at_name, unaffected, changed_at, bring_at, under-put, under-without, ascends-put, ascends-without, ascends-bring, ascends-changed}
use Rattle.mig_action.proofs.Stands.{Stands, IsRest}
use Rattle.mig_action.proofs.Settings.{Setting, Mapped, Changed, changed_setting, changed_map, first-none, own_rest, own_away, own_tree, free_slot, not_away}
use Rattle.mig_model.proofs.SameNames.{same_name_is}

module _ (U : Typed → Type 0) (P : List ℕ → Typed → Type 0) (opened : Bool) (away : List ℕ → Bool) (elsewhere : List ℕ → Option Plain) where
  -- the setting after a change, and the map that it is part of
  pub record Settled (s : Scoped) (gs : List Field) (m' : Moving) (es' : Entries) : Type 0 where
    pub setting : Setting U P opened away (record s { fields = gs }) m'
    pub map : Mapped away elsewhere m' es'

  module _ (s : Scoped) (m : Moving) (es : Entries) (t : Setting U P opened away s m) (d : Mapped away elsewhere m es) where
    pub settled : (gs : List Field) (m' : Moving) (es' : Entries) → Changed U P opened away s m elsewhere es gs m' es' → Settled s gs m' es'
    settled gs m' es' c = record {
      setting = changed_setting U P opened away s m t elsewhere es gs m' es' c;
      map = changed_map U P opened away s m elsewhere es d gs m' es' c;
    }

    -- what stands under the name x afterwards, of the fields, the slots, the unknown slots and the map
    pub record At (x : List ℕ) (gs : List Field) (m' : Moving) (es' : Entries) (F : Option (Presence × Template)) (S R : Option Typed) (T : Option Plain) : Type 0 where
      pub fields_ascend : Ascends gs
      pub slots_ascend : Ascends m'.slots
      pub rest_ascend : Ascends m'.rest
      pub map_ascends : Ascends es'
      pub fields_are : (n : List ℕ) → under n gs ≡ (if same_name n x then F else under n s.fields)
      pub slots_are : (n : List ℕ) → under n m'.slots ≡ (if same_name n x then S else under n m.slots)
      pub rest_is : (n : List ℕ) → under n m'.rest ≡ (if same_name n x then R else under n m.rest)
      pub map_is : (n : List ℕ) → under n es' ≡ (if same_name n x then T else under n es)
      pub tree : T ≡ first (option_map out S) (option_map out R)
      pub stand : Stands U P F S
      pub rests : IsRest U F false opened R
      pub free : s.taken x ≡ false

    pub at_one : (x : List ℕ) (gs : List Field) (m' : Moving) (es' : Entries) (F : Option (Presence × Template)) (S R : Option Typed) (T : Option Plain) → At x gs m' es' F S R T → Settled s gs m' es'
    at_one x gs m' es' F S R T c = settled gs m' es' (record {
      at = λ n. same_name n x;
      fields = λ n. F;
      slots = λ n. S;
      rest = λ n. R;
      fields_ascend = c.fields_ascend;
      slots_ascend = c.slots_ascend;
      rest_ascend = c.rest_ascend;
      map_ascends = c.map_ascends;
      fields_are = c.fields_are;
      slots_are = c.slots_are;
      rest_is = c.rest_is;
      map_is = λ n. let none = d.away_alone n in grind (arith, c.map_is n, c.tree, none, alone, same_name_is n x);
      stand = λ n h. c.stand;
      rests = λ n h. at_name (λ k. IsRest U F (away k) opened R) n x h here;
      apart = λ n h k. at_name (λ k'. s.taken k' ≡ false) n x h c.free;
    })
      where
        alone : away x ≡ false
        alone = not_away U P opened away s m t x c.free

        here : IsRest U F (away x) opened R
        here = subst (λ b. IsRest U F b opened R) (sym alone) c.rests

    -- ---- a field is taken out, and its value with it
    module _ (x : List ℕ) (h : has x s.fields ≡ true) where
      rest_none : under x m.rest ≡ None
      rest_none = own_rest U P opened away s m t x h

      pub dropped : Settled s (without x s.fields) (record { slots = without x m.slots; rest = m.rest }) (without x es)
      dropped = at_one x _ _ _ None None (under x m.rest) None (record {
        fields_ascend = ascends-without x s.fields t.fields_ascend;
        slots_ascend = ascends-without x m.slots t.slots_ascend;
        rest_ascend = t.rest_ascend;
        map_ascends = ascends-without x es d.ascend;
        fields_are = λ n. under-without x s.fields n t.fields_ascend;
        slots_are = λ n. under-without x m.slots n t.slots_ascend;
        rest_is = unaffected x m.rest;
        map_is = λ n. under-without x es n d.ascend;
        tree = sym (ap (option_map out) rest_none);
        stand = tt;
        rests = subst (IsRest U None false opened) (sym rest_none) tt;
        free = t.apart x h;
      })

      -- a field whose value goes to the unknown ones
      pub forgotten : opened ≡ true → ((v : Typed) → under x m.slots ≡ Some v → U v)
          → Settled s (without x s.fields) (record { slots = without x m.slots; rest = bring x (under x m.slots) m.rest }) es
      forgotten o u = at_one x _ _ _ None None (under x m.slots) (under x es) (record {
        fields_ascend = ascends-without x s.fields t.fields_ascend;
        slots_ascend = ascends-without x m.slots t.slots_ascend;
        rest_ascend = ascends-bring x (under x m.slots) m.rest t.rest_ascend;
        map_ascends = d.ascend;
        fields_are = λ n. under-without x s.fields n t.fields_ascend;
        slots_are = λ n. under-without x m.slots n t.slots_ascend;
        rest_is = λ n. bring_at x (under x m.slots) m.rest n rest_none;
        map_is = unaffected x es;
        tree = own_tree U P opened away s m t elsewhere es d x h;
        stand = tt;
        rests = by (under x m.slots) refl;
        free = t.apart x h;
      })
        where
          by : (S : Option Typed) → under x m.slots ≡ S → IsRest U None false opened S
          by None k = tt
          by (Some v) k = (refl, refl, o, u v k)

      -- a field gets another template, and its value is changed in place
      pub retyped : (new : Presence × Template) (f : Typed → Typed) (g : Plain → Plain) → Stands U P (Some new) (option_map f (under x m.slots))
          → ((v : Typed) → under x m.slots ≡ Some v → out (f v) ≡ g (out v))
          → Settled s (put x new s.fields) (record { slots = changed x f m.slots; rest = m.rest }) (changed x g es)
      retyped new f g k same = at_one x _ _ _ (Some new) (option_map f (under x m.slots)) (under x m.rest) (option_map g (under x es)) (record {
        fields_ascend = ascends-put x new s.fields t.fields_ascend;
        slots_ascend = ascends-changed x f m.slots t.slots_ascend;
        rest_ascend = t.rest_ascend;
        map_ascends = ascends-changed x g es d.ascend;
        fields_are = under-put x new s.fields;
        slots_are = changed_at x f m.slots;
        rest_is = unaffected x m.rest;
        map_is = changed_at x g es;
        tree = grind (arith, own_tree U P opened away s m t elsewhere es d x h, rest_none, same);
        stand = k;
        rests = subst (IsRest U (Some new) false opened) (sym rest_none) tt;
        free = t.apart x h;
      })

      -- a field gets another presence or template, and its value stays
      pub kept : (new : Presence × Template) → Stands U P (Some new) (under x m.slots) → Settled s (put x new s.fields) m es
      kept new k = at_one x _ _ _ (Some new) (under x m.slots) (under x m.rest) (under x es) (record {
        fields_ascend = ascends-put x new s.fields t.fields_ascend;
        slots_ascend = t.slots_ascend;
        rest_ascend = t.rest_ascend;
        map_ascends = d.ascend;
        fields_are = under-put x new s.fields;
        slots_are = unaffected x m.slots;
        rest_is = unaffected x m.rest;
        map_is = unaffected x es;
        tree = d.at x ∙ ap (λ o. first (option_map out (under x m.slots)) (first o (option_map out (under x m.rest)))) (d.away_alone x (own_away U P opened away s m t x h));
        stand = k;
        rests = subst (IsRest U (Some new) false opened) (sym rest_none) tt;
        free = t.apart x h;
      })

      -- a field whose value is absent gets one
      pub given : (new : Presence × Template) (v : Typed) (u : Plain) → ValueFits U P new.1 v → u ≡ out v → Settled s (put x new s.fields) (record { slots = put x v m.slots; rest = m.rest }) (put x u es)
      given new v u k same = at_one x _ _ _ (Some new) (Some v) (under x m.rest) (Some u) (record {
        fields_ascend = ascends-put x new s.fields t.fields_ascend;
        slots_ascend = ascends-put x v m.slots t.slots_ascend;
        rest_ascend = t.rest_ascend;
        map_ascends = ascends-put x u es d.ascend;
        fields_are = under-put x new s.fields;
        slots_are = under-put x v m.slots;
        rest_is = unaffected x m.rest;
        map_is = under-put x u es;
        tree = ap Some same;
        stand = k;
        rests = subst (IsRest U (Some new) false opened) (sym rest_none) tt;
        free = t.apart x h;
      })

    -- ---- a new field
    module _ (x : List ℕ) (absent : under x s.fields ≡ None) (free : s.taken x ≡ false) where
      -- with a value, or none, in place of an unknown one
      pub brought : (new : Presence × Template) (o : Option Typed) (es' : Entries) → Stands U P (Some new) o → Ascends es' → ((n : List ℕ) → under n es' ≡ (if same_name n x then option_map out o else under n es))
          → Settled s (put x new s.fields) (record { slots = bring x o m.slots; rest = without x m.rest }) es'
      brought new o es' k a at = at_one x _ _ _ (Some new) o None (option_map out o) (record {
        fields_ascend = ascends-put x new s.fields t.fields_ascend;
        slots_ascend = ascends-bring x o m.slots t.slots_ascend;
        rest_ascend = ascends-without x m.rest t.rest_ascend;
        map_ascends = a;
        fields_are = under-put x new s.fields;
        slots_are = λ n. bring_at x o m.slots n (free_slot U P opened away s m t x absent);
        rest_is = λ n. under-without x m.rest n t.rest_ascend;
        map_is = at;
        tree = sym (first-none (option_map out o));
        stand = k;
        rests = tt;
        free = free;
      })
