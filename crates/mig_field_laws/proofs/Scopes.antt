-- The fields of a scope, a map that stands in it, and the same map treated; and what it takes that a change of them at some names keeps this.
use Rattle.std.proofs.Common.{◌≡◌, ℕ, List, Bool, true, false, Option, Some, None, refl, sym, ap, subst, ◌∙◌, arith}
use Rattle.std.specs.Prelude.{◌||◌, is_some, option_map, if◌then◌else◌}
use Rattle.mig_model.specs.declared.form.Form.{Form}
use Rattle.mig_model.specs.Plain.{Plain}
use Rattle.mig_model.specs.Names.{Ascends, same_name, under, has, without, put, moved, changed}
use Rattle.mig_model.specs.Template.{Field}
use Rattle.mig_model.specs.Inhabits.{Entries, is_in_form}
use Rattle.mig_model.specs.declared.kind.Kind.{Kind}
use Rattle.mig_model.proofs.SameNames.{same_name_is}
use Rattle.mig_fold.proofs.Treats.{Treatment}
use Rattle.mig_field.specs.NewRecord.{Scoped, FieldType}
use Rattle.mig_field.specs.Act.{is_learned}
use Rattle.mig_model.proofs.Edits.{first, at_name, changed_at, put_without, under-put, under-without, under-moved, ascends-put, ascends-without, ascends-bring, ascends-changed}
use Rattle.mig_model.proofs.Options.{none-there}
use Rattle.mig_action.proofs.Settings.{first-none}
use Rattle.mig_field_laws.proofs.Places.{Stands, treat_at}

-- ---- fields
-- the fields ascend, and none of them has a name that stands elsewhere in the record
pub record InOrder (s : Scoped) : Type 0 where
  pub ascend : Ascends s.fields
  pub apart : (n : List ℕ) → has n s.fields ≡ true → s.taken n ≡ false

-- fields that differ at some names, which stand nowhere else
pub record Refield (s : Scoped) (gs : List Field) (at : List ℕ → Bool) (F : List ℕ → Option FieldType) : Type 0 where
  pub ascend : Ascends gs
  pub are : (n : List ℕ) → under n gs ≡ (if at n then F n else under n s.fields)
  pub free : (n : List ℕ) → at n ≡ true → s.taken n ≡ false

pub refielded : (s : Scoped) (gs : List Field) (at : List ℕ → Bool) (F : List ℕ → Option FieldType) → InOrder s → Refield s gs at F → InOrder (record s { fields = gs })
refielded s gs at F i r = record { ascend = r.ascend; apart = λ n h. let new = r.free n in let old = i.apart n in grind (arith, r.are n, new, old) }

module _ (s : Scoped) (i : InOrder s) where
  pub field_put : (x : List ℕ) (f : FieldType) → s.taken x ≡ false → Refield s (put x f s.fields) (λ n. same_name n x) (λ n. Some f)
  field_put x f free = record {
    ascend = ascends-put x f s.fields i.ascend;
    are = under-put x f s.fields;
    free = λ n k. at_name (λ m. s.taken m ≡ false) n x k free;
  }

  pub field_without : (x : List ℕ) → has x s.fields ≡ true → Refield s (without x s.fields) (λ n. same_name n x) (λ n. None)
  field_without x there = record {
    ascend = ascends-without x s.fields i.ascend;
    are = λ n. under-without x s.fields n i.ascend;
    free = λ n k. at_name (λ m. s.taken m ≡ false) n x k (i.apart x there);
  }

  pub field_moved : (x y : List ℕ) → has x s.fields ≡ true → s.taken y ≡ false
      → Refield s (moved x y s.fields) (λ n. same_name n y || same_name n x) (λ n. if same_name n y then under x s.fields else None)
  field_moved x y there free = record {
    ascend = ascends-bring y (under x s.fields) (without y (without x s.fields)) (ascends-without y (without x s.fields) (ascends-without x s.fields i.ascend));
    are = λ n. grind (arith, under-moved x y s.fields n i.ascend);
    free = λ n k. let own = i.apart x there in grind (arith, k, same_name_is n y, same_name_is n x, own, free);
  }

-- ---- edits of maps
-- an edit at some names
pub record EditAt (at : List ℕ → Bool) (E : Entries → Entries) (T : List ℕ → Entries → Option Plain) : Type 0 where
  pub ascend : (es : Entries) → Ascends es → Ascends (E es)
  pub is : (es : Entries) → Ascends es → (n : List ℕ) → under n (E es) ≡ (if at n then T n es else under n es)

-- an edit at one name
abbrev pub OneEdit : List ℕ → (Entries → Entries) → (Option Plain → Option Plain) → Type 0
OneEdit x E T = EditAt (λ n. same_name n x) E (λ n es. T (under x es))

pub dropping : (x : List ℕ) → OneEdit x (without x) (λ o. None)
dropping x = record { ascend = ascends-without x; is = λ es a n. under-without x es n a }

pub putting : (x : List ℕ) (u : Plain) → OneEdit x (λ es. put x u (without x es)) (λ o. Some u)
putting x u = record { ascend = λ es a. ascends-put x u (without x es) (ascends-without x es a); is = λ es a n. put_without x u es n a }

pub staying : (x : List ℕ) → OneEdit x (λ es. es) (λ o. o)
staying x = record { ascend = λ es a. a; is = λ es a n. grind (arith, same_name_is n x) }

pub changing : (x : List ℕ) (g : Plain → Plain) → OneEdit x (changed x g) (option_map g)
changing x g = record { ascend = ascends-changed x g; is = λ es a n. changed_at x g es n }

pub defaulting : (x : List ℕ) (u : Plain) → OneEdit x (λ es. if has x es then es else put x u es) (λ o. first o (Some u))
defaulting x u = record { ascend = ascend; is = λ es a n. grind (arith, under-put x u es n, same_name_is n x) }
  where
    ascend : (es : Entries) → Ascends es → Ascends (if has x es then es else put x u es)
    ascend es a = by (has x es)
      where
        by : (b : Bool) → Ascends (if b then es else put x u es)
        by true = a
        by false = ascends-put x u es a

pub learning : (x : List ℕ) (k : Option Kind) → OneEdit x (λ es. if is_learned k (under x es) then es else without x es) (λ o. if is_learned k o then o else None)
learning x k = record { ascend = ascend; is = λ es a n. by es a n (is_learned k (under x es)) }
  where
    ascend : (es : Entries) → Ascends es → Ascends (if is_learned k (under x es) then es else without x es)
    ascend es a = one (is_learned k (under x es))
      where
        one : (b : Bool) → Ascends (if b then es else without x es)
        one true = a
        one false = ascends-without x es a

    by : (es : Entries) → Ascends es → (n : List ℕ) (b : Bool) → under n (if b then es else without x es) ≡ (if same_name n x then (if b then under x es else None) else under n es)
    by es a n true = grind (arith, same_name_is n x)
    by es a n false = under-without x es n a

pub moving : (x y : List ℕ) → EditAt (λ n. same_name n y || same_name n x) (moved x y) (λ n es. if same_name n y then under x es else None)
moving x y = record {
  ascend = λ es a. ascends-bring y (under x es) (without y (without x es)) (ascends-without y (without x es) (ascends-without x es a));
  is = λ es a n. grind (arith, under-moved x y es n a);
}

-- ---- both
-- what stands under a name in a map, where that is asked for (w), and in the map treated
abbrev pub At : Form → (List ℕ → Plain → Type 0) → Bool → Treatment → Bool → Option FieldType → Option Plain → Option Plain → Type 0
At form P w h o F u v = (w ≡ true → Stands form P o F u) × (v ≡ option_map (treat_at form h F) u)

-- the map stands in the scope, and the other is the same treated; `other` are the places outside of the scope
pub record Scene (form : Form) (P : List ℕ → Plain → Type 0) (w : Bool) (h : Treatment) (o : Bool) (other : List ℕ → Option FieldType) (s : Scoped) (es ts : Entries) : Type 0 where
  pub fields : InOrder s
  pub within : (n : List ℕ) → is_some (other n) ≡ true → s.taken n ≡ true
  pub ascend : Ascends es
  pub also : Ascends ts
  pub at : (n : List ℕ) → At form P w h o (first (under n s.fields) (other n)) (under n es) (under n ts)
  pub unknown : w ≡ true → (n : List ℕ) (t : Plain) → first (under n s.fields) (other n) ≡ None → under n es ≡ Some t → is_in_form form t ≡ true

module _ (form : Form) (P : List ℕ → Plain → Type 0) (w : Bool) (h : Treatment) (o : Bool) (other : List ℕ → Option FieldType) (s : Scoped) (es ts : Entries)
    (c : Scene form P w h o other s es ts) where
  pub alone : (n : List ℕ) → s.taken n ≡ false → other n ≡ None
  alone n k = let w = c.within n in none-there (other n) (grind (arith, w, k))

  pub own : (n : List ℕ) → s.taken n ≡ false → At form P w h o (under n s.fields) (under n es) (under n ts)
  own n k = subst (λ F. At form P w h o F (under n es) (under n ts)) (ap (first (under n s.fields)) (alone n k) ∙ first-none (under n s.fields)) (c.at n)

  -- the new fields, the edit that leads to them, and what then stands under the names that changed
  pub record Step (E : Entries → Entries) (gs : List Field) : Type 0 where
    pub at : List ℕ → Bool
    pub places : List ℕ → Option FieldType
    pub fields : Refield s gs at places
    pub trees : List ℕ → Entries → Option Plain
    pub edit : EditAt at E trees
    pub each : (n : List ℕ) → at n ≡ true → At form P w h o (places n) (trees n es) (trees n ts)

  pub stepped : (E : Entries → Entries) (gs : List Field) → Step E gs → (n : List ℕ) → At form P w h o (first (under n gs) (other n)) (under n (E es)) (under n (E ts))
  stepped E gs d n =
      subst (λ (G : Option FieldType). At form P w h o (first G (other n)) (under n (E es)) (under n (E ts))) (sym (d.fields.are n))
      (subst (λ (u : Option Plain). At form P w h o (first (if d.at n then d.places n else under n s.fields) (other n)) u (under n (E ts))) (sym (d.edit.is es c.ascend n))
      (subst (λ (v : Option Plain). At form P w h o (first (if d.at n then d.places n else under n s.fields) (other n)) (if d.at n then d.trees n es else under n es) v)
      (sym (d.edit.is ts c.also n)) (by (d.at n) refl)))
    where
      by : (b : Bool) → d.at n ≡ b
          → At form P w h o (first (if b then d.places n else under n s.fields) (other n)) (if b then d.trees n es else under n es) (if b then d.trees n ts else under n ts)
      by true k = subst (λ F. At form P w h o F (d.trees n es) (d.trees n ts)) (sym (ap (first (d.places n)) (alone n (d.fields.free n k)) ∙ first-none (d.places n))) (d.each n k)
      by false k = c.at n
