-- The value under a name of a record value, and another in its place.
use Rattle.std.proofs.Common.{◌≡◌, ◌∙◌, sym, ap, refl, ℕ, List, Bool, true, false, Option, Some, None}
use Rattle.std.specs.Prelude.{is_some, if◌then◌else◌}
use Rattle.std.specs.Option.{option_or}
use Rattle.mig_model.specs.Names.{same_name}
use Rattle.mig_value.specs.Typed.{Typed, rec, Slots, no_slot, slot, Tag}
use Rattle.mig_path.specs.Fields.{value_in, with_value, value_under, with_value_under, tag_of}

-- ---- among slots
kept : (x : List ℕ) (u w : Typed) (ss : Slots) → with_value x u (with_value x w ss) ≡ with_value x u ss
kept x u w no_slot = refl
kept x u w (slot n v ss) = by (same_name x n) refl (kept x u w ss)
  where
    by : (b : Bool) → same_name x n ≡ b → with_value x u (with_value x w ss) ≡ with_value x u ss → with_value x u (if b then slot n w ss else slot n v (with_value x w ss)) ≡ if b then slot n u ss else slot n v (with_value x u ss)
    by true e rest = ap (λ (b : Bool). if b then slot n u ss else slot n w (with_value x u ss)) e
    by false e rest = ap (λ (b : Bool). if b then slot n u (with_value x w ss) else slot n v (with_value x u (with_value x w ss))) e ∙ ap (slot n v) rest

same : (x : List ℕ) (w : Typed) (ss : Slots) → value_in x ss ≡ Some w → with_value x w ss ≡ ss
same x w no_slot e = refl
same x w (slot n v ss) e = by (same_name x n) e (same x w ss)
  where
    by : (b : Bool) → (if b then Some v else value_in x ss) ≡ Some w → (value_in x ss ≡ Some w → with_value x w ss ≡ ss) → (if b then slot n w ss else slot n v (with_value x w ss)) ≡ slot n v ss
    by true h rest = let is : v ≡ w = cc in ap (λ (u : Typed). slot n u ss) (sym is)
    by false h rest = ap (slot n v) (rest h)

got : (x : List ℕ) (u w : Typed) (ss : Slots) → value_in x ss ≡ Some u → value_in x (with_value x w ss) ≡ Some w
got x u w no_slot e = cc
got x u w (slot n v ss) e = by (same_name x n) refl e (got x u w ss)
  where
    by : (b : Bool) → same_name x n ≡ b → (if b then Some v else value_in x ss) ≡ Some u → (value_in x ss ≡ Some u → value_in x (with_value x w ss) ≡ Some w) → value_in x (if b then slot n w ss else slot n v (with_value x w ss)) ≡ Some w
    by true is h rest = ap (λ (b : Bool). if b then Some w else value_in x ss) is
    by false is h rest = ap (λ (b : Bool). if b then Some v else value_in x (with_value x w ss)) is ∙ rest h

-- ---- in a record value
module _ (x : List ℕ) (fs : Slots) (tag : Option Tag) (cs rs : Slots) where
  abbrev put : Typed → Bool → Typed
  put w b = if b then rec (with_value x w fs) tag cs rs else rec fs tag (with_value x w cs) rs

  in_fields : (w a : Typed) → value_in x fs ≡ Some a → with_value_under x w (rec fs tag cs rs) ≡ rec (with_value x w fs) tag cs rs
  in_fields w a e = ap (λ (o : Option Typed). put w (is_some o)) e

  in_cased : (w : Typed) → value_in x fs ≡ None → with_value_under x w (rec fs tag cs rs) ≡ rec fs tag (with_value x w cs) rs
  in_cased w e = ap (λ (o : Option Typed). put w (is_some o)) e

  under_cased : value_in x fs ≡ None → value_under x (rec fs tag cs rs) ≡ value_in x cs
  under_cased e = ap (λ (o : Option Typed). option_or o (value_in x cs)) e

  under_fields : (a : Typed) → value_in x fs ≡ Some a → value_under x (rec fs tag cs rs) ≡ Some a
  under_fields a e = ap (λ (o : Option Typed). option_or o (value_in x cs)) e

pub with_with : (x : List ℕ) (u w v : Typed) → with_value_under x u (with_value_under x w v) ≡ with_value_under x u v
with_with x u w (rec fs tag cs rs) = by (value_in x fs) refl
  where
    by : (o : Option Typed) → value_in x fs ≡ o → with_value_under x u (with_value_under x w (rec fs tag cs rs)) ≡ with_value_under x u (rec fs tag cs rs)
    by (Some a) e =
        ap (with_value_under x u) (in_fields x fs tag cs rs w a e) ∙ in_fields x (with_value x w fs) tag cs rs u w (got x a w fs e)
        ∙ ap (λ (ss : Slots). rec ss tag cs rs) (kept x u w fs) ∙ sym (in_fields x fs tag cs rs u a e)
    by None e =
        ap (with_value_under x u) (in_cased x fs tag cs rs w e) ∙ in_cased x fs tag (with_value x w cs) rs u e
        ∙ ap (λ (ss : Slots). rec fs tag ss rs) (kept x u w cs) ∙ sym (in_cased x fs tag cs rs u e)
with_with x u w v = refl

pub with_same : (x : List ℕ) (w v : Typed) → value_under x v ≡ Some w → with_value_under x w v ≡ v
with_same x w (rec fs tag cs rs) h = by (value_in x fs) refl
  where
    by : (o : Option Typed) → value_in x fs ≡ o → with_value_under x w (rec fs tag cs rs) ≡ rec fs tag cs rs
    by (Some a) e =
        let there : value_in x fs ≡ Some w = e ∙ sym (under_fields x fs tag cs rs a e) ∙ h in
        in_fields x fs tag cs rs w a e ∙ ap (λ (ss : Slots). rec ss tag cs rs) (same x w fs there)
    by None e =
        let there : value_in x cs ≡ Some w = sym (under_cased x fs tag cs rs e) ∙ h in
        in_cased x fs tag cs rs w e ∙ ap (λ (ss : Slots). rec fs tag ss rs) (same x w cs there)
with_same x w v h = refl

pub under_with : (x : List ℕ) (u w v : Typed) → value_under x v ≡ Some u → value_under x (with_value_under x w v) ≡ Some w
under_with x u w (rec fs tag cs rs) h = by (value_in x fs) refl
  where
    by : (o : Option Typed) → value_in x fs ≡ o → value_under x (with_value_under x w (rec fs tag cs rs)) ≡ Some w
    by (Some a) e = ap (value_under x) (in_fields x fs tag cs rs w a e) ∙ under_fields x (with_value x w fs) tag cs rs w (got x a w fs e)
    by None e =
        let there : value_in x cs ≡ Some u = sym (under_cased x fs tag cs rs e) ∙ h in
        ap (value_under x) (in_cased x fs tag cs rs w e) ∙ under_cased x fs tag (with_value x w cs) rs e ∙ got x u w cs there
under_with x u w v h = cc

pub tag_with : (x : List ℕ) (w v : Typed) → tag_of (with_value_under x w v) ≡ tag_of v
tag_with x w (rec fs tag cs rs) = by (is_some (value_in x fs))
  where
    by : (b : Bool) → tag_of (put x fs tag cs rs w b) ≡ tag
    by true = refl
    by false = refl
tag_with x w v = refl
