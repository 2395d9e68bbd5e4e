-- A tree's kind tells which side of a sum it fits.
use Rattle.std.proofs.Common.{◌≡◌, ◌⊎◌, inl, inr, refl, sym, ap, ◌∙◌, ℕ, List, true, false, true≢false}
use Rattle.std.proofs.lemmas.Bool.{false_from_ne_true}
use Rattle.std.specs.Prelude.{◌||◌}
use Rattle.mig_model.specs.declared.form.Form.{Form}
use Rattle.mig_model.specs.Plain as plain
use Rattle.mig_model.specs.Plain.{Plain}
use Rattle.mig_model.specs.Kinds.{kind_of}
use Rattle.mig_model.specs.Template.{Template, leaf, any, list, point, rec, sum, same_kind, has_kind}
use Rattle.mig_model.specs.Inhabits.{Fits}
use Rattle.mig_laws.specs.Sides.{is_guarded, is_side, AreSides}
use Rattle.mig_laws.proofs.Parts.{root_of_form}
use Rattle.mig_model.proofs.Bools.{split_and, both_true, left_or, right_or}
use Rattle.mig_model.proofs.SameNames.{same_kind_itself}

-- a tree that fits a guarded template has one of its root kinds
pub kind_shown : (form : Form) (P : List ℕ → Plain → Type 0) (V : Template) (t : Plain) → is_guarded V ≡ true → Fits form P V t → has_kind form V (kind_of t) ≡ true
kind_shown form P (leaf k) t g s = ap (same_kind k) s ∙ same_kind_itself k
kind_shown form P any t g s = root_of_form form t s
kind_shown form P (list V) (plain.list ts) g s = refl
kind_shown form P (list V) t g s = absurd s
kind_shown form P (point n) t g s = absurd (true≢false (sym g))
kind_shown form P (rec fs c o) (plain.map ps) g s = refl
kind_shown form P (rec fs c o) t g s = absurd s
kind_shown form P (sum V W) t g s =
    let both = split_and (is_guarded V) (is_guarded W) g in
    elim s [
      | inl x ↦ left_or (has_kind form V (kind_of t)) (has_kind form W (kind_of t)) (kind_shown form P V t both.0 x)
      | inr y ↦ right_or (has_kind form V (kind_of t)) (has_kind form W (kind_of t)) (kind_shown form P W t both.1 y)
    ]

side_guarded : (V : Template) → is_side V ≡ true → is_guarded V ≡ true
side_guarded any g = refl
side_guarded (sum V W) g = let both = split_and (is_side V) (is_side W) g in both_true (is_guarded V) (is_guarded W) (side_guarded V both.0) (side_guarded W both.1)
side_guarded _ g = g

-- so has a tree that fits a side
pub kind_told : (form : Form) (P : List ℕ → Plain → Type 0) (V : Template) (t : Plain) → is_side V ≡ true → Fits form P V t → has_kind form V (kind_of t) ≡ true
kind_told form P V t g s = kind_shown form P V t (side_guarded V g) s

-- the side that a tree fits, which its kind tells
pub side_of : (form : Form) (P : List ℕ → Plain → Type 0) (V W : Template) (t : Plain) → AreSides form V W → Fits form P (sum V W) t
    → ((has_kind form V (kind_of t) ≡ true) × Fits form P V t) ⊎ ((has_kind form V (kind_of t) ≡ false) × (has_kind form W (kind_of t) ≡ true) × Fits form P W t)
side_of form P V W t a (inl x) = inl (kind_told form P V t a.left x, x)
side_of form P V W t a (inr y) =
    let told = kind_told form P W t a.right y in
    inr (false_from_ne_true (has_kind form V (kind_of t)) (λ e. true≢false (sym told ∙ a.apart (kind_of t) e)), told, y)
