-- Laws about folds at the inhabitants of formed families.
use Rattle.std.specs.Prelude.{◌≡◌, ℕ, List, Bool, true}
use Rattle.mig_model.specs.Plain.{Plain}
use Rattle.mig_model.specs.Inhabits.{Fits, Inhabits}
use Rattle.mig_model.specs.Family.{Family, body, IsFormed}
use Rattle.mig_fold.specs.Fold.{treat, unless_skipped, fold, none_skipped}

-- at an inhabitant a fold folds the trees at points, but for the skipped ones, which stay, and then does the arm
abbrev pub FoldUnfolds : Type 0
FoldUnfolds = (f : Family) → IsFormed f → (skipped : List ℕ → Bool) (arm : List ℕ → Plain → Plain) (n : List ℕ) (t : Plain) → Inhabits f.form (body f) n t
    → fold f.form (body f) skipped arm n t ≡ arm n (treat f.form (unless_skipped skipped (fold f.form (body f) skipped arm)) (body f n) t)

-- where the trees at points inhabit the types of g already, the arm makes inhabitants of g
abbrev pub LeadsTo : Family → Family → (List ℕ → Plain → Plain) → Type 0
LeadsTo f g arm = (n : List ℕ) (t : Plain) → Fits f.form (Inhabits g.form (body g)) (body f n) t → Inhabits g.form (body g) n (arm n t)

-- inhabitants of the skipped types of f are inhabitants of g as they are
abbrev pub SkippedStay : Family → Family → (List ℕ → Bool) → Type 0
SkippedStay f g skipped = (n : List ℕ) (t : Plain) → skipped n ≡ true → Inhabits f.form (body f) n t → Inhabits g.form (body g) n t

-- a fold whose arms lead from f to g makes inhabitants of g
abbrev pub FoldInhabits : Type 0
FoldInhabits = (f g : Family) → IsFormed f → IsFormed g → (skipped : List ℕ → Bool) (arm : List ℕ → Plain → Plain) → SkippedStay f g skipped → LeadsTo f g arm
    → (n : List ℕ) (t : Plain) → Inhabits f.form (body f) n t → Inhabits g.form (body g) n (fold f.form (body f) skipped arm n t)

-- the fold leaves inhabitants of the skipped types as they are
abbrev pub SkippedAreIdle : Family → (List ℕ → Bool) → (List ℕ → Plain → Plain) → Type 0
SkippedAreIdle f skipped arm = (n : List ℕ) (t : Plain) → skipped n ≡ true → Inhabits f.form (body f) n t → fold f.form (body f) none_skipped arm n t ≡ t

-- to skip such names changes nothing
abbrev pub SkippingIsIdle : Type 0
SkippingIsIdle = (f : Family) → IsFormed f → (skipped : List ℕ → Bool) (arm : List ℕ → Plain → Plain) → SkippedAreIdle f skipped arm
    → (n : List ℕ) (t : Plain) → Inhabits f.form (body f) n t → fold f.form (body f) skipped arm n t ≡ fold f.form (body f) none_skipped arm n t
