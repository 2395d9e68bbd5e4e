-- What is read has the shape of its type's body.
use Rattle.std.proofs.Common.{◌≡◌, ℕ, List, subst, arith}
use Rattle.mig_model.specs.Template.{Template}
use Rattle.mig_model.specs.Family.{Family, body}
use Rattle.mig_value.specs.Typed.{Typed, typed_size}
use Rattle.mig_value.specs.Fit.{Shape, FitBy, FitAsRead, IsAtomOf}
use Rattle.mig_value.proofs.Fits.{fit_unfolds, fits_inside}

pub read_shape : (f : Family) (n : List ℕ) (V : Template) (v : Typed) → body f n ≡ V → FitAsRead f.form (body f) n v → Shape V v
read_shape f n V v at h =
    subst (λ W. Shape W v) at
    (fits_inside (IsAtomOf f.form) (λ u. Unit {0}) (λ u k. tt) (FitBy (IsAtomOf f.form) (body f)) (λ m u. Unit {0}) (typed_size v) (λ m u l k. tt) (body f n) v (omega arith)
    ((fit_unfolds (IsAtomOf f.form) (body f) n v).0 h))
