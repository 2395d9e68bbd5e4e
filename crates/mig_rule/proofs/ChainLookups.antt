-- What stands at a place among the schemas or the fixes of a chain.
use Rattle.std.proofs.Common.{◌≡◌, ◌∙◌, ◌+◌, ℕ, zero, suc, List, [], ◌∷◌, length, Some, None, refl, ap, arith}
use Rattle.std.proofs.lemmas.Option.{same_Some}
use Rattle.std.specs.Prelude.{slice_get}
use Rattle.mig_rule.specs.Chain.{ChainStep, schema, fix, fixes}
use Rattle.mig_rule.specs.ChainView.{fix_in, fix_places}

pub as_many_fixes : (k : ℕ) (xs : List ChainStep) → length (fix_places k xs) ≡ length (fixes xs)
as_many_fixes k [] = refl
as_many_fixes k (schema v f ∷ xs) = as_many_fixes (suc k) xs
as_many_fixes k (fix n x ∷ xs) = ap suc (as_many_fixes (suc k) xs)

pub no_fix : (k : ℕ) (xs : List ChainStep) (i : ℕ) → slice_get (fix_places k xs) i ≡ None → slice_get (fixes xs) i ≡ None
no_fix k [] i e = refl
no_fix k (schema v f ∷ xs) i e = no_fix (suc k) xs i e
no_fix k (fix n x ∷ xs) zero e = absurd cc
no_fix k (fix n x ∷ xs) (suc i) e = no_fix (suc k) xs i e

-- the place is behind k, and the step there is the fix
fix_behind : (k : ℕ) (xs : List ChainStep) (i p : ℕ) → slice_get (fix_places k xs) i ≡ Some p → (j : ℕ) × ((p ≡ k + j) × (slice_get (fixes xs) i ≡ fix_in (slice_get xs j)))
fix_behind k [] i p e = absurd cc
fix_behind k (schema v f ∷ xs) i p e = let r = fix_behind (suc k) xs i p e in (suc r.0, (omega (arith, r.1.0), r.1.1))
fix_behind k (fix n x ∷ xs) zero p e = (0, (omega (arith, same_Some k p e), refl))
fix_behind k (fix n x ∷ xs) (suc i) p e = let r = fix_behind (suc k) xs i p e in (suc r.0, (omega (arith, r.1.0), r.1.1))

pub fix_found : (xs : List ChainStep) (i p : ℕ) → slice_get (fix_places 0 xs) i ≡ Some p → slice_get (fixes xs) i ≡ fix_in (slice_get xs p)
fix_found xs i p e =
    let r = fix_behind 0 xs i p e in
    let at : r.0 ≡ p = omega (arith, r.1.0) in
    r.1.1 ∙ ap (λ j. fix_in (slice_get xs j)) at
