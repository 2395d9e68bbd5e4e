-- The family of a schema is the one behind the steps up to it.
use Rattle.std.proofs.Common.{◌≡◌, ◌∙◌, ◌+◌, ◌<◌, ◌≤◌, ℕ, zero, suc, List, [], ◌∷◌, length, take, Some, None, Err, refl, ap, arith}
use Rattle.std.proofs.lemmas.Option.{same_Some}
use Rattle.std.specs.Prelude.{slice_get, unwrap_or}
use Rattle.mig_model.specs.declared.form.Form.{Form}
use Rattle.mig_model.specs.Family.{Family}
use Rattle.mig_rule.specs.Rule.{Fix}
use Rattle.mig_rule.specs.Fix.{Refusal, next}
use Rattle.mig_rule.specs.Chain.{ChainStep, Path, AreAccepted, families, families_from, family_next, family_or, versions, schema, fix}
use Rattle.mig_rule.specs.declared.chain_step.ChainStep as code
use Rattle.mig_rule.specs.ChainView.{chain_step_of, steps_of, first_given, family_behind, schema_places}

-- a fix that is refused leaves the family
pub left_as_is : (x : Fix) (f : Family) (e : Refusal) → Some (Err e) ≡ Some (next x f) → f ≡ family_next x f
left_as_is x f e p = ap (family_or f) (same_Some (Err e) (next x f) p)

family_found : (k : ℕ) (f : Family) (xs : List ChainStep) (i p : ℕ) → slice_get (schema_places k xs) i ≡ Some p
    → (j : ℕ) × ((p ≡ k + j) × ((j < length xs) × (slice_get (families_from f xs) i ≡ Some (family_behind f (take (suc j) xs)))))
family_found k f [] i p e = absurd cc
family_found k f (schema v g ∷ xs) zero p e = (0, (omega (arith, same_Some k p e), (omega arith, refl)))
family_found k f (schema v g ∷ xs) (suc i) p e =
    let r = family_found (suc k) (unwrap_or g f) xs i p e in
    (suc r.0, (omega (arith, r.1.0), (omega (arith, r.1.1.0), r.1.1.1)))
family_found k f (fix n x ∷ xs) i p e =
    let r = family_found (suc k) (family_next x f) xs i p e in
    (suc r.0, (omega (arith, r.1.0), (omega (arith, r.1.1.0), r.1.1.1)))

module _ (f : Family) (xs : List ChainStep) (i p : ℕ) (e : slice_get (schema_places 0 xs) i ≡ Some p) where
  pub is_a_place : p < length xs
  is_a_place = let r = family_found 0 f xs i p e in omega (arith, r.1.0, r.1.1.0)

  pub family_there : slice_get (families_from f xs) i ≡ Some (family_behind f (take (p + 1) xs))
  family_there =
      let r = family_found 0 f xs i p e in
      let at : suc r.0 ≡ p + 1 = omega (arith, r.1.0) in
      r.1.1.1 ∙ ap (λ j. Some (family_behind f (take j xs))) at

pub take_steps : (n : ℕ) (xs : List code.ChainStep) → take n (steps_of xs) ≡ steps_of (take n xs)
take_steps zero xs = refl
take_steps (suc n) [] = refl
take_steps (suc n) (x ∷ xs) = ap (λ l. chain_step_of x ∷ l) (take_steps n xs)

pub no_schema : (k : ℕ) (xs : List ChainStep) (i : ℕ) → slice_get (schema_places k xs) i ≡ None → length (versions xs) ≤ i
no_schema k [] i e = omega arith
no_schema k (schema v g ∷ xs) zero e = absurd cc
no_schema k (schema v g ∷ xs) (suc i) e = omega (arith, no_schema (suc k) xs i e)
no_schema k (fix n x ∷ xs) i e = no_schema (suc k) xs i e

module _ (form : Form) (path : Path) where
  pub gives_first : (xs : List ChainStep) → AreAccepted form path xs → first_given xs ≡ None → ⊥
  gives_first [] h e = h
  gives_first (schema v (Some f) ∷ xs) h e = absurd cc
  gives_first (schema v None ∷ xs) h e = h.0
  gives_first (fix n x ∷ xs) h e = h.0

pub begin_with : (xs : List ChainStep) (f : Family) → first_given xs ≡ Some f → families xs ≡ families_from f xs
begin_with [] f e = absurd cc
begin_with (schema v (Some g) ∷ xs) f e = let same : g ≡ f = same_Some g f e in ap (λ h. g ∷ families_from h xs) refl
begin_with (schema v None ∷ xs) f e = absurd cc
begin_with (fix n x ∷ xs) f e = absurd cc
