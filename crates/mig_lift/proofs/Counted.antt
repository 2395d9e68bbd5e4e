-- An accepted chain of two schemas and one fix is a schema, the fix and a schema.
use Rattle.std.proofs.Common.{◌≡◌, ◌∙◌, ℕ, List, [], ◌∷◌, length, true, Option, Some, None, refl, sym, ap, arith}
use Rattle.std.specs.Prelude.{◌&&◌, is_some, slice_get}
use Rattle.std.proofs.Math.Bool.{and-false, and-true}
use Rattle.std.proofs.lemmas.Option.{same_Some}
use Rattle.mig_model.specs.declared.form.Form.{Form}
use Rattle.mig_model.specs.Family.{Family}
use Rattle.mig_rule.specs.Rule as rule
use Rattle.mig_rule.specs.Rule.{Fix}
use Rattle.mig_rule.specs.Chain.{ChainStep, schema, fix, Known, Path, AreAccepted, ArePassed, families, fixes, next_schema, versions}
use Rattle.mig_lift.specs.Small.{Edits, NumberedEdits, are_small, fix_edits, is_flat, numbered_edits, with_number}

pub record ThreeSteps (xs : List ChainStep) : Type 0 where
  pub first : ℕ
  pub before : Family
  pub number : ℕ
  pub change : Fix
  pub second : ℕ
  pub given : Option Family
  pub steps_are : xs ≡ schema first (Some before) ∷ fix number change ∷ schema second given ∷ []

none_next : (xs : List ChainStep) → length (versions xs) ≡ 0 → next_schema xs ≡ None
none_next [] e = refl
none_next (schema v f ∷ xs) e = absurd (omega (arith, e))
none_next (fix n x ∷ xs) e = none_next xs e

module _ (form : Form) (path : Path) where
  no_fix : (s : Known) (xs : List ChainStep) → ArePassed form path s xs → length (versions xs) ≡ 0 → length (fixes xs) ≡ 0
  no_fix s [] a e = refl
  no_fix s (schema v f ∷ xs) a e = absurd (omega (arith, e))
  no_fix None (fix n x ∷ xs) a e = absurd a.0
  no_fix (Some s) (fix n x ∷ xs) a e = absurd (let k : None ≡ Some n = sym (none_next xs e) ∙ a.0.0 in cc)

  pub three_steps : (xs : List ChainStep) → AreAccepted form path xs → length (versions xs) ≡ 2 → length (fixes xs) ≡ 1 → ThreeSteps xs
  three_steps [] a v f = absurd a
  three_steps (schema u None ∷ xs) a v f = absurd a.0
  three_steps (fix n x ∷ xs) a v f = absurd a.0
  three_steps (schema u (Some b) ∷ []) a v f = absurd (omega (arith, v))
  three_steps (schema u (Some b) ∷ (schema w g ∷ xs)) a v f = absurd (omega (arith, f, no_fix _ xs a.1.1 (omega (arith, v))))
  three_steps (schema u (Some b) ∷ (fix n x ∷ [])) a v f = absurd (omega (arith, v))
  three_steps (schema u (Some b) ∷ (fix n x ∷ (fix m y ∷ xs))) a v f = absurd (omega (arith, f))
  three_steps (schema u (Some b) ∷ (fix n x ∷ (schema w g ∷ []))) a v f = record { first = u; before = b; number = n; change = x; second = w; given = g; steps_are = refl }
  three_steps (schema u (Some b) ∷ (fix n x ∷ (schema w g ∷ (schema k h ∷ xs)))) a v f = absurd (omega (arith, v))
  three_steps (schema u (Some b) ∷ (fix n x ∷ (schema w g ∷ (fix m y ∷ xs)))) a v f = absurd (omega (arith, f))

module _ (xs : List ChainStep) (t : ThreeSteps xs) where
  small_if : are_small xs ≡ (is_flat t.before && is_some (fix_edits t.change))
  small_if = ap are_small t.steps_are ∙ by t.change
    where
      by : (x : Fix) → are_small (schema t.first (Some t.before) ∷ fix t.number x ∷ schema t.second t.given ∷ []) ≡ (is_flat t.before && is_some (fix_edits x))
      by (rule.rule r) = refl
      by x = sym (and-false (is_flat t.before))

  -- by the first family, and what the fix is
  pub small_is : (f : Family) → slice_get (families xs) 0 ≡ Some f → (x : NumberedEdits) → Some x ≡ numbered_edits (slice_get (fixes xs) 0) → is_flat f ≡ are_small xs
  small_is f e x h = sym (small_if ∙ ap (λ b. is_flat t.before && b) (by (fix_edits t.change) (h ∙ ap (λ ys. numbered_edits (slice_get (fixes ys) 0)) t.steps_are)) ∙ and-true (is_flat t.before) ∙ ap is_flat before)
    where
      by : (o : Option Edits) → Some x ≡ with_number t.number o → is_some o ≡ true
      by (Some y) k = refl
      by None k = absurd cc

      before : t.before ≡ f
      before = same_Some t.before f (ap (λ ys. slice_get (families ys) 0) (sym t.steps_are) ∙ e)
