-- The step of a chain that a value stands for, and what a chain keeps beside its steps.
use Rattle.std.specs.Prelude.{◌≡◌, ℕ, suc, List, [], ◌∷◌, map, Option, Some, None, unwrap_or}
use Rattle.mig_model.specs.declared.form.Form.{Form}
use Rattle.mig_model.specs.Family.{Family}
use Rattle.mig_rule.specs.Rule as rule
use Rattle.mig_rule.specs.Chain as model
use Rattle.mig_rule.specs.Chain.{Chain, Path, IsAccepted, family_next, versions}
use Rattle.mig_rule.specs.Spelled.{IsSpelled}
use Rattle.mig_rule.specs.View.{fix_of}
use Rattle.mig_rule.specs.declared.chain_step.ChainStep.{ChainStep}
use Rattle.mig_rule.specs.declared.chain_step.ChainStep.TheVariants as S

abbrev pub chain_step_of : ChainStep → model.ChainStep
chain_step_of (S.Schema v f) = model.schema v f
chain_step_of (S.Fix n x) = model.fix n (fix_of x)

abbrev pub steps_of : List ChainStep → List model.ChainStep
steps_of xs = map chain_step_of xs

abbrev pub chain_of : Form → Path → Option ℕ → List ChainStep → Chain
chain_of form version missing xs = record { form = form; version = version; missing = missing; steps = steps_of xs }

-- the places of the fixes among the steps, counted from k
abbrev pub fix_places : ℕ → List model.ChainStep → List ℕ
fix_places k [] = []
fix_places k (model.schema v f ∷ steps) = fix_places (suc k) steps
fix_places k (model.fix n x ∷ steps) = k ∷ fix_places (suc k) steps

-- the places of the schemas among the steps, counted from k
abbrev pub schema_places : ℕ → List model.ChainStep → List ℕ
schema_places k [] = []
schema_places k (model.schema v f ∷ steps) = k ∷ schema_places (suc k) steps
schema_places k (model.fix n x ∷ steps) = schema_places (suc k) steps

-- the family that the first step gives
abbrev pub first_given : List model.ChainStep → Option Family
first_given (model.schema v f ∷ steps) = f
first_given steps = None

-- the family behind a step, and behind steps
abbrev pub family_then : Family → model.ChainStep → Family
family_then f (model.schema v g) = unwrap_or g f
family_then f (model.fix n x) = family_next x f

abbrev pub family_behind : Family → List model.ChainStep → Family
family_behind f [] = f
family_behind f (x ∷ xs) = family_behind (family_then f x) xs

-- the fix that the step is
abbrev pub fix_in : Option model.ChainStep → Option (ℕ × rule.Fix)
fix_in (Some (model.fix n x)) = Some (n, x)
fix_in o = None

-- a chain with the versions and the places of its schemas, and the places of its fixes
pub record IsChain (c : Chain) (vs schemas fixes : List ℕ) : Type 0 where
  pub accepted : IsAccepted c
  pub spelled : IsSpelled c
  pub versions_are : vs ≡ versions c.steps
  pub schemas_are : schemas ≡ schema_places 0 c.steps
  pub fixes_are : fixes ≡ fix_places 0 c.steps
