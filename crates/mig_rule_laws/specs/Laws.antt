-- The laws of rules on trees. Each is of every rule that brings what is sound, at every template that it fits, and the template that it gives.
use Rattle.std.specs.Prelude.{◌≡◌, ℕ, List, Bool, Some}
use Rattle.mig_model.specs.declared.form.Form.{Form}
use Rattle.mig_model.specs.Plain.{Plain}
use Rattle.mig_model.specs.Kinds.{kind_of}
use Rattle.mig_model.specs.Template.{Template}
use Rattle.mig_model.specs.Inhabits.{Fits, Inhabits}
use Rattle.mig_field_laws.specs.Laws.{Anything, Passes}
use Rattle.mig_rule.specs.Rule.{Rule}
use Rattle.mig_rule.specs.Target.{target}
use Rattle.mig_rule.specs.Act.{act}
use Rattle.mig_rule_laws.specs.Premises.{IsTidy, IsSound, RuleSound}

abbrev pub AlwaysGives : (Form → Rule → List ℕ → Template → Template → Type 0) → Type 0
AlwaysGives Law =
    (form : Form) (r : Rule) (n : List ℕ) (V W : Template) → RuleSound form r → target r n V ≡ Some W → Law form r n V W

-- the new template is sound, where the old one is
abbrev pub SoundnessStays : Type 0
SoundnessStays = AlwaysGives (λ form r n V W. IsSound form V → IsSound form W)

-- what fits a sound template, with inhabitants of some bodies at its points, becomes what fits the new one so
abbrev pub RuleTypesStay : Type 0
RuleTypesStay = AlwaysGives (λ form r n V W.
    IsSound form V → (body : List ℕ → Template) (t : Plain) → IsTidy form t → Fits form (Inhabits form body) V t
    → Fits form (Inhabits form body) W (act form r n V t))

-- so it is with any test of the trees at points
abbrev pub RuleTestsStay : Type 0
RuleTestsStay = AlwaysGives (λ form r n V W.
    IsSound form V → (test : List ℕ → Plain → Bool) (t : Plain) → IsTidy form t → Fits form (Passes test) V t
    → Fits form (Passes test) W (act form r n V t))

-- a tidy tree that fits a sound template is tidy afterwards, whatever stands at points
abbrev pub TidinessStays : Type 0
TidinessStays = AlwaysGives (λ form r n V W.
    IsSound form V → (t : Plain) → IsTidy form t → Fits form Anything V t → IsTidy form (act form r n V t))

-- the kind of each tree stays, also of one that doesn't fit
abbrev pub KindsStay : Type 0
KindsStay = AlwaysGives (λ form r n V W. (t : Plain) → kind_of (act form r n V t) ≡ kind_of t)
