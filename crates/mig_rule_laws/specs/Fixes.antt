-- The laws of fixes on trees. Each is of every fix that brings what is sound, at every formed family whose templates are in order, and the next family.
use Rattle.std.specs.Prelude.{◌≡◌, ℕ, List, Result, Ok}
use Rattle.mig_model.specs.declared.form.Form.{Form}
use Rattle.mig_model.specs.Plain.{Plain}
use Rattle.mig_model.specs.Kinds.{kind_of}
use Rattle.mig_model.specs.Family.{Family, body, IsFormed}
use Rattle.mig_model.specs.Inhabits.{Inhabits}
use Rattle.mig_model.specs.TemplateKept.{TemplateKept}
use Rattle.mig_rule.specs.Rule as rule
use Rattle.mig_rule.specs.Rule.{Fix, new_type}
use Rattle.mig_rule.specs.Fix.{next, plain}
use Rattle.mig_rule_laws.specs.Premises.{IsTidy, RuleSound}

-- the records in each body are in order
abbrev pub FamilyKept : Family → Type 0
FamilyKept f = (n : List ℕ) → TemplateKept (body f n)

-- what a fix brings is in order and of the form
abbrev pub FixSound : Form → Fix → Type 0
FixSound form (rule.rule r) = RuleSound form r
FixSound form (new_type n V) = TemplateKept V
FixSound form x = Unit {0}

abbrev pub AlwaysNext : (Fix → Family → Family → Type 0) → Type 0
AlwaysNext Law =
    (x : Fix) (f g : Family) → next x f ≡ Ok g → IsFormed f → FamilyKept f → FixSound f.form x → Law x f g

-- the next family is formed and of the same form and root, and the records in its bodies are in order
pub record IsNext (f g : Family) : Type 0 where
  pub formed : IsFormed g
  pub form : g.form ≡ f.form
  pub root : g.root ≡ f.root
  pub kept : FamilyKept g

abbrev pub FamiliesStay : Type 0
FamiliesStay = AlwaysNext (λ x f g. IsNext f g)

-- a tidy tree that inhabits the root becomes one that inhabits the root of the next family
abbrev pub FixTypesStay : Type 0
FixTypesStay = AlwaysNext (λ x f g.
    (t : Plain) → IsTidy f.form t → Inhabits f.form (body f) f.root t
    → Inhabits g.form (body g) g.root (plain x f f.root t))

-- and it is tidy afterwards
abbrev pub FixTidinessStays : Type 0
FixTidinessStays = AlwaysNext (λ x f g.
    (t : Plain) → IsTidy f.form t → Inhabits f.form (body f) f.root t
    → IsTidy f.form (plain x f f.root t))
