-- What holds of every rule.
use Rattle.std.specs.Prelude.{◌≡◌, ℕ, List, Some}
use Rattle.mig_model.specs.declared.form.Form.{Form}
use Rattle.mig_model.specs.declared.kind.Kind.{Kind}
use Rattle.mig_model.specs.Template.{Template, has_kind}
use Rattle.mig_rule.specs.Rule.{Rule}
use Rattle.mig_rule.specs.Target.{target}

-- a rule keeps the root kinds of a template that it fits
abbrev pub RootKindsStay : Type 0
RootKindsStay = (form : Form) (r : Rule) (n : List ℕ) (V W : Template) → target r n V ≡ Some W → (k : Kind) → has_kind form W k ≡ has_kind form V k
