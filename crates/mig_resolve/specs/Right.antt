-- What declarations have at which nothing from 1 to 9 holds, and what the grammar gives.
use Rattle.std.specs.Prelude.{◌≡◌, ℕ, List, true, false, Some}
use Rattle.std.specs.List.{AllByRecursion}
use Rattle.mig_model.specs.declared.form.Form.{Form}
use Rattle.mig_syntax.specs.DeclSyntax as decl
use Rattle.mig_syntax.specs.DeclSyntax.{DeclSyntax}
use Rattle.mig_resolve_template.specs.Templates.{template_is_twice}
use Rattle.mig_resolve_rule.specs.Rules.{fix_is_wrong, fix_is_out_of_range, fix_is_twice}
use Rattle.mig_parse.specs.Text.{IsDeclared}
use Rattle.mig_resolve.specs.Faults.{is_version_number}

-- what a fix says is in range, distinct and of the form
pub record IsRightFix (form : Form) (x : decl.FixSyntax) : Type 0 where
  pub kinds : fix_is_wrong form x ≡ false
  pub range : fix_is_out_of_range x ≡ false
  pub once : fix_is_twice x ≡ false

-- what the declaration says is in range, distinct and of the form
abbrev pub IsRight : Form → DeclSyntax → Type 0
IsRight form (decl.schema z follows) = is_version_number z ≡ true
IsRight form (decl.version xs (Some z)) = is_version_number z ≡ true
IsRight form (decl.named n t) = template_is_twice t ≡ false
IsRight form (decl.fix z x) = (is_version_number z ≡ true) × IsRightFix form x
IsRight form d = Unit {0}

abbrev pub AreRight : Form → List DeclSyntax → Type 0
AreRight form ds = AllByRecursion (IsRight form) ds

-- the grammar gives the declaration for some piece of a text
abbrev pub IsDeclaration : DeclSyntax → Type 0
IsDeclaration d = (piece : List ℕ) × IsDeclared piece d
