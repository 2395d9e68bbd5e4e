-- The syntax of a declaration as plain data.
use Rattle.std.specs.Prelude.{ℕ, ℤ, List, Bool, Option}
use Rattle.mig_model.specs.declared.form.Form.{Form}
use Rattle.mig_syntax.specs.TemplateSyntax.{TemplateSyntax}
use Rattle.mig_syntax.specs.RuleSyntax.{LeafSyntax, RuleSyntax}

-- a step of a path into a tree
pub data StepSyntax : Type 0 where
  -- to the field of this name
  field : List ℕ → StepSyntax
  each : StepSyntax
  left : StepSyntax
  right : StepSyntax
  -- to the case of this literal
  case : List ℕ → StepSyntax

pub data FixSyntax : Type 0 where
  new_type : List ℕ → TemplateSyntax → FixSyntax
  drop_type : List ℕ → FixSyntax
  deep : List StepSyntax → LeafSyntax → FixSyntax
  rule : RuleSyntax → FixSyntax

pub data DeclSyntax : Type 0 where
  form : Form → DeclSyntax
  -- the names that lead to the version, and the number after `missing`, if any
  version : List (List ℕ) → Option ℤ → DeclSyntax
  -- whether `follows` stands
  schema : ℤ → Bool → DeclSyntax
  named : List ℕ → TemplateSyntax → DeclSyntax
  root : List ℕ → DeclSyntax
  fix : ℤ → FixSyntax → DeclSyntax
