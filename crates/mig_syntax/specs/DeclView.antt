-- The syntax that a declaration has, wherever its boxes and lists lie in memory.
use Rattle.std.specs.Prelude.{map}
use Rattle.mig_syntax.specs.DeclSyntax as syntax
use Rattle.mig_syntax.specs.DeclSyntax.{StepSyntax, FixSyntax, DeclSyntax}
use Rattle.mig_syntax.specs.TemplateView.{template_of}
use Rattle.mig_syntax.specs.RuleView.{leaf_of, rule_of}
use Rattle.mig_syntax.specs.declared.decl.StepText.{StepText}
use Rattle.mig_syntax.specs.declared.decl.StepText.TheVariants as S
use Rattle.mig_syntax.specs.declared.decl.FixText.{FixText}
use Rattle.mig_syntax.specs.declared.decl.FixText.TheVariants as F
use Rattle.mig_syntax.specs.declared.decl.Decl.{Decl}
use Rattle.mig_syntax.specs.declared.decl.Decl.TheVariants as D

abbrev pub step_of : StepText → StepSyntax
step_of (S.Named x) = syntax.field x
step_of S.Each = syntax.each
step_of S.Left = syntax.left
step_of S.Right = syntax.right
step_of (S.Case x) = syntax.case x

abbrev pub fix_of : FixText → FixSyntax
fix_of (F.NewType n t) = syntax.new_type n (template_of t)
fix_of (F.DropType n) = syntax.drop_type n
fix_of (F.Deep ss f) = syntax.deep (map step_of ss.items) (leaf_of f)
fix_of (F.Rule r) = syntax.rule (rule_of r)

abbrev pub decl_of : Decl → DeclSyntax
decl_of (D.Form f) = syntax.form f
decl_of (D.Version xs z) = syntax.version xs.items z
decl_of (D.Schema z follows) = syntax.schema z follows
decl_of (D.Named n t) = syntax.named n (template_of t)
decl_of (D.Root n) = syntax.root n
decl_of (D.Fix z f) = syntax.fix z (fix_of f)
