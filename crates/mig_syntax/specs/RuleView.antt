-- The syntax that constants, fills, leaf functions, field functions and rules have, wherever their lists lie in memory.
use Rattle.mig_syntax.specs.RuleSyntax as syntax
use Rattle.mig_syntax.specs.RuleSyntax.{ConstSyntax, FillSyntax, LeafSyntax, FunctionSyntax, RuleSyntax, rules_of}
use Rattle.mig_syntax.specs.TemplateView.{template_of}
use Rattle.mig_syntax.specs.declared.rule.ConstText.{ConstText}
use Rattle.mig_syntax.specs.declared.rule.ConstText.TheVariants as C
use Rattle.mig_syntax.specs.declared.rule.FillText.{FillText}
use Rattle.mig_syntax.specs.declared.rule.FillText.TheVariants as F
use Rattle.mig_syntax.specs.declared.rule.LeafText.{LeafText}
use Rattle.mig_syntax.specs.declared.rule.LeafText.TheVariants as L
use Rattle.mig_syntax.specs.declared.rule.FunctionText.{FunctionText}
use Rattle.mig_syntax.specs.declared.rule.FunctionText.TheVariants as U
use Rattle.mig_syntax.specs.declared.rule.RuleText.{RuleText}
use Rattle.mig_syntax.specs.declared.rule.RuleText.TheVariants as R

abbrev pub const_of : ConstText → ConstSyntax
const_of (C.Number k z) = syntax.number k z
const_of (C.Bits k z) = syntax.bits k z
const_of (C.Text s) = syntax.text s
const_of (C.Bool b) = syntax.boolean b
const_of C.Null = syntax.null
const_of (C.Empty k) = syntax.empty k

abbrev pub fill_of : FillText → FillSyntax
fill_of (F.Const c) = syntax.const (const_of c)
fill_of (F.EmptyList t) = syntax.empty_list (template_of t)

abbrev pub leaf_of : LeafText → LeafSyntax
leaf_of (L.Const c) = syntax.constant (const_of c)
leaf_of (L.Plus z) = syntax.plus z
leaf_of (L.Times z) = syntax.times z
leaf_of (L.Clamp y z) = syntax.clamp y z
leaf_of (L.To k) = syntax.to_kind k
leaf_of L.ToText = syntax.to_text
leaf_of (L.OfText c) = syntax.of_text (const_of c)
leaf_of (L.Table ps) = syntax.table ps.items
leaf_of (L.Prefix s) = syntax.prefix s
leaf_of (L.Strip s) = syntax.strip s
leaf_of L.Lower = syntax.lower

abbrev pub function_of : FunctionText → FunctionSyntax
function_of (U.Rename x y) = syntax.rename x y
function_of (U.Drop x) = syntax.drop x
function_of (U.Add x f) = syntax.add x (fill_of f)
function_of (U.Learn x k) = syntax.learn x k
function_of (U.Forget x) = syntax.forget x
function_of (U.Default x f) = syntax.default x (fill_of f)
function_of (U.MayBe x) = syntax.maybe x
function_of (U.Map x f) = syntax.map x (leaf_of f)
function_of (U.Nest xs y) = syntax.nest xs.items y
function_of (U.Unnest x) = syntax.unnest x
function_of (U.Wrap x) = syntax.wrap x
function_of (U.Unify x f g) = syntax.unify x (leaf_of f) (leaf_of g)
function_of (U.Retag x y) = syntax.retag x y
function_of (U.AddCase x fs) = syntax.add_case x fs

abbrev pub rule_of : RuleText → RuleSyntax
rule_of R.Nop = syntax.nop
rule_of (R.All r) = syntax.all r
rule_of (R.Everywhere r) = syntax.everywhere r
rule_of (R.On n r) = syntax.on n r
rule_of (R.At x r) = syntax.at x r
rule_of (R.OrElse r s) = syntax.or_else r s
rule_of (R.Seq rs) = syntax.seq (rules_of rs)
rule_of (R.Fn x f) = syntax.function x (function_of f)
