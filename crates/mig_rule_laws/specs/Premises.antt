-- What the laws ask of trees, of templates, and of what rules bring.
use Rattle.std.specs.Prelude.{◌≡◌, Bool, true, false, IsTrue}
use Rattle.std.specs.List.{AllByRecursion}
use Rattle.mig_model.specs.declared.form.Form.{Form}
use Rattle.mig_model.specs.declared.kind.Kind.{Kind}
use Rattle.mig_model.specs.Plain as plain
use Rattle.mig_model.specs.Plain.{Plain, Trees, no_tree, tree, Pairs, no_pair, pair, entries}
use Rattle.mig_model.specs.Names.{Ascends}
use Rattle.mig_model.specs.Template.{Template, fields_of, is_of_form}
use Rattle.mig_model.specs.TemplateKept.{TemplateKept, FieldsKept}
use Rattle.mig_model.specs.Family.{any_inside, any_in_fields, is_wrong_leaf}
use Rattle.mig_model.specs.Inhabits.{is_in_form}
use Rattle.mig_laws.specs.Sides.{SumsApart}
use Rattle.mig_field.specs.FieldFn.{FieldOp, add, add_case, fill_template}
use Rattle.mig_rule.specs.Rule as rule
use Rattle.mig_rule.specs.Rule.{Rule}
use Rattle.mig_rule.specs.Spelled.{op_kinds}

-- the names of each map in the tree ascend
abbrev mutual
  pub AllAscend : Plain → Type 0
  AllAscend (plain.list ts) = ItemsAscend ts
  AllAscend (plain.map ps) = Ascends (entries ps) × TreesAscend ps
  AllAscend t = Unit {0}

  pub ItemsAscend : Trees → Type 0
  ItemsAscend no_tree = Unit {0}
  ItemsAscend (tree t ts) = AllAscend t × ItemsAscend ts

  pub TreesAscend : Pairs → Type 0
  TreesAscend no_pair = Unit {0}
  TreesAscend (pair n t ps) = AllAscend t × TreesAscend ps

-- the tree is of the form, and the names of each map in it ascend
pub record IsTidy (form : Form) (t : Plain) : Type 0 where
  pub ascend : AllAscend t
  pub formed : IsTrue (is_in_form form t)

-- in the template records are in order, the sides of sums are told apart, and leaves are of leaf kinds of the form
pub record IsSound (form : Form) (V : Template) : Type 0 where
  pub kept : TemplateKept V
  pub apart : SumsApart form V
  pub right : any_inside (is_wrong_leaf form) V ≡ false

abbrev pub IsOfForm : Form → Kind → Type 0
IsOfForm form k = is_of_form form k ≡ true

-- the templates that an operation brings are in order and of the form, and so are the kinds that it names
abbrev pub OpSound : Form → FieldOp → Type 0
OpSound form (add x c) = TemplateKept (fill_template c) × (any_inside (is_wrong_leaf form) (fill_template c) ≡ false)
OpSound form (add_case b fs) = FieldsKept (fields_of fs) × (any_in_fields (is_wrong_leaf form) (fields_of fs) ≡ false)
OpSound form op = AllByRecursion (IsOfForm form) (op_kinds op)

-- so it is of each function in the rule
abbrev pub RuleSound : Form → Rule → Type 0
RuleSound form rule.nop = Unit {0}
RuleSound form (rule.function f) = OpSound form f.op
RuleSound form (rule.on n r) = RuleSound form r
RuleSound form (rule.at x r) = RuleSound form r
RuleSound form (rule.seq r s) = RuleSound form r × RuleSound form s
RuleSound form (rule.or_else r s) = RuleSound form r × RuleSound form s
RuleSound form (rule.all r) = RuleSound form r
RuleSound form (rule.everywhere r) = RuleSound form r
