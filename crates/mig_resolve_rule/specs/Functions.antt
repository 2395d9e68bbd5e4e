-- What the field functions of a text stand for, and what may be wrong with them.
use Rattle.std.specs.Prelude.{ℕ, List, Bool, true, false, ◌&&◌, ◌||◌, Option, Some, None}
use Rattle.mig_model.specs.declared.form.Form.{Form}
use Rattle.mig_model.specs.declared.kind.Kind.{Kind}
use Rattle.mig_field.specs.FieldFn as function
use Rattle.mig_field.specs.FieldFn.{Scope, Fill, FieldOp}
use Rattle.mig_syntax.specs.TemplateSyntax.{fields_of}
use Rattle.mig_syntax.specs.TemplateSyntax as template
use Rattle.mig_syntax.specs.RuleSyntax as syntax
use Rattle.mig_syntax.specs.RuleSyntax.{FillSyntax, FunctionSyntax}
use Rattle.mig_resolve_template.specs.Constants.{const_from, leaf_from, is_wrong_kind, const_is_wrong, leaf_is_wrong, const_in_range, leaf_in_range, leaf_is_twice}
use Rattle.mig_resolve_template.specs.Templates.{template_from, given_fields, template_is_wrong, fields_are_wrong, template_is_twice, fields_are_twice, nests_above, fields_nest_above, most_levels}

abbrev pub scope_from : Option (List ℕ) → Scope
scope_from None = function.common
scope_from (Some l) = function.in_case l

abbrev pub fill_from : FillSyntax → Fill
fill_from (syntax.const c) = function.constant (const_from c)
fill_from (syntax.empty_list t) = function.empty_list (template_from t)

-- the fields of an `addcase` stay in the order in which they are written
abbrev pub op_from : FunctionSyntax → FieldOp
op_from (syntax.rename x y) = function.rename x y
op_from (syntax.drop x) = function.drop x
op_from (syntax.add x c) = function.add x (fill_from c)
op_from (syntax.learn x k) = function.learn x k
op_from (syntax.forget x) = function.forget x
op_from (syntax.default x c) = function.default x (fill_from c)
op_from (syntax.maybe x) = function.maybe x
op_from (syntax.map x f) = function.map_leaf x (leaf_from f)
op_from (syntax.nest xs y) = function.nest xs y
op_from (syntax.unnest x) = function.unnest x
op_from (syntax.wrap x) = function.wrap x
op_from (syntax.unify x f g) = function.unify x (leaf_from f) (leaf_from g)
op_from (syntax.retag a b) = function.retag a b
op_from (syntax.add_case l fs) = function.add_case l (given_fields (fields_of fs))

-- ---- kind words
abbrev pub fill_is_wrong : Form → FillSyntax → Bool
fill_is_wrong form (syntax.const c) = const_is_wrong form c
fill_is_wrong form (syntax.empty_list t) = template_is_wrong form t

abbrev pub learns_wrong : Form → Option Kind → Bool
learns_wrong form None = false
learns_wrong form (Some k) = is_wrong_kind form k

abbrev pub function_is_wrong : Form → FunctionSyntax → Bool
function_is_wrong form (syntax.add x c) = fill_is_wrong form c
function_is_wrong form (syntax.learn x k) = learns_wrong form k
function_is_wrong form (syntax.default x c) = fill_is_wrong form c
function_is_wrong form (syntax.map x f) = leaf_is_wrong form f
function_is_wrong form (syntax.unify x f g) = leaf_is_wrong form f || leaf_is_wrong form g
function_is_wrong form (syntax.add_case l fs) = fields_are_wrong form (fields_of fs)
function_is_wrong form f = false

-- ---- numbers
abbrev pub fill_in_range : FillSyntax → Bool
fill_in_range (syntax.const c) = const_in_range c
fill_in_range (syntax.empty_list t) = true

abbrev pub function_in_range : FunctionSyntax → Bool
function_in_range (syntax.add x c) = fill_in_range c
function_in_range (syntax.default x c) = fill_in_range c
function_in_range (syntax.map x f) = leaf_in_range f
function_in_range (syntax.unify x f g) = leaf_in_range f && leaf_in_range g
function_in_range f = true

-- ---- names
abbrev pub fill_is_twice : FillSyntax → Bool
fill_is_twice (syntax.const c) = false
fill_is_twice (syntax.empty_list t) = template_is_twice t

abbrev pub function_is_twice : FunctionSyntax → Bool
function_is_twice (syntax.add x c) = fill_is_twice c
function_is_twice (syntax.default x c) = fill_is_twice c
function_is_twice (syntax.map x f) = leaf_is_twice f
function_is_twice (syntax.unify x f g) = leaf_is_twice f || leaf_is_twice g
function_is_twice (syntax.add_case l fs) = fields_are_twice (fields_of fs)
function_is_twice f = false

-- ---- nesting; the list of a fill counts
abbrev pub fill_nests_above : FillSyntax → Bool
fill_nests_above (syntax.const c) = false
fill_nests_above (syntax.empty_list t) = nests_above most_levels (template.list t)

abbrev pub function_is_deep : FunctionSyntax → Bool
function_is_deep (syntax.add x c) = fill_nests_above c
function_is_deep (syntax.default x c) = fill_nests_above c
function_is_deep (syntax.add_case l fs) = fields_nest_above most_levels (fields_of fs)
function_is_deep f = false
