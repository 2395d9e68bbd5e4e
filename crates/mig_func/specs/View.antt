-- What a field function is, wherever its names lie in memory.
use Rattle.std.specs.Prelude.{map}
use Rattle.mig_func.specs.declared.fill.Fill.{Fill}
use Rattle.mig_func.specs.declared.fill.Fill.TheVariants as fills
use Rattle.mig_func.specs.declared.function.Scope.{Scope}
use Rattle.mig_func.specs.declared.function.Scope.TheVariants as scopes
use Rattle.mig_func.specs.declared.function.FieldOp.{FieldOp}
use Rattle.mig_func.specs.declared.function.FieldOp.TheVariants as ops
use Rattle.mig_func.specs.declared.function.FieldFn.{FieldFn}
use Rattle.mig_field.specs.FieldFn as model
use Rattle.mig_leaf.specs.View.{const_of, leaf_fn_of}
use Rattle.mig_template.specs.View.{template_of, field_of}

abbrev pub fill_of : Fill → model.Fill
fill_of (fills.Const c) = model.constant (const_of c)
fill_of (fills.EmptyList t) = model.empty_list (template_of t)

abbrev pub scope_of : Scope → model.Scope
scope_of scopes.Common = model.common
scope_of (scopes.Case l) = model.in_case l

abbrev pub field_op_of : FieldOp → model.FieldOp
field_op_of (ops.Rename x y) = model.rename x y
field_op_of (ops.Drop x) = model.drop x
field_op_of (ops.Add x f) = model.add x (fill_of f)
field_op_of (ops.Learn x k) = model.learn x k
field_op_of (ops.Forget x) = model.forget x
field_op_of (ops.Default x f) = model.default x (fill_of f)
field_op_of (ops.MayBe x) = model.maybe x
field_op_of (ops.Map x f) = model.map_leaf x (leaf_fn_of f)
field_op_of (ops.Nest xs y) = model.nest xs y
field_op_of (ops.Unnest y) = model.unnest y
field_op_of (ops.Wrap x) = model.wrap x
field_op_of (ops.Unify x f g) = model.unify x (leaf_fn_of f) (leaf_fn_of g)
field_op_of (ops.Retag a b) = model.retag a b
field_op_of (ops.AddCase b fs) = model.add_case b fs

abbrev pub field_fn_of : FieldFn → model.FieldFn
field_fn_of f = record { scope = scope_of f.scope; op = field_op_of f.op }
