-- What the operations on one field make of it.
use Rattle.std.specs.Prelude.{Option, Some, None}
use Rattle.mig_model.specs.declared.kind.Kind.{Kind}
use Rattle.mig_model.specs.Leaf.{LeafFn, leaf_out}
use Rattle.mig_model.specs.Template.{list}
use Rattle.mig_field.specs.FieldFn.{FieldOp, default, maybe, map_leaf, wrap, unify}
use Rattle.mig_field.specs.NewRecord.{FieldType, filled, lessened, leaf_after, leaf_of_both, common_kind, with_template}

-- the kind that both functions give
abbrev pub common_out : LeafFn → LeafFn → Kind → Kind → Option Kind
common_out f g a b = common_kind (leaf_out f a) (leaf_out g b)

-- what becomes of the field's presence and template; none for an operation on other than one field
abbrev pub slot_after : FieldOp → FieldType → Option FieldType
slot_after (default x c) s = filled c s
slot_after (maybe x) s = lessened s
slot_after (map_leaf x f) s = with_template (leaf_after f) s
slot_after (wrap x) s = with_template (λ V. Some (list V)) s
slot_after (unify x f g) s = with_template (leaf_of_both f g) s
slot_after op s = None
