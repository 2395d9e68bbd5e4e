-- The leaf of a value.
use Rattle.std.specs.Prelude.{Option, Some, None, if◌then◌else◌}
use Rattle.mig_model.specs.Plain.{Plain}
use Rattle.mig_model.specs.Kinds.{kind_of}
use Rattle.mig_model.specs.Template.{is_leaf}
use Rattle.mig_value.specs.Typed.{Typed, atom, list, left, right, rec, point}

-- the tree of a leaf kind that stands in an atom, also inside a side of a sum or a node
abbrev pub leaf_of : Typed → Option Plain
leaf_of (atom t) = if is_leaf (kind_of t) then Some t else None
leaf_of (list vs) = None
leaf_of (left v) = leaf_of v
leaf_of (right v) = leaf_of v
leaf_of (rec fs tag cs rs) = None
leaf_of (point n v) = leaf_of v
