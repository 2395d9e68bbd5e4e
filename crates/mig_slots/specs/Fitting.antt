-- What leaf functions ask of the value that they meet.
use Rattle.std.specs.Prelude.{is_some, IsTrue, if◌then◌else◌}
use Rattle.mig_model.specs.declared.kind.Kind.{Kind}
use Rattle.mig_model.specs.Kinds.{kind_of}
use Rattle.mig_model.specs.Leaf.{LeafFn, leaf_out}
use Rattle.mig_model.specs.Template.{same_kind}
use Rattle.mig_value.specs.Typed.{Typed, atom, left, right}

-- the function fits the kind
abbrev pub FitsKind : LeafFn → Kind → Type 0
FitsKind f k = IsTrue (is_some (leaf_out f k))

-- where an atom stands, the function fits its kind
abbrev pub FitsAtom : LeafFn → Typed → Type 0
FitsAtom f (atom t) = FitsKind f (kind_of t)
FitsAtom f v = Unit {0}

-- where an atom stands, the first function fits its kind if that is the kind given, and else the second
abbrev pub OneFitsAtom : LeafFn → LeafFn → Kind → Typed → Type 0
OneFitsAtom f g k (atom t) = FitsKind (if same_kind (kind_of t) k then f else g) (kind_of t)
OneFitsAtom f g k v = Unit {0}

-- the same of the value in a side
abbrev pub OneFitsSide : LeafFn → LeafFn → Kind → Typed → Type 0
OneFitsSide f g k (left v) = OneFitsAtom f g k v
OneFitsSide f g k (right v) = OneFitsAtom f g k v
OneFitsSide f g k v = Unit {0}
