-- Optics as plain data: which values each takes, what it finds in them, and a value with something done at what it finds.
use Rattle.std.specs.Prelude.{ℕ, ◌+◌, List, [], ◌∷◌, map, Option, Some, None, is_some, IsTrue, if◌then◌else◌, option_to_list}
use Rattle.std.specs.List.{flat_map, AllByRecursion}
use Rattle.mig_value.specs.Typed.{Typed, list, left, right, rec, point, items, items_of}
use Rattle.mig_path.specs.declared.side.Side.{Side}
use Rattle.mig_path.specs.declared.side.Side.TheVariants.{Left, Right}
use Rattle.mig_path.specs.Fields.{null, value_under, with_value_under, tag_of, has_literal}

pub data Path : Type 0 where
  here : Path
  field_at : List ℕ → Path
  may_field : List ℕ → Path
  case_of : List ℕ → Path
  each : Path
  side : Side → Path
  cross : Path
  then_ : Path → Path → Path

-- the foci, in order
abbrev pub foci : Path → Typed → List Typed
foci here v = v ∷ []
foci (field_at x) v = option_to_list (value_under x v)
foci (may_field x) v = option_to_list (value_under x v)
foci (case_of l) v = if has_literal l v then v ∷ [] else []
foci each (list vs) = items vs
foci (side Left) (left v) = v ∷ []
foci (side Right) (right v) = v ∷ []
foci cross (point n v) = v ∷ []
foci (then_ p q) v = flat_map (foci q) (foci p v)
foci _ _ = []

-- the values that an optic takes
abbrev pub Takes : Path → Typed → Type 0
Takes here v = Unit {0}
Takes (field_at x) v = IsTrue (is_some (value_under x v))
Takes (may_field x) (rec fs tag cs rs) = Unit {0}
Takes (case_of l) v = IsTrue (is_some (tag_of v))
Takes each (list vs) = Unit {0}
Takes (side s) (left v) = Unit {0}
Takes (side s) (right v) = Unit {0}
Takes cross (point n v) = Unit {0}
Takes (then_ p q) v = Takes p v × AllByRecursion (Takes q) (foci p v)
Takes _ _ = ⊥

abbrev pub total_of : {A : Type 0} → (A → ℕ) → List A → ℕ
total_of f [] = 0
total_of f (x ∷ xs) = f x + total_of f xs

-- how many nodes are crossed on the way to the foci
abbrev pub crossed : Path → Typed → ℕ
crossed cross v = 1
crossed (then_ p q) v = crossed p v + total_of (crossed q) (foci p v)
crossed _ v = 0

-- the record value with f done at the value under a name, where there is one
abbrev pub over_field : List ℕ → (Typed → Typed) → Option Typed → Typed → Typed
over_field x f None v = v
over_field x f (Some w) v = with_value_under x (f w) v

-- the value with f done at each focus
abbrev pub over : Path → (Typed → Typed) → Typed → Typed
over here f v = f v
over (field_at x) f v = over_field x f (value_under x v) v
over (may_field x) f v = over_field x f (value_under x v) v
over (case_of l) f v = if has_literal l v then f v else v
over each f (list vs) = list (items_of (map f (items vs)))
over (side Left) f (left v) = left (f v)
over (side Right) f (right v) = right (f v)
over cross f (point n v) = point n (f v)
over (then_ p q) f v = over p (over q f) v
over _ f v = v

-- the value with each focus replaced by Null
abbrev pub frame : Path → Typed → Typed
frame o v = over o (λ w. null) v
