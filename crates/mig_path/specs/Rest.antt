-- What is left of a value without its foci, and how the two give it back.
use Rattle.std.specs.Prelude.{◌≡◌, ℕ, suc, ◌+◌, List, [], ◌∷◌, length, map, take, drop, Option, Some, None, IsTrue, if◌then◌else◌}
use Rattle.std.specs.List.{AllByRecursion}
use Rattle.mig_value.specs.Typed.{Typed, list, left, right, point, items, items_of}
use Rattle.mig_path.specs.declared.side.Side.TheVariants.{Left, Right}
use Rattle.mig_path.specs.Fields.{null, value_under, with_value_under, has_literal}
use Rattle.mig_path.specs.Path.{Path, here, field_at, may_field, case_of, each, side, cross, then_, foci}

-- The rest of a value: nothing where the value is its own focus, the value where it has no focus, a record value with Null under a name,
-- how many items a list has, the side of a sum, the name of a node, or, for an optic after another, the rest of the first with that of each of its foci.
mutual
  pub data Residual : Type 0 where
    whole : Residual
    stays : Typed → Residual
    hole : List ℕ → Typed → Residual
    many : ℕ → Residual
    in_left : Residual
    in_right : Residual
    named : List ℕ → Residual
    both : Residual → Groups → Residual

  -- for each focus of the first optic, how many foci the second has there, and its rest
  pub data Groups : Type 0 where
    no_group : Groups
    group : ℕ → Residual → Groups → Groups

abbrev pub groups_of : List (ℕ × Residual) → Groups
groups_of [] = no_group
groups_of (g ∷ gs) = group g.0 g.1 (groups_of gs)

abbrev pub field_rest : List ℕ → Option Typed → Typed → Residual
field_rest x None v = stays v
field_rest x (Some w) v = hole x (with_value_under x null v)

-- the rest of a value that the optic takes
abbrev pub rest_for : Path → Typed → Residual
rest_for here v = whole
rest_for (field_at x) v = field_rest x (value_under x v) v
rest_for (may_field x) v = field_rest x (value_under x v) v
rest_for (case_of l) v = if has_literal l v then whole else stays v
rest_for each (list vs) = many (length (items vs))
rest_for (side Left) (left v) = in_left
rest_for (side Right) (right v) = in_right
rest_for cross (point n v) = named n
rest_for (then_ p q) v = both (rest_for p v) (groups_of (map (λ w. (length (foci q w), rest_for q w)) (foci p v)))
rest_for _ v = stays v

-- how many foci a value has, and its rest
abbrev pub part_of : Path → Typed → ℕ × Residual
part_of o v = (length (foci o v), rest_for o v)

abbrev pub first_of : List Typed → Typed
first_of [] = null
first_of (v ∷ vs) = v

-- the value of this rest and these foci
abbrev mutual
  pub join : Residual → List Typed → Typed
  join whole fs = first_of fs
  join (stays v) fs = v
  join (hole x v) fs = with_value_under x (first_of fs) v
  join (many n) fs = list (items_of fs)
  join in_left fs = left (first_of fs)
  join in_right fs = right (first_of fs)
  join (named n) fs = point n (first_of fs)
  join (both r gs) fs = join r (joins gs fs)

  -- the foci of the first optic
  pub joins : Groups → List Typed → List Typed
  joins no_group fs = []
  joins (group n r gs) fs = join r (take n fs) ∷ joins gs (drop n fs)

abbrev pub group_count : Groups → ℕ
group_count no_group = 0
group_count (group n r gs) = suc (group_count gs)

abbrev pub total : Groups → ℕ
total no_group = 0
total (group n r gs) = n + total gs

-- how many foci a rest wants
abbrev pub count : Residual → ℕ
count whole = 1
count (stays v) = 0
count (hole x v) = 1
count (many n) = n
count in_left = 1
count in_right = 1
count (named n) = 1
count (both r gs) = total gs

-- each rest inside has as many groups as it wants foci, and each group as many foci as its rest wants
abbrev mutual
  pub IsFormed : Residual → Type 0
  IsFormed (both r gs) = IsFormed r × (group_count gs ≡ count r) × AreFormed gs
  IsFormed _ = Unit {0}

  pub AreFormed : Groups → Type 0
  AreFormed no_group = Unit {0}
  AreFormed (group n r gs) = IsFormed r × (n ≡ count r) × AreFormed gs

-- so many foci can be rejoined with the rest
abbrev pub FitsFoci : Residual → ℕ → Type 0
FitsFoci r n = IsFormed r × (n ≡ count r)

-- P holds of each group and its foci
abbrev pub EachGroup : (Residual → List Typed → Type 0) → Groups → List Typed → Type 0
EachGroup P no_group fs = Unit {0}
EachGroup P (group n r gs) fs = P r (take n fs) × EachGroup P gs (drop n fs)

-- the foci can be given back to the optic: to a case, record values of its literal; to an optic after another, foci that the second takes back, where the first takes back what the second rejoins of them
abbrev pub GivesBack : Path → Residual → List Typed → Type 0
GivesBack (case_of l) r fs = AllByRecursion (λ w. IsTrue (has_literal l w)) fs
GivesBack (then_ p q) (both r gs) fs = EachGroup (GivesBack q) gs fs × GivesBack p r (joins gs fs)
GivesBack (then_ p q) r fs = ⊥
GivesBack o r fs = Unit {0}
