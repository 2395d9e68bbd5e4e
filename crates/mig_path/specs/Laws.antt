-- The laws of optics.
use Rattle.std.specs.Prelude.{◌≡◌, List, length, map}
use Rattle.std.specs.List.{flat_map, AllByRecursion}
use Rattle.mig_value.specs.Typed.{Typed}
use Rattle.mig_path.specs.Fields.{null}
use Rattle.mig_path.specs.Path.{Path, then_, foci, Takes, crossed, over, frame}
use Rattle.mig_path.specs.Rest.{rest_for, join, FitsFoci, GivesBack}

-- rejoining what was parted gives the value
abbrev pub PartedRejoins : Type 0
PartedRejoins = (o : Path) (v : Typed) → Takes o v → join (rest_for o v) (foci o v) ≡ v

-- what was parted may be rejoined, and its foci can be given back
pub record CanRejoin (o : Path) (v : Typed) : Type 0 where
  pub fits : FitsFoci (rest_for o v) (length (foci o v))
  pub gives_back : GivesBack o (rest_for o v) (foci o v)

abbrev pub PartsCanRejoin : Type 0
PartsCanRejoin = (o : Path) (v : Typed) → Takes o v → CanRejoin o v

-- the optic takes the value and parts it into these foci and this rest, and crosses so many nodes as in another value
pub record PartsInto (o : Path) (v : Typed) (fs : List Typed) (old : Typed) : Type 0 where
  pub takes : Takes o v
  pub foci_are : foci o v ≡ fs
  pub rest_is : rest_for o v ≡ rest_for o old
  pub crosses : crossed o v ≡ crossed o old

-- parting what was rejoined gives the new foci and the same rest
abbrev pub RejoinedParts : Type 0
RejoinedParts = (o : Path) (v : Typed) (fs : List Typed) → Takes o v → length fs ≡ length (foci o v) → GivesBack o (rest_for o v) fs → PartsInto o (join (rest_for o v) fs) fs v

-- the foci of an optic after another are those that the second has in the foci of the first
abbrev pub ThenComposes : Type 0
ThenComposes = (p q : Path) (v : Typed) → foci (then_ p q) v ≡ flat_map (foci q) (foci p v)

-- rejoined with the changed foci, a value is changed at each focus
abbrev pub JoinIsOver : Type 0
JoinIsOver = (o : Path) (f : Typed → Typed) (v : Typed) → Takes o v → join (rest_for o v) (map f (foci o v)) ≡ over o f v

-- rejoined with Null for each focus, a value is its frame
abbrev pub RestIsFrame : Type 0
RestIsFrame = (o : Path) (v : Typed) → Takes o v → join (rest_for o v) (map (λ w. null) (foci o v)) ≡ frame o v

-- the frame determines the rest, and with the foci the value
pub record IsDetermined (o : Path) (v w : Typed) : Type 0 where
  pub rest : rest_for o v ≡ rest_for o w
  pub value : foci o v ≡ foci o w → v ≡ w

abbrev pub FrameDetermines : Type 0
FrameDetermines = (o : Path) (v w : Typed) → Takes o v → Takes o w → frame o v ≡ frame o w → IsDetermined o v w

-- what is done at the foci alone decides the value
abbrev pub OverReads : Type 0
OverReads = (o : Path) (f g : Typed → Typed) (v : Typed) → AllByRecursion (λ w. f w ≡ g w) (foci o v) → over o f v ≡ over o g v
