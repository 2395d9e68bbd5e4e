-- What the faults of a family mean.
use Rattle.std.specs.Prelude.{◌≡◌, Bool, true, List, [], ◌∷◌, Option, Some, None}
use Rattle.mig_model.specs.Family.{Flaw}
use Rattle.mig_model.specs.Family as model
use Rattle.mig_schema.specs.declared.fault.SchemaFault.{SchemaFault}
use Rattle.mig_schema.specs.declared.fault.SchemaFault.TheVariants as S

abbrev pub flaw_of : SchemaFault → Option Flaw
flaw_of S.TwiceNamed = Some model.twice_named
flaw_of S.TooMany = Some model.too_many
flaw_of S.TooDeep = Some model.too_deep
flaw_of S.WrongKind = Some model.wrong_kind
flaw_of S.UnknownName = Some model.unknown_name
flaw_of S.Unguarded = Some model.unguarded
flaw_of S.SumOverlap = Some model.sum_overlap
flaw_of S.MixedList = Some model.mixed_list
flaw_of S.RootNotRecord = Some model.root_not_record
flaw_of S.VersionPath = Some model.version_path
flaw_of S.VersionNameUsed = Some model.version_name_used
flaw_of S.Memory = None

-- the fault is the first one of the family; want of memory says nothing
abbrev pub IsFamilyFault : SchemaFault → Option Flaw → Type 0
IsFamilyFault S.Memory first = Unit {0}
IsFamilyFault e first = first ≡ flaw_of e

-- a name occurs twice, or there is want of memory
abbrev pub IsTwice : SchemaFault → Bool → Type 0
IsTwice S.TwiceNamed twice = twice ≡ true
IsTwice S.Memory twice = Unit {0}
IsTwice e twice = ⊥

-- what was found is the first flaw, and nothing where there is none
abbrev pub IsFound : Option SchemaFault → Option Flaw → Type 0
IsFound None first = first ≡ None
IsFound (Some S.Memory) first = ⊥
IsFound (Some e) first = first ≡ flaw_of e

-- the flaws of the number of types and of one body by itself
abbrev pub first_flaws : List Flaw
first_flaws = model.too_many ∷ model.too_deep ∷ model.wrong_kind ∷ model.unknown_name ∷ model.unguarded ∷ []

-- the flaws that are looked for where there is none of those
abbrev pub later_flaws : List Flaw
later_flaws = model.sum_overlap ∷ model.mixed_list ∷ model.root_not_record ∷ model.version_path ∷ model.version_name_used ∷ []
