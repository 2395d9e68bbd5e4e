-- Chains: schemas and the fixes between them, and the first step at which one isn't accepted.
use Rattle.std.specs.Prelude.{◌≡◌, ◌<◌, ◌≤◌, ℕ, zero, suc, List, [], ◌∷◌, Option, Some, None, option_map, unwrap_or, Result, Ok, Err, Contains, slice_get}
use Rattle.mig_model.specs.declared.form.Form.{Form}
use Rattle.mig_model.specs.Family.{Family, IsSame}
use Rattle.mig_model.specs.Version.{last_version}
use Rattle.mig_rule.specs.Rule.{Fix}
use Rattle.mig_rule.specs.Fix.{Refusal, no_name, missed, ill_formed, next}
use Rattle.mig_rule.specs.declared.fault.Walk.{Walk}
use Rattle.mig_rule.specs.declared.fault.Walk.TheVariants as W

-- a schema with its version, and its family where it gives one; a fix with its number
pub data ChainStep : Type 0 where
  schema : ℕ → Option Family → ChainStep
  fix : ℕ → Fix → ChainStep

abbrev pub Path : Type 0
Path = List (List ℕ)

-- the form, the version path, the version of a save that says none, and the steps
pub record Chain : Type 0 where
  pub form : Form
  pub version : Path
  pub missing : Option ℕ
  pub steps : List ChainStep

-- the version of the next schema
abbrev pub next_schema : List ChainStep → Option ℕ
next_schema [] = None
next_schema (schema v f ∷ steps) = Some v
next_schema (fix n x ∷ steps) = next_schema steps

-- the version is above that of the schema before, if there is one
abbrev pub IsAbove : Option ℕ → ℕ → Type 0
IsAbove None v = Unit {0}
IsAbove (Some u) v = u < v

-- the family has the form and the version path of the chain
abbrev pub IsOf : Form → Path → Option Family → Type 0
IsOf form path None = Unit {0}
IsOf form path (Some f) = (f.form ≡ form) × (f.version ≡ path)

-- a schema may stand behind that of version u
pub record InOrder (form : Form) (path : Path) (u : Option ℕ) (v : ℕ) (f : Option Family) : Type 0 where
  pub above : IsAbove u v
  pub bound : v ≤ last_version
  pub of_chain : IsOf form path f

-- what is known before a step: the version of the schema before, and the family now; nothing before the first step
abbrev pub Known : Type 0
Known = Option (ℕ × Family)

abbrev pub known_version : Known → Option ℕ
known_version s = option_map (λ t. t.0) s

-- the first step has to be a schema with a family
abbrev pub IsNoStart : Known → ChainStep → Type 0
IsNoStart None (schema v (Some f)) = ⊥
IsNoStart None x = Unit {0}
IsNoStart (Some s) x = ⊥

abbrev pub IsIllFormed : Result Family Refusal → Type 0
IsIllFormed (Err (ill_formed w)) = Unit {0}
IsIllFormed r = ⊥

-- what is wrong at a step, where these come later
abbrev pub IsWrong : Form → Path → Known → ChainStep → List ChainStep → Walk → Type 0
IsWrong form path s x later W.First = IsNoStart s x
IsWrong form path s (schema v f) later W.Order = InOrder form path (known_version s) v f → ⊥
IsWrong form path s (fix n x) later W.Number = next_schema later ≡ Some n → ⊥
IsWrong form path (Some s) (fix n x) later W.NoName = next x s.1 ≡ Err no_name
IsWrong form path (Some s) (fix n x) later W.Missed = next x s.1 ≡ Err missed
IsWrong form path (Some s) (fix n x) later W.IllFormed = IsIllFormed (next x s.1)
IsWrong form path (Some s) (schema v (Some f)) later W.Mismatch = IsSame s.1 f → ⊥
IsWrong form path s x later w = ⊥

-- the order in which they are looked for
abbrev pub rank : Walk → ℕ
rank W.First = 0
rank W.Order = 1
rank W.Number = 2
rank W.NoName = 3
rank W.Missed = 4
rank W.IllFormed = 5
rank W.Mismatch = 6

-- this is wrong, and nothing that is looked for before it
pub record IsFirst (P : Walk → Type 0) (w : Walk) : Type 0 where
  pub wrong : P w
  pub first : (v : Walk) → rank v < rank w → P v → ⊥

abbrev pub IsFamily : Result Family Refusal → Type 0
IsFamily (Ok f) = Unit {0}
IsFamily (Err e) = ⊥

abbrev pub IsSameAs : Family → Option Family → Type 0
IsSameAs now None = Unit {0}
IsSameAs now (Some f) = IsSame now f

-- nothing is wrong at the step
abbrev pub IsPassed : Form → Path → Known → ChainStep → List ChainStep → Type 0
IsPassed form path None (schema v (Some f)) later = InOrder form path None v (Some f)
IsPassed form path (Some s) (schema v f) later = InOrder form path (Some s.0) v f × IsSameAs s.1 f
IsPassed form path (Some s) (fix n x) later = (next_schema later ≡ Some n) × IsFamily (next x s.1)
IsPassed form path None x later = ⊥

-- the family after a fix that is accepted
abbrev pub family_or : Family → Result Family Refusal → Family
family_or f (Ok g) = g
family_or f (Err e) = f

abbrev pub family_next : Fix → Family → Family
family_next x f = family_or f (next x f)

-- what is known after a step
abbrev pub after : Known → ChainStep → Known
after s (schema v (Some f)) = Some (v, f)
after (Some s) (schema v None) = Some (v, s.1)
after (Some s) (fix n x) = Some (s.0, family_next x s.1)
after None x = None

-- nothing is wrong at any of the steps
abbrev pub ArePassed : Form → Path → Known → List ChainStep → Type 0
ArePassed form path s [] = Unit {0}
ArePassed form path s (x ∷ xs) = IsPassed form path s x xs × ArePassed form path (after s x) xs

-- the first step at which something is wrong is at place k, and this is the first that is
abbrev pub AreWrongAt : Form → Path → Known → List ChainStep → ℕ → Walk → Type 0
AreWrongAt form path s [] k w = ⊥
AreWrongAt form path s (x ∷ xs) zero w = IsFirst (IsWrong form path s x xs) w
AreWrongAt form path s (x ∷ xs) (suc k) w = IsPassed form path s x xs × AreWrongAt form path (after s x) xs k w

-- there are steps, and nothing is wrong at any
abbrev pub AreAccepted : Form → Path → List ChainStep → Type 0
AreAccepted form path [] = ⊥
AreAccepted form path (x ∷ xs) = ArePassed form path None (x ∷ xs)

abbrev pub IsAccepted : Chain → Type 0
IsAccepted c = AreAccepted c.form c.version c.steps

-- the first place at which something is wrong, and what; where there is no step, the first is missing
abbrev pub AreRefusedAt : Form → Path → List ChainStep → ℕ → Walk → Type 0
AreRefusedAt form path [] k w = (k ≡ 0) × (w ≡ W.First)
AreRefusedAt form path (x ∷ xs) k w = AreWrongAt form path None (x ∷ xs) k w

abbrev pub IsRefusedAt : Chain → ℕ → Walk → Type 0
IsRefusedAt c k w = AreRefusedAt c.form c.version c.steps k w

-- the versions of the schemas, in order
abbrev pub versions : List ChainStep → List ℕ
versions [] = []
versions (schema v f ∷ steps) = v ∷ versions steps
versions (fix n x ∷ steps) = versions steps

-- the fixes with their numbers, in order
abbrev pub fixes : List ChainStep → List (ℕ × Fix)
fixes [] = []
fixes (schema v f ∷ steps) = fixes steps
fixes (fix n x ∷ steps) = (n, x) ∷ fixes steps

-- the families of the schemas, in order
abbrev pub families_from : Family → List ChainStep → List Family
families_from now [] = []
families_from now (schema v f ∷ steps) = unwrap_or f now ∷ families_from (unwrap_or f now) steps
families_from now (fix n x ∷ steps) = families_from (family_next x now) steps

abbrev pub families : List ChainStep → List Family
families (schema v (Some f) ∷ steps) = f ∷ families_from f steps
families steps = []

-- at place p stands the greatest of the versions that aren't above v
pub record IsFloor (vs : List ℕ) (v p : ℕ) : Type 0 where
  pub version : ℕ
  pub there : slice_get vs p ≡ Some version
  pub not_above : version ≤ v
  pub greatest : (u : ℕ) → Contains vs u → u ≤ v → u ≤ version
