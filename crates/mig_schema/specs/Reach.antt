-- Which names a named type reaches: by the points in its body, by those in the bodies of these, and so on.
use Rattle.std.specs.Prelude.{◌≡◌, ◌↔◌, ℕ, ◌<◌, ◌⊎◌, List, [], ◌∷◌, ◌++◌, length, map, get_or, Vec, Some, Contains, IsTrue}
use Rattle.std.specs.List.{filter_map, slice_get}
use Rattle.std.specs.Map.{values_of}
use Rattle.mig_model.specs.Family.{Family, body, is_named}
use Rattle.mig_model.specs.Template.{Template, leaf, any, list, point, rec, sum, Fields, no_field, field, Choice, no_choice, choice, Cases, no_case, case}
use Rattle.mig_schema.specs.Types.{Named, type_place}

-- the names of the points in a template
abbrev mutual
  pub points : Template → List (List ℕ)
  points (leaf k) = []
  points any = []
  points (list V) = points V
  points (point n) = n ∷ []
  points (rec fs c r) = field_points fs ++ choice_points c
  points (sum V W) = points V ++ points W

  pub field_points : Fields → List (List ℕ)
  field_points no_field = []
  field_points (field x p V fs) = points V ++ field_points fs

  pub choice_points : Choice → List (List ℕ)
  choice_points no_choice = []
  choice_points (choice tag cs kept) = case_points cs

  pub case_points : Cases → List (List ℕ)
  case_points no_case = []
  case_points (case l fs cs) = field_points fs ++ case_points cs

-- a name reaches itself, and it reaches what the points in its body reach
pub data Reaches (f : Family) : List ℕ → List ℕ → Type 0 where
  itself : {n : List ℕ} → Reaches f n n
  onward : {n m k : List ℕ} → Contains (points (body f n)) m → Reaches f m k → Reaches f n k

-- the places of those names that are types
abbrev pub places : List Named → List (List ℕ) → List ℕ
places ts ns = filter_map (type_place ts) ns

-- the places, in the order of declaration, are those of the types that the name reaches
abbrev pub ArePlacesReached : Family → List ℕ → List ℕ → Type 0
ArePlacesReached f from qs = (to : List ℕ) (q : ℕ) → type_place f.types to ≡ Some q → Contains qs q ↔ Reaches f from to

-- the name reaches one of these that is a named type
abbrev pub ReachesSome : Family → List ℕ → List (List ℕ) → Type 0
ReachesSome f from names = (to : List ℕ) × Contains names to × IsTrue (is_named f to) × Reaches f from to

-- the places, in the order of declaration, are those of the types that reach one of the names
abbrev pub ArePlacesReaching : Family → List (List ℕ) → List ℕ → Type 0
ArePlacesReaching f names qs = (from : List ℕ) (q : ℕ) → type_place f.types from ≡ Some q → Contains qs q ↔ ReachesSome f from names

-- a point in the body at the first place names the type at the second
abbrev pub Uses : List Named → ℕ → ℕ → Type 0
Uses ts p q = (V : Template) × (slice_get (values_of ts) p ≡ Some V) × Contains (places ts (points V)) q

-- for each type, the places of those among the first n that use it
pub record AreUsers (ts : List Named) (n : ℕ) (users : List (List ℕ)) : Type 0 where
  pub as_many : length users ≡ length ts
  pub all : (p q : ℕ) → Contains (get_or users q []) p ↔ ((p < n) × Uses ts p q)

-- the place is put to each of these lists, and nothing else is
pub record IsAddedToEach (lists : List ℕ) (place : ℕ) (old new : List (List ℕ)) : Type 0 where
  pub as_many : length new ≡ length old
  pub all : (p q : ℕ) → Contains (get_or new q []) p ↔ (Contains (get_or old q []) p ⊎ ((p ≡ place) × Contains lists q))

-- lists of places
abbrev pub lists_of : {A : Type 0} → Vec (Vec ℕ A) A → List (List ℕ)
lists_of lists = map (λ l. l.items) lists.items

-- as many lists with nothing in them
abbrev pub AreEmpty : ℕ → List (List ℕ) → Type 0
AreEmpty count lists = (length lists ≡ count) × ((q : ℕ) → get_or lists q [] ≡ [])
