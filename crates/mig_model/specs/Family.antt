-- Families of named templates: when one is formed.
use Rattle.std.specs.Prelude.{◌≡◌, ℕ, suc, max, List, [], ◌∷◌, length, map, Bool, true, false, not, ◌&&◌, ◌||◌, Option, Some, None, is_some, unwrap_or, option_and_then, nat_lt, if◌then◌else◌}
use Rattle.std.specs.List.{list_any}
use Rattle.mig_model.specs.declared.form.Form.{Form}
use Rattle.mig_model.specs.declared.kind.Kind.{Kind}
use Rattle.mig_model.specs.declared.kind.Kind.TheVariants as K
use Rattle.mig_model.specs.declared.presence.Presence.{Presence}
use Rattle.mig_model.specs.declared.presence.Presence.TheVariants.{Must}
use Rattle.mig_model.specs.Template.{Template, leaf, any, list, point, rec, sum, Fields, no_field, field, Choice, no_choice, choice, Cases, no_case, case, is_of_form, is_nbt, is_leaf, has_kind}
use Rattle.mig_model.specs.Names.{same_name, has_twice}
use Rattle.mig_model.specs.Fields.{find_field, is_field, is_in_choice}

-- the version stands under a path of names from the root
pub record Family : Type 0 where
  pub form : Form
  pub version : List (List ℕ)
  pub types : List (List ℕ × Template)
  pub root : List ℕ

-- the template of the first such named type
abbrev pub find_type : List ℕ → List (List ℕ × Template) → Option Template
find_type n [] = None
find_type n (t ∷ ts) = if same_name n t.0 then Some t.1 else find_type n ts

abbrev pub is_named : Family → List ℕ → Bool
is_named f n = is_some (find_type n f.types)

abbrev pub body : Family → List ℕ → Template
body f n = unwrap_or (find_type n f.types) any

-- the test holds of a template in this one, itself among them
abbrev mutual
  pub any_inside : (Template → Bool) → Template → Bool
  any_inside p (list V) = p (list V) || any_inside p V
  any_inside p (rec fs c r) = p (rec fs c r) || (any_in_fields p fs || any_in_choice p c)
  any_inside p (sum V W) = p (sum V W) || (any_inside p V || any_inside p W)
  any_inside p V = p V

  pub any_in_fields : (Template → Bool) → Fields → Bool
  any_in_fields p no_field = false
  any_in_fields p (field x q V fs) = any_inside p V || any_in_fields p fs

  pub any_in_choice : (Template → Bool) → Choice → Bool
  any_in_choice p no_choice = false
  any_in_choice p (choice tag cs kept) = any_in_cases p cs

  pub any_in_cases : (Template → Bool) → Cases → Bool
  any_in_cases p no_case = false
  any_in_cases p (case l fs cs) = any_in_fields p fs || any_in_cases p cs

-- how many templates stand on the longest way down, this one counted
abbrev mutual
  pub nests : Template → ℕ
  nests (list V) = suc (nests V)
  nests (rec fs c r) = suc (max (fields_nest fs) (choice_nests c))
  nests (sum V W) = suc (max (nests V) (nests W))
  nests V = 1

  pub fields_nest : Fields → ℕ
  fields_nest no_field = 0
  fields_nest (field x p V fs) = max (nests V) (fields_nest fs)

  pub choice_nests : Choice → ℕ
  choice_nests no_choice = 0
  choice_nests (choice tag cs kept) = cases_nest cs

  pub cases_nest : Cases → ℕ
  cases_nest no_case = 0
  cases_nest (case l fs cs) = max (fields_nest fs) (cases_nest cs)

-- the root kinds, where a point has those of its named body
abbrev pub has_kind_in : Family → Template → Kind → Bool
has_kind_in f (point n) k = has_kind f.form (body f n) k
has_kind_in f V k = has_kind f.form V k

abbrev pub kinds : List Kind
kinds = K.Byte ∷ K.Short ∷ K.Int ∷ K.Long ∷ K.Float ∷ K.Double ∷ K.Text ∷ K.Bytes ∷ K.Ints ∷ K.Longs ∷ K.List ∷ K.Map ∷ K.Null ∷ K.Bool ∷ K.Whole ∷ []

abbrev pub is_wrong_leaf : Form → Template → Bool
is_wrong_leaf form (leaf k) = not (is_leaf k && is_of_form form k)
is_wrong_leaf form V = false

abbrev pub is_unknown : Family → Template → Bool
is_unknown f (point n) = not (is_named f n)
is_unknown f V = false

abbrev pub is_point : Template → Bool
is_point (point n) = true
is_point V = false

-- a point occurs in it
abbrev pub has_point : Template → Bool
has_point = any_inside is_point

abbrev pub has_point_side : Template → Bool
has_point_side (sum V W) = is_point V || is_point W
has_point_side V = false

abbrev pub sides_overlap : Form → Template → Bool
sides_overlap form (sum V W) = list_any (λ k. has_kind form V k && has_kind form W k) kinds
sides_overlap form V = false

-- exactly one kind of the list has the test
abbrev pub is_one : (Kind → Bool) → List Kind → Bool
is_one p [] = false
is_one p (k ∷ ks) = if p k then not (list_any p ks) else is_one p ks

abbrev pub is_mixed : Family → Template → Bool
is_mixed f (list V) = not (is_one (has_kind_in f V) kinds)
is_mixed f V = false

abbrev pub is_record : Template → Bool
is_record (rec fs c r) = true
is_record V = false

abbrev pub uses_name : List ℕ → Template → Bool
uses_name x (rec fs c r) = is_field x fs || is_in_choice x c
uses_name x V = false

-- the template of a Must field
abbrev pub of_must : Option (Presence × Template) → Option Template
of_must (Some (Must, V)) = Some V
of_must o = None

-- the template of the common Must field of that name
abbrev pub must_field : List ℕ → Template → Option Template
must_field x (rec fs c r) = of_must (find_field x fs)
must_field x V = None

-- a point's named body; any other template itself
abbrev pub behind_point : Family → Template → Template
behind_point f (point n) = body f n
behind_point f V = V

-- the last template of the way of the version path from V: each name but the last is a common Must field, behind whose point, if it has one, the way goes on; none where one isn't
abbrev pub way_end : Family → List (List ℕ) → Template → Option Template
way_end f (x ∷ (y ∷ xs)) V = option_and_then (λ W. way_end f (y ∷ xs) (behind_point f W)) (must_field x V)
way_end f xs V = Some V

abbrev pub version_record : Family → Option Template
version_record f = way_end f f.version (body f f.root)

abbrev pub last_name : List (List ℕ) → List ℕ
last_name [] = []
last_name (x ∷ []) = x
last_name (x ∷ (y ∷ xs)) = last_name (y ∷ xs)

-- the test holds of what is there
abbrev pub holds : {A : Type 0} → (A → Bool) → Option A → Bool
holds p None = false
holds p (Some a) = p a

-- the eleven faults of a family
pub data Flaw : Type 0 where
  twice_named too_many too_deep wrong_kind unknown_name unguarded sum_overlap mixed_list root_not_record version_path version_name_used : Flaw

abbrev pub any_type : (Template → Bool) → Family → Bool
any_type p f = list_any (λ t. p t.1) f.types

abbrev pub has_flaw : Flaw → Family → Bool
has_flaw twice_named f = has_twice (map (λ t. t.0) f.types)
has_flaw too_many f = nat_lt 512 (length f.types)
has_flaw too_deep f = any_type (λ V. nat_lt 64 (nests V)) f
has_flaw wrong_kind f = any_type (any_inside (is_wrong_leaf f.form)) f
has_flaw unknown_name f = any_type (any_inside (is_unknown f)) f || not (is_named f f.root)
has_flaw unguarded f = any_type (λ V. is_point V || any_inside has_point_side V) f
has_flaw sum_overlap f = any_type (any_inside (sides_overlap f.form)) f
has_flaw mixed_list f = is_nbt f.form && any_type (any_inside (is_mixed f)) f
has_flaw root_not_record f = not (is_record (body f f.root))
has_flaw version_path f = not (holds is_record (version_record f))
has_flaw version_name_used f = holds (uses_name (last_name f.version)) (version_record f)

abbrev pub flaws : List Flaw
flaws = twice_named ∷ too_many ∷ too_deep ∷ wrong_kind ∷ unknown_name ∷ unguarded ∷ sum_overlap ∷ mixed_list ∷ root_not_record ∷ version_path ∷ version_name_used ∷ []

-- the first fault in the order of the ten, or none where the family is formed
abbrev pub first_of : List Flaw → Family → Option Flaw
first_of [] f = None
first_of (w ∷ ws) f = if has_flaw w f then Some w else first_of ws f

abbrev pub first_flaw : Family → Option Flaw
first_flaw f = first_of flaws f

abbrev pub IsFormed : Family → Type 0
IsFormed f = first_flaw f ≡ None

-- form, version path, root, the set of names and each body are equal; the order of the types doesn't count
pub record IsSame (f g : Family) : Type 0 where
  pub form : f.form ≡ g.form
  pub version : f.version ≡ g.version
  pub root : f.root ≡ g.root
  pub types : (n : List ℕ) → find_type n f.types ≡ find_type n g.types
