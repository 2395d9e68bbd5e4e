-- Lists of what has a name, by name: the pairs of a map, the fields of a record, its cases, the slots of a record value.
use Rattle.std.specs.Prelude.{ℕ, List, [], ◌∷◌, Bool, false, not, ◌||◌, Option, Some, None, is_some, map, if◌then◌else◌, option_and_then}
use Rattle.std.specs.Ordering.{nat_cmp, is_eq}
use Rattle.std.specs.declared.cmp.Ordering.{Ordering}
use Rattle.std.specs.Cmp.Lexicographic.{slice_cmp}
use Rattle.std.specs.List.{filter, list_any}
use Rattle.std.specs.List.Sorted.{IsStrictlySortedBy}
use Rattle.std.specs.BTreeMap.{insert_entry, is_at}
use Rattle.std.specs.Map.{keys_of, lookup, remove_entry}

-- names are ordered by their bytes
abbrev pub by_bytes : List ℕ → List ℕ → Ordering
by_bytes = slice_cmp nat_cmp

-- two names have the same bytes
abbrev pub same_name : List ℕ → List ℕ → Bool
same_name x y = is_eq (by_bytes x y)

-- the name is one of these
abbrev pub is_among : List (List ℕ) → List ℕ → Bool
is_among names n = list_any (same_name n) names

-- two of the names are equal
abbrev pub has_twice : List (List ℕ) → Bool
has_twice [] = false
has_twice (n ∷ ns) = list_any (same_name n) ns || has_twice ns

-- the names are distinct and ascend by bytes
abbrev pub Ascends : {A : Type 0} → List (List ℕ × A) → Type 0
Ascends es = IsStrictlySortedBy by_bytes (keys_of es)

-- the keys are distinct and ascend by bytes
abbrev pub AscendBy : {X : Type 0} → (X → List ℕ) → List X → Type 0
AscendBy key xs = IsStrictlySortedBy by_bytes (map key xs)

-- what stands under a name
abbrev pub under : {A : Type 0} → List ℕ → List (List ℕ × A) → Option A
under x es = lookup (is_at (by_bytes x)) es

abbrev pub has : {A : Type 0} → List ℕ → List (List ℕ × A) → Bool
has x es = is_some (under x es)

-- the list with a name taken out
abbrev pub without : {A : Type 0} → List ℕ → List (List ℕ × A) → List (List ℕ × A)
without x es = remove_entry (is_at (by_bytes x)) es

-- the list with something under a name, at its place by the order of bytes and instead of what stands there
abbrev pub put : {A : Type 0} → List ℕ → A → List (List ℕ × A) → List (List ℕ × A)
put x a es = insert_entry by_bytes es x a

-- the same, where there is something to put
abbrev pub bring : {A : Type 0} → List ℕ → Option A → List (List ℕ × A) → List (List ℕ × A)
bring x None es = es
bring x (Some a) es = put x a es

abbrev pub put_all : {A : Type 0} → List (List ℕ × A) → List (List ℕ × A) → List (List ℕ × A)
put_all [] es = es
put_all (n ∷ ns) es = put n.0 n.1 (put_all ns es)

-- the list in the order of its names, or none where two of them are equal
abbrev pub gathered : {A : Type 0} → List (List ℕ × A) → Option (List (List ℕ × A))
gathered [] = Some []
gathered (e ∷ es) = option_and_then (λ fs. if has e.0 fs then None else Some (put e.0 e.1 fs)) (gathered es)

-- what stands under x stands under y: a name that is brought in is first taken out
abbrev pub moved : {A : Type 0} → List ℕ → List ℕ → List (List ℕ × A) → List (List ℕ × A)
moved x y es = bring y (under x es) (without y (without x es))

-- what stands under some names, and what stands under all others
abbrev pub those : {A : Type 0} → List (List ℕ) → List (List ℕ × A) → List (List ℕ × A)
those xs es = filter (λ e. is_among xs e.0) es

abbrev pub others : {A : Type 0} → List (List ℕ) → List (List ℕ × A) → List (List ℕ × A)
others xs es = filter (λ e. not (is_among xs e.0)) es

-- the list with something done to what stands under a name
abbrev pub changed : {A : Type 0} → List ℕ → (A → A) → List (List ℕ × A) → List (List ℕ × A)
changed x f es = map (λ e. (e.0, if same_name x e.0 then f e.1 else e.1)) es
