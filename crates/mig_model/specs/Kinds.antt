-- What a tree is, and what a map has.
use Rattle.std.specs.Prelude.{◌≡◌, ℕ, List, [], ◌∷◌, Option, None, refl}
use Rattle.std.proofs.Common.{ap}
use Rattle.mig_model.specs.Plain as plain
use Rattle.mig_model.specs.Plain.{Plain, trees_of, items, pairs_of, entries}
use Rattle.mig_model.specs.Names.{without, put, under}
use Rattle.mig_model.specs.declared.kind.Kind.{Kind}
use Rattle.mig_model.specs.declared.kind.Kind.TheVariants as K

abbrev pub kind_of : Plain → Kind
kind_of (plain.byte z) = K.Byte
kind_of (plain.short z) = K.Short
kind_of (plain.int z) = K.Int
kind_of (plain.long z) = K.Long
kind_of (plain.float n) = K.Float
kind_of (plain.double n) = K.Double
kind_of (plain.text s) = K.Text
kind_of (plain.bytes s) = K.Bytes
kind_of (plain.ints s) = K.Ints
kind_of (plain.longs s) = K.Longs
kind_of (plain.list ts) = K.List
kind_of (plain.map ps) = K.Map
kind_of plain.null = K.Null
kind_of (plain.boolean b) = K.Bool
kind_of (plain.whole z) = K.Whole

abbrev pub IsMap : Plain → Type 0
IsMap (plain.map ps) = Unit {0}
IsMap _ = ⊥

-- the tree under a name
abbrev pub get_in : List ℕ → Plain → Option Plain
get_in name (plain.map ps) = under name (entries ps)
get_in name _ = None

-- a map with a pair
abbrev pub put_in : List ℕ → Plain → Plain → Plain
put_in name t (plain.map ps) = plain.map (pairs_of (put name t (entries ps)))
put_in name t u = u

-- a map without a name
abbrev pub removed : List ℕ → Plain → Plain
removed name (plain.map ps) = plain.map (pairs_of (without name (entries ps)))
removed name u = u

pub entries_of_pairs : (ps : List (List ℕ × Plain)) → entries (pairs_of ps) ≡ ps
entries_of_pairs [] = refl
entries_of_pairs (p ∷ ps) = ap (λ l. p ∷ l) (entries_of_pairs ps)

pub items_of_trees : (ts : List Plain) → items (trees_of ts) ≡ ts
items_of_trees [] = refl
items_of_trees (t ∷ ts) = ap (λ l. t ∷ l) (items_of_trees ts)
