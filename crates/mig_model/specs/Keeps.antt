-- What every tree of the program keeps: numbers within their widths, lengths that a machine word holds, and names that are distinct and ascend.
use Rattle.std.specs.Prelude.{ℕ, ◌^◌, ◌<◌, List, length, FitsSigned}
use Rattle.std.specs.Int.{w8, w16, w32, w64}
use Rattle.mig_model.specs.Plain.{Plain, byte, short, int, long, float, double, text, bytes, ints, longs, list, map, null, boolean, whole, Trees, no_tree, tree, Pairs, no_pair, pair, items, entries, trees_of, pairs_of}
use Rattle.mig_model.specs.Names.{Ascends}

abbrev pub IsShort : {A : Type 0} → List A → Type 0
IsShort xs = length xs < 2 ^ 64

abbrev mutual
  pub Keeps : Plain → Type 0
  Keeps (byte z) = FitsSigned w8 z
  Keeps (short z) = FitsSigned w16 z
  Keeps (int z) = FitsSigned w32 z
  Keeps (long z) = FitsSigned w64 z
  Keeps (whole z) = FitsSigned w64 z
  Keeps (float n) = n < 2 ^ 32
  Keeps (double n) = n < 2 ^ 64
  Keeps (text s) = IsShort s
  Keeps (bytes s) = IsShort s
  Keeps (ints s) = IsShort s
  Keeps (longs s) = IsShort s
  Keeps (list ts) = IsShort (items ts) × AllKeep ts
  Keeps (map ps) = Ascends (entries ps) × IsShort (entries ps) × AllPairsKeep ps
  Keeps null = Unit {0}
  Keeps (boolean b) = Unit {0}

  pub AllKeep : Trees → Type 0
  AllKeep no_tree = Unit {0}
  AllKeep (tree t ts) = Keeps t × AllKeep ts

  pub AllPairsKeep : Pairs → Type 0
  AllPairsKeep no_pair = Unit {0}
  AllPairsKeep (pair name t ps) = IsShort name × Keeps t × AllPairsKeep ps

-- the items of one list
abbrev pub ItemsKeep : List Plain → Type 0
ItemsKeep ts = IsShort ts × AllKeep (trees_of ts)

-- the pairs of one map
abbrev pub EntriesKeep : List (List ℕ × Plain) → Type 0
EntriesKeep ps = Ascends ps × IsShort ps × AllPairsKeep (pairs_of ps)
