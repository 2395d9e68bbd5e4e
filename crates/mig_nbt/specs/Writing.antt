-- The canonical text of a tree.
use Rattle.std.specs.Prelude.{◌≡◌, ℕ, ◌*◌, ◌/◌, ◌^◌, ◌<◌, List, [], ◌∷◌, ◌++◌, length}
use Rattle.std.specs.Int.{w8, w16, w32, w64, to_be_bytes, cast_unsigned}
use Rattle.mig_model.specs.Plain.{Plain, byte, short, int, long, float, double, text, bytes, ints, longs, list, map, null, boolean, whole, Trees, no_tree, tree, Pairs, no_pair, pair, items}
use Rattle.mig_nbt.specs.declared.tag.Tag.{Tag}
use Rattle.mig_nbt.specs.declared.tag.Tag.TheVariants as T
use Rattle.mig_nbt.specs.Format.{tag_number, Groups}

-- the tag of a tree; the kinds of JSON have none
abbrev pub tag_of_plain : Plain → Tag
tag_of_plain (byte z) = T.Byte
tag_of_plain (short z) = T.Short
tag_of_plain (int z) = T.Int
tag_of_plain (long z) = T.Long
tag_of_plain (float n) = T.Float
tag_of_plain (double n) = T.Double
tag_of_plain (text s) = T.Text
tag_of_plain (bytes s) = T.ByteArray
tag_of_plain (ints s) = T.IntArray
tag_of_plain (longs s) = T.LongArray
tag_of_plain (list ts) = T.Items
tag_of_plain (map ps) = T.Compound
tag_of_plain _ = T.End

-- the tag of the elements: that of the first, and End of an empty list
abbrev pub element_of : Trees → Tag
element_of no_tree = T.End
element_of (tree t ts) = tag_of_plain t

abbrev pub text_bytes : List ℕ → List ℕ
text_bytes s = to_be_bytes w16 (length s) ++ s

abbrev mutual
  -- the payload of a tree
  pub payload : Plain → List ℕ
  payload (byte z) = to_be_bytes w8 (cast_unsigned w8 z)
  payload (short z) = to_be_bytes w16 (cast_unsigned w16 z)
  payload (int z) = to_be_bytes w32 (cast_unsigned w32 z)
  payload (long z) = to_be_bytes w64 (cast_unsigned w64 z)
  payload (float n) = to_be_bytes w32 n
  payload (double n) = to_be_bytes w64 n
  payload (text s) = text_bytes s
  payload (bytes s) = to_be_bytes w32 (length s) ++ s
  payload (ints s) = to_be_bytes w32 (length s / 4) ++ s
  payload (longs s) = to_be_bytes w32 (length s / 8) ++ s
  payload (list ts) = tag_number (element_of ts) ∷ (to_be_bytes w32 (length (items ts)) ++ payloads ts)
  payload (map ps) = tags ps
  payload null = []
  payload (boolean b) = []
  payload (whole z) = []

  pub payloads : Trees → List ℕ
  payloads no_tree = []
  payloads (tree t ts) = payload t ++ payloads ts

  pub tags : Pairs → List ℕ
  tags no_pair = 0 ∷ []
  tags (pair name t ps) = tag_number (tag_of_plain t) ∷ (text_bytes name ++ (payload t ++ tags ps))

-- the canonical text of a named map
abbrev pub save_text : List ℕ → Plain → List ℕ
save_text name t = 10 ∷ (text_bytes name ++ payload t)

-- groups, and at most 65,535 bytes
abbrev pub IsName : List ℕ → Type 0
IsName s = Groups s × (length s < 2 ^ 16)

-- all of one tag
abbrev pub AreOf : Tag → Trees → Type 0
AreOf k no_tree = Unit {0}
AreOf k (tree t ts) = (tag_of_plain t ≡ k) × AreOf k ts

-- the kinds of NBT alone, lists of one kind, and within the bounds of the format
abbrev mutual
  pub IsSpelled : Plain → Type 0
  IsSpelled (text s) = IsName s
  IsSpelled (bytes s) = length s < 2 ^ 31
  IsSpelled (ints s) = (n : ℕ) × (length s ≡ n * 4) × (n < 2 ^ 31)
  IsSpelled (longs s) = (n : ℕ) × (length s ≡ n * 8) × (n < 2 ^ 31)
  IsSpelled (list ts) = (length (items ts) < 2 ^ 31) × AreOf (element_of ts) ts × AreSpelled ts
  IsSpelled (map ps) = ArePairsSpelled ps
  IsSpelled null = ⊥
  IsSpelled (boolean b) = ⊥
  IsSpelled (whole z) = ⊥
  IsSpelled _ = Unit {0}

  pub AreSpelled : Trees → Type 0
  AreSpelled no_tree = Unit {0}
  AreSpelled (tree t ts) = IsSpelled t × AreSpelled ts

  pub ArePairsSpelled : Pairs → Type 0
  ArePairsSpelled no_pair = Unit {0}
  ArePairsSpelled (pair name t ps) = IsName name × IsSpelled t × ArePairsSpelled ps
