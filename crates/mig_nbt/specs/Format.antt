-- The NBT format, as a relation between bytes and trees.
use Rattle.std.specs.Prelude.{◌≡◌, ℕ, suc, ◌*◌, ◌<◌, ◌≤◌, ◌^◌, List, [], ◌∷◌, ◌++◌, length, IsPermutation}
use Rattle.std.specs.Int.{Width, w8, w16, w32, w64, byte_len, from_be_bytes, cast_signed}
use Rattle.mig_model.specs.declared.limits.TheConstants.{MOST_SAVE_BYTES}
use Rattle.mig_model.specs.Plain as plain
use Rattle.mig_model.specs.Plain.{Plain, trees_of, pairs_of}
use Rattle.mig_model.specs.Names.{Ascends}
use Rattle.mig_nbt.specs.declared.tag.Tag.{Tag}
use Rattle.mig_nbt.specs.declared.tag.Tag.TheVariants.{End, Byte, Short, Int, Long, Float, Double, ByteArray, Text, Items, Compound, IntArray, LongArray}

-- the number of a tag
abbrev pub tag_number : Tag → ℕ
tag_number End = 0
tag_number Byte = 1
tag_number Short = 2
tag_number Int = 3
tag_number Long = 4
tag_number Float = 5
tag_number Double = 6
tag_number ByteArray = 7
tag_number Text = 8
tag_number Items = 9
tag_number Compound = 10
tag_number IntArray = 11
tag_number LongArray = 12

-- the bytes are the big-endian number n
abbrev pub Number : Width → List ℕ → ℕ → Type 0
Number w b n = (length b ≡ byte_len w) × (n ≡ from_be_bytes w b)

-- a byte behind the first of a group
abbrev pub IsMore : ℕ → Type 0
IsMore b = (128 ≤ b) × (b < 192)

-- groups of one, two or three bytes, as `DataInput.readUTF` takes them
pub data Groups : List ℕ → Type 0 where
  none : Groups []
  one : {a : ℕ} {rest : List ℕ} → a < 128 → Groups rest → Groups (a ∷ rest)
  two : {a b : ℕ} {rest : List ℕ} → 192 ≤ a → a < 224 → IsMore b → Groups rest → Groups (a ∷ (b ∷ rest))
  three : {a b c : ℕ} {rest : List ℕ} → 224 ≤ a → a < 240 → IsMore b → IsMore c → Groups rest → Groups (a ∷ (b ∷ (c ∷ rest)))

-- two bytes of length, and that many bytes, which are groups
abbrev pub IsText : List ℕ → List ℕ → Type 0
IsText b s = (h : List ℕ) × (n : ℕ) × Number w16 h n × (n < 2 ^ 16) × (length s ≡ n) × Groups s × (b ≡ h ++ s)

-- a count that isn't negative, and that many elements of so many bytes
abbrev pub IsArray : ℕ → List ℕ → List ℕ → Type 0
IsArray size b s = (h : List ℕ) × (n : ℕ) × Number w32 h n × (n < 2 ^ 31) × (length s ≡ n * size) × (b ≡ h ++ s)

-- a payload with nothing inside
abbrev pub Leaf : Tag → List ℕ → Plain → Type 0
Leaf Byte b t = (n : ℕ) × Number w8 b n × (t ≡ plain.byte (cast_signed w8 n))
Leaf Short b t = (n : ℕ) × Number w16 b n × (t ≡ plain.short (cast_signed w16 n))
Leaf Int b t = (n : ℕ) × Number w32 b n × (t ≡ plain.int (cast_signed w32 n))
Leaf Long b t = (n : ℕ) × Number w64 b n × (t ≡ plain.long (cast_signed w64 n))
Leaf Float b t = (n : ℕ) × Number w32 b n × (t ≡ plain.float n)
Leaf Double b t = (n : ℕ) × Number w64 b n × (t ≡ plain.double n)
Leaf Text b t = (s : List ℕ) × IsText b s × (t ≡ plain.text s)
Leaf ByteArray b t = (s : List ℕ) × IsArray 1 b s × (t ≡ plain.bytes s)
Leaf IntArray b t = (s : List ℕ) × IsArray 4 b s × (t ≡ plain.ints s)
Leaf LongArray b t = (s : List ℕ) × IsArray 8 b s × (t ≡ plain.longs s)
Leaf _ b t = ⊥

-- one payload after another
abbrev pub Payloads : (List ℕ → Plain → Type 0) → List ℕ → List Plain → Type 0
Payloads P b [] = b ≡ []
Payloads P b (t ∷ ts) = (c : List ℕ) × (d : List ℕ) × (b ≡ c ++ d) × P c t × Payloads P d ts

-- an element's tag, a count that isn't negative, and so many payloads; no payload is of the tag End
abbrev pub IsList : (Tag → List ℕ → Plain → Type 0) → List ℕ → Plain → Type 0
IsList P b t = (e : Tag) × (h : List ℕ) × (n : ℕ) × (c : List ℕ) × (ts : List Plain)
    × (b ≡ tag_number e ∷ (h ++ c)) × Number w32 h n × (n < 2 ^ 31) × (length ts ≡ n) × Payloads (P e) c ts × (t ≡ plain.list (trees_of ts))

-- named tags, each its number, its name and its payload, and then one End
abbrev pub Tags : (Tag → List ℕ → Plain → Type 0) → List ℕ → List (List ℕ × Plain) → Type 0
Tags P b [] = b ≡ 0 ∷ []
Tags P b (q ∷ qs) = (k : Tag) × (c : List ℕ) × (d : List ℕ) × (e : List ℕ) × (b ≡ tag_number k ∷ (c ++ (d ++ e))) × IsText c q.0 × P k d q.1 × Tags P e qs

-- named tags with distinct names: their map has the pairs in the order of the names
abbrev pub IsCompound : (Tag → List ℕ → Plain → Type 0) → List ℕ → Plain → Type 0
IsCompound P b t = (qs : List (List ℕ × Plain)) × (ps : List (List ℕ × Plain)) × Tags P b qs × IsPermutation qs ps × Ascends ps × (t ≡ plain.map (pairs_of ps))

-- a payload in which lists and compounds nest at most so many levels deep
abbrev pub Payload : ℕ → Tag → List ℕ → Plain → Type 0
Payload (suc d) Items b t = IsList (Payload d) b t
Payload (suc d) Compound b t = IsCompound (Payload d) b t
Payload _ k b t = Leaf k b t

-- a file: one named Compound
abbrev pub NbtSave : List ℕ → List ℕ → Plain → Type 0
NbtSave b name t = (c : List ℕ) × (d : List ℕ) × (b ≡ 10 ∷ (c ++ d)) × IsText c name × Payload 512 Compound d t × (length b ≤ MOST_SAVE_BYTES)
