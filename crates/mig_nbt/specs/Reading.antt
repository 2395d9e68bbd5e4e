-- Reading from left to right: a value and the bytes after it, or nothing.
use Rattle.std.specs.Prelude.{◌≡◌, ℕ, zero, suc, ◌*◌, ◌^◌, List, [], ◌∷◌, length, take, drop, Bool, true, false, ◌&&◌, Option, Some, None, Result, Ok, Err, nat_lt, nat_le, ◌||◌, ◌==◌, if◌then◌else◌}
use Rattle.std.specs.Int.{Width, w8, w16, w32, w64, byte_len, from_be_bytes, cast_signed}
use Rattle.mig_model.specs.declared.limits.TheConstants.{MOST_SAVE_BYTES}
use Rattle.mig_model.specs.Plain as plain
use Rattle.mig_model.specs.Plain.{Plain, trees_of, pairs_of}
use Rattle.mig_model.specs.Names.{gathered}
use Rattle.mig_nbt.specs.declared.error.NbtError.{NbtError}
use Rattle.mig_nbt.specs.declared.error.NbtError.TheVariants as errors
use Rattle.mig_nbt.specs.declared.tag.Tag.{Tag}
use Rattle.mig_nbt.specs.declared.tag.Tag.TheVariants.{End, Byte, Short, Int, Long, Float, Double, ByteArray, Text, Items, Compound, IntArray, LongArray}

infixl 10 ◌>>=◌
abbrev pub ◌>>=◌ : {A B : Type 0} → Option A → (A → Option B) → Option B
(Some x) >>= f = f x
None >>= f = None

abbrev pub Fails : {Y : Type 0} → NbtError → Option Y → Type 0
Fails errors.Memory read = Unit {0}
Fails errors.Wrong read = read ≡ None

-- what a function returned, seen by view, is what reading gives, unless memory ran out
abbrev pub Gives : {X Y : Type 0} → (X → Y) → Result X NbtError → Option Y → Type 0
Gives view (Ok x) read = read ≡ Some (view x)
Gives view (Err e) read = Fails e read

abbrev pub Read : Type 0 → Type 0
Read A = Option (A × List ℕ)

abbrev pub number_at : Width → List ℕ → Read ℕ
number_at w bytes = if nat_lt (length bytes) (byte_len w) then None else Some (from_be_bytes w (take (byte_len w) bytes), drop (byte_len w) bytes)

abbrev pub tag_of : ℕ → Option Tag
tag_of n =
    if n == 0 then Some End else (if n == 1 then Some Byte else (if n == 2 then Some Short else (if n == 3 then Some Int else (if n == 4 then Some Long
    else (if n == 5 then Some Float else (if n == 6 then Some Double else (if n == 7 then Some ByteArray else (if n == 8 then Some Text else (if n == 9 then Some Items
    else (if n == 10 then Some Compound else (if n == 11 then Some IntArray else (if n == 12 then Some LongArray else None))))))))))))

unfoldable pub tag_at : List ℕ → Read Tag
tag_at [] = None
tag_at (n ∷ rest) = do
  k ← tag_of n
  Some (k, rest)

-- the automaton that tells groups
abbrev pub is_more : ℕ → Bool
is_more b = nat_le 128 b && nat_lt b 192

-- how many more bytes the group of this byte has, behind a byte at which so many were still to come
abbrev pub still_to_come : ℕ → ℕ → Option ℕ
still_to_come zero b = if nat_lt b 128 then Some 0 else (if nat_le 192 b && nat_lt b 224 then Some 1 else (if nat_le 224 b && nat_lt b 240 then Some 2 else None))
still_to_come (suc n) b = if is_more b then Some n else None

-- with so many bytes still to come of the first group, the bytes are groups of one, two or three bytes, as `DataInput.readUTF` takes them
abbrev pub groups_from : Option ℕ → List ℕ → Bool
groups_from None b = false
groups_from (Some n) [] = n == 0
groups_from (Some n) (b ∷ bs) = groups_from (still_to_come n b) bs

abbrev pub are_groups : List ℕ → Bool
are_groups b = groups_from (Some 0) b

unfoldable pub text_at : List ℕ → Read (List ℕ)
text_at bytes = do
  n ← number_at w16 bytes
  if nat_le (2 ^ 16) n.0 || nat_lt (length n.1) n.0 then None else (if are_groups (take n.0 n.1) then Some (take n.0 n.1, drop n.0 n.1) else None)

unfoldable pub array_at : ℕ → List ℕ → Read (List ℕ)
array_at size bytes = do
  n ← number_at w32 bytes
  if nat_le (2 ^ 31) n.0 then None else (if nat_lt (length n.1) (n.0 * size) then None else Some (take (n.0 * size) n.1, drop (n.0 * size) n.1))

abbrev pub is_compound : Tag → Bool
is_compound Compound = true
is_compound _ = false

abbrev pub seen : {A B : Type 0} → (A → B) → Read A → Read B
seen f read = read >>= λ x. Some (f x.0, x.1)

unfoldable pub leaf_at : Tag → List ℕ → Read Plain
leaf_at Byte bytes = seen (λ n. plain.byte (cast_signed w8 n)) (number_at w8 bytes)
leaf_at Short bytes = seen (λ n. plain.short (cast_signed w16 n)) (number_at w16 bytes)
leaf_at Int bytes = seen (λ n. plain.int (cast_signed w32 n)) (number_at w32 bytes)
leaf_at Long bytes = seen (λ n. plain.long (cast_signed w64 n)) (number_at w64 bytes)
leaf_at Float bytes = seen plain.float (number_at w32 bytes)
leaf_at Double bytes = seen plain.double (number_at w64 bytes)
leaf_at Text bytes = seen plain.text (text_at bytes)
leaf_at ByteArray bytes = seen plain.bytes (array_at 1 bytes)
leaf_at IntArray bytes = seen plain.ints (array_at 4 bytes)
leaf_at LongArray bytes = seen plain.longs (array_at 8 bytes)
leaf_at _ bytes = None

unfoldable pub payloads_at : (List ℕ → Read Plain) → ℕ → List ℕ → Read (List Plain)
payloads_at value zero bytes = Some ([], bytes)
payloads_at value (suc n) bytes = do
  t ← value bytes
  ts ← payloads_at value n t.1
  Some (t.0 ∷ ts.0, ts.1)

unfoldable pub list_at : (Tag → List ℕ → Read Plain) → List ℕ → Read Plain
list_at value bytes = do
  e ← tag_at bytes
  n ← number_at w32 e.1
  if nat_le (2 ^ 31) n.0 then None else (payloads_at (value e.0) n.0 n.1 >>= λ ts. Some (plain.list (trees_of ts.0), ts.1))

abbrev pub is_end : Tag → Bool
is_end End = true
is_end _ = false

-- the named tags up to End, in the order of the file. Each takes a byte at least, so the count of the bytes bounds them.
unfoldable pub tags_at : (Tag → List ℕ → Read Plain) → ℕ → List ℕ → Read (List (List ℕ × Plain))
tags_at value zero bytes = None
tags_at value (suc n) bytes = do
  k ← tag_at bytes
  if is_end k.0 then Some ([], k.1) else (do
    s ← text_at k.1
    t ← value k.0 s.1
    qs ← tags_at value n t.1
    Some ((s.0, t.0) ∷ qs.0, qs.1))

unfoldable pub map_at : (Tag → List ℕ → Read Plain) → List ℕ → Read Plain
map_at value bytes = do
  qs ← tags_at value (length bytes) bytes
  ps ← gathered qs.0
  Some (plain.map (pairs_of ps), qs.1)

unfoldable pub payload_at : ℕ → Tag → List ℕ → Read Plain
payload_at (suc d) Items bytes = list_at (payload_at d) bytes
payload_at (suc d) Compound bytes = map_at (payload_at d) bytes
payload_at _ k bytes = leaf_at k bytes

unfoldable pub save_at : List ℕ → Option (List ℕ × Plain)
save_at bytes = if nat_lt MOST_SAVE_BYTES (length bytes) then None else (do
  k ← tag_at bytes
  if is_compound k.0 then (do
    name ← text_at k.1
    t ← payload_at 512 Compound name.1
    if length t.1 == 0 then Some (name.0, t.0) else None) else None)
