-- The entries of files in memory, as keys and bytes, in the order of their keys.
use Rattle.std.specs.Prelude.{ℕ, List, map, string_bytes, bytes_eq}
use Rattle.std.specs.Ordering.{nat_cmp, ordering_then}
use Rattle.std.specs.declared.cmp.Ordering.{Ordering}
use Rattle.std.specs.Cmp.Lexicographic.{slice_cmp}
use Rattle.std.specs.List.{filter}
use Rattle.std.specs.List.Sorted.{IsStrictlySortedBy}
use Rattle.std.specs.Map.{keys_of}
use Rattle.mig_files.specs.Held.{Key}
use Rattle.mig_files.specs.declared.memory_files.Entry.{Entry}

abbrev pub entry_of : Entry → Key × List ℕ
entry_of e = ((string_bytes e.folder, string_bytes e.name), e.bytes.items)

-- by the folders' bytes, and in one folder by the names' bytes
abbrev pub by_key : Key → Key → Ordering
by_key k q = ordering_then (slice_cmp nat_cmp k.0 q.0) (slice_cmp nat_cmp k.1 q.1)

-- the keys are distinct and ascend
abbrev pub AreOrdered : List (Key × List ℕ) → Type 0
AreOrdered entries = IsStrictlySortedBy by_key (keys_of entries)

-- the names of the entries in a folder
abbrev pub names_in : List ℕ → List (Key × List ℕ) → List (List ℕ)
names_in folder entries = map (λ e. e.0.1) (filter (λ e. bytes_eq folder e.0.0) entries)
