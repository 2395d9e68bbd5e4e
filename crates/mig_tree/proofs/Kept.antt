-- What a list or a map keeps, its edits keep.
use Rattle.std.proofs.Common.{◌≡◌, ℕ, zero, suc, ◌<◌, ◌≤◌, ◌^◌, List, [], ◌∷◌, ◌++◌, length, map, sym, subst, arith, slice_set}
use Rattle.std.proofs.lemmas.Cmp.{nat_list_cmp_total}
use Rattle.std.proofs.lemmas.List.{length-map, length-set}
use Rattle.std.proofs.lemmas.Map.Lookups.{exact_bytes}
use Rattle.std.specs.List.{insert, remove}
use Rattle.std.specs.List.Sorted.{IsStrictlySortedBy}
use Rattle.std.specs.Prelude.{Ok, Err}
use Rattle.std_collections.specs.Layout.BTreeMap.{seek}
use Rattle.mig_model.specs.Plain as plain
use Rattle.mig_model.specs.Plain.{Plain, trees_of, pairs_of, items, entries}
use Rattle.mig_model.specs.Kinds.{items_of_trees, entries_of_pairs}
use Rattle.mig_model.specs.Keeps.{Keeps, IsShort, ItemsKeep, AllKeep, EntriesKeep, AllPairsKeep}
use Rattle.mig_model.specs.Names.{by_bytes, Ascends}
use Rattle.mig_model.proofs.Searches.{inserted_sorted, replaced_sorted, removed_sorted}
use Rattle.mig_tree.specs.View.{plain_of, entry_of}
use Rattle.mig_tree.specs.declared.tree.Tree.{Tree}
use Rattle.mig_tree.specs.declared.entries.Entry.{Entry}

pub list_keeps : (ts : List Plain) → ItemsKeep ts → Keeps (plain.list (trees_of ts))
list_keeps ts k = (subst IsShort (sym (items_of_trees ts)) k.0, k.1)

pub map_keeps : (ps : List (List ℕ × Plain)) → EntriesKeep ps → Keeps (plain.map (pairs_of ps))
map_keeps ps k = (subst Ascends (sym (entries_of_pairs ps)) k.0, subst IsShort (sym (entries_of_pairs ps)) k.1, k.2)

few_mapped : {A B : Type 0} (f : A → B) (xs : List A) → length xs < 2 ^ 64 → IsShort (map f xs)
few_mapped f xs h = omega (arith, length-map xs f)

abbrev AllKeepOf : List Tree → Type 0
AllKeepOf us = AllKeep (trees_of (map plain_of us))

pub items_pushed : (ts : List Tree) (t : Tree) → ItemsKeep (map plain_of ts) → Keeps (plain_of t) → length (ts ++ t ∷ []) < 2 ^ 64 → ItemsKeep (map plain_of (ts ++ t ∷ []))
items_pushed ts t k kept few = (few_mapped plain_of (ts ++ t ∷ []) few, all ts k.1)
  where
    all : (us : List Tree) → AllKeepOf us → AllKeepOf (us ++ t ∷ [])
    all [] h = (kept, tt)
    all (u ∷ us) h = (h.0, all us h.1)

abbrev all_pairs : List Entry → Type 0
all_pairs es = AllPairsKeep (pairs_of (map entry_of es))

all_inserted : (xs : List Entry) (i : ℕ) (e : Entry) → all_pairs xs → IsShort e.name → Keeps (plain_of e.tree) → all_pairs (insert xs i e)
all_inserted xs zero e k name kept = (name, kept, k)
all_inserted [] (suc i) e k name kept = (name, kept, tt)
all_inserted (x ∷ xs) (suc i) e k name kept = (k.0, k.1, all_inserted xs i e k.2 name kept)

all_replaced : (xs : List Entry) (i : ℕ) (e : Entry) → all_pairs xs → IsShort e.name → Keeps (plain_of e.tree) → all_pairs (slice_set xs i e)
all_replaced [] i e k name kept = k
all_replaced (x ∷ xs) zero e k name kept = (name, kept, k.2)
all_replaced (x ∷ xs) (suc i) e k name kept = (k.0, k.1, all_replaced xs i e k.2 name kept)

all_removed : (xs : List Entry) (i : ℕ) → all_pairs xs → all_pairs (remove xs i)
all_removed [] zero k = tt
all_removed [] (suc i) k = tt
all_removed (x ∷ xs) zero k = k.2
all_removed (x ∷ xs) (suc i) k = (k.0, k.1, all_removed xs i k.2)

fewer : (xs : List Entry) (i : ℕ) → length (remove xs i) ≤ length xs
fewer [] zero = omega arith
fewer [] (suc i) = omega arith
fewer (x ∷ xs) zero = omega arith
fewer (x ∷ xs) (suc i) = omega (arith, fewer xs i)

short_mapped : (xs : List Entry) → IsShort (map entry_of xs) → length xs < 2 ^ 64
short_mapped xs h = omega (arith, length-map xs entry_of)

pub inserted_keeps : (xs : List Entry) (i : ℕ) (e : Entry) → EntriesKeep (map entry_of xs) → seek (by_bytes e.name) (map entry_of xs) ≡ Err i
    → IsShort e.name → Keeps (plain_of e.tree) → length (insert xs i e) < 2 ^ 64 → EntriesKeep (map entry_of (insert xs i e))
inserted_keeps xs i e k h name kept few = (inserted_sorted exact_bytes entry_of nat_list_cmp_total xs i e k.0 h, few_mapped entry_of (insert xs i e) few, all_inserted xs i e k.2 name kept)

pub replaced_keeps : (xs : List Entry) (i : ℕ) (e : Entry) → EntriesKeep (map entry_of xs) → seek (by_bytes e.name) (map entry_of xs) ≡ Ok i
    → IsShort e.name → Keeps (plain_of e.tree) → EntriesKeep (map entry_of (slice_set xs i e))
replaced_keeps xs i e k h name kept =
    let few : length (slice_set xs i e) < 2 ^ 64 = omega (arith, length-set xs i e, short_mapped xs k.1) in
    (replaced_sorted exact_bytes entry_of xs i e k.0 h, few_mapped entry_of (slice_set xs i e) few, all_replaced xs i e k.2 name kept)

pub removed_keeps : (xs : List Entry) (i : ℕ) → EntriesKeep (map entry_of xs) → EntriesKeep (map entry_of (remove xs i))
removed_keeps xs i k =
    let few : length (remove xs i) < 2 ^ 64 = omega (arith, fewer xs i, short_mapped xs k.1) in
    (removed_sorted by_bytes entry_of xs i k.0, few_mapped entry_of (remove xs i) few, all_removed xs i k.2)

none_named : Ascends {A = Plain} []
unfolding IsStrictlySortedBy
none_named = tt

pub nothing_keeps : EntriesKeep []
nothing_keeps = (none_named, omega arith, tt)
