-- Pairs in the order of their names, out of pairs in any order.
use Rattle.std.proofs.Common.{ℕ, List, [], ◌∷◌, ◌++◌, map}
use Rattle.std.specs.Prelude.{IsPermutation}
use Rattle.std.specs.Ordering.{eq_by_cmp}
use Rattle.std.specs.List.Sorted.{IsSortedByKey}
use Rattle.std.specs.Map.{keys_of}
use Rattle.std.proofs.lemmas.List.Sorted.{IsPermutation-map, IsPermutation-sym}
use Rattle.std.proofs.lemmas.Map.Keys.{IsDistinct-from_sorted, IsDistinct-IsPermutation}
use Rattle.mig_model.specs.Plain.{Plain, pairs_of}
use Rattle.mig_model.specs.Keeps.{Keeps, IsShort, AllPairsKeep}
use Rattle.mig_model.specs.Names.{by_bytes, Ascends}
use Rattle.mig_model.proofs.Ascending.{flips}
use Rattle.mig_model.proofs.Rising.{entries_ascend}
use Rattle.mig_tree.specs.View.{plain_of, entry_of}
use Rattle.mig_tree.specs.declared.entries.Entry.{Entry}

-- one more pair keeps what the others keep
pub keeps_more : (xs : List Entry) (e : Entry) → AllPairsKeep (pairs_of (map entry_of xs)) → IsShort e.name → Keeps (plain_of e.tree) → AllPairsKeep (pairs_of (map entry_of (xs ++ e ∷ [])))
keeps_more [] e k name tree = (name, tree, tt)
keeps_more (x ∷ xs) e k name tree = (k.0, k.1, keeps_more xs e k.2 name tree)

-- where the pairs have an order in which the names ascend, pairs in order of names ascend
pub named_if_any : (es : List Entry) (ps : List (List ℕ × Plain)) → IsSortedByKey (λ e. e.name) by_bytes es → IsPermutation (map entry_of es) ps → Ascends ps → Ascends (map entry_of es)
named_if_any es ps sorted same named =
    entries_ascend entry_of es sorted
    (IsDistinct-IsPermutation (eq_by_cmp by_bytes) flips (keys_of ps) (keys_of (map entry_of es))
    (IsPermutation-sym (keys_of (map entry_of es)) (keys_of ps) (IsPermutation-map (λ p. p.0) (map entry_of es) ps same))
    (IsDistinct-from_sorted by_bytes (keys_of ps) named))
