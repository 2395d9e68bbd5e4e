-- What the writing of a list and of a map needs of their parts.
use Rattle.std.proofs.Common.{◌≡◌, ℕ, ◌<◌, ◌+◌, List, [], ◌∷◌, ◌++◌, length, map, get_or, drop, refl, ap, subst, ◌∙◌, Less, Greater, nat_cmp}
use Rattle.std.proofs.lemmas.Cmp.{nat_list_cmp_total}
use Rattle.std.proofs.lemmas.List.{drop_more}
use Rattle.std.specs.Cmp.Lexicographic.{slice_cmp}
use Rattle.std.specs.Ordering.{ordering_reverse}
use Rattle.std.specs.List.{AllByRecursion}
use Rattle.std.specs.List.Sorted.{IsStrictlySortedBy}
use Rattle.std.specs.Map.{keys_of}
use Rattle.serde_json.specs.Data as json
use Rattle.serde_json.specs.Data.{Data, put}
use Rattle.mig_model.specs.Plain.{Plain, trees_of, pairs_of}
use Rattle.mig_tree.specs.View.{plain_of, entry_of}
use Rattle.mig_tree.proofs.Places.{drop_here}
use Rattle.mig_model.specs.Names.{by_bytes, Ascends}
use Rattle.mig_tree.specs.declared.tree.Tree.{Tree}
use Rattle.mig_tree.specs.declared.entries.Entry.{Entry}
use Rattle.mig_json.specs.Kinds.{IsJson, AreJson, ArePairsJson}
use Rattle.mig_json.specs.Writing.{data_of, members_of}

abbrev Pair : Type 0
Pair = List ℕ × Plain

pub item_json : (xs : List Tree) (i : ℕ) (x : Tree) → i < length xs → x ≡ get_or xs i x → AreJson (trees_of (map plain_of (drop i xs))) → IsJson (plain_of x)
item_json xs i x l e p = (subst (λ (ys : List Tree). AreJson (trees_of (map plain_of ys))) (drop_here xs i x l e) p).0

pub entry_json : (xs : List Entry) (i : ℕ) (x : Entry) → i < length xs → x ≡ get_or xs i x → ArePairsJson (pairs_of (map entry_of (drop i xs))) → IsJson (plain_of x.tree)
entry_json xs i x l e p = (subst (λ (ys : List Entry). ArePairsJson (pairs_of (map entry_of ys))) (drop_here xs i x l e) p).1

pub entries_json : (xs : List Entry) (i : ℕ) (x : Entry) → i < length xs → ArePairsJson (pairs_of (map entry_of (drop i xs))) → ArePairsJson (pairs_of (map entry_of (drop (i + 1) xs)))
entries_json xs i x l p =
    let q : ArePairsJson (pairs_of (map entry_of (get_or xs i x ∷ drop (i + 1) xs))) = subst (λ (ys : List Entry). ArePairsJson (pairs_of (map entry_of ys))) (drop_more xs i x l) p in
    q.2

below : (first : Pair) (ps : List Pair) (p : Pair) (more : List Pair) → AllByRecursion (λ y. by_bytes first.0 y ≡ Less) (keys_of (ps ++ p ∷ more)) → by_bytes first.0 p.0 ≡ Less
below first [] p more h = h.0
below first (x ∷ ps) p more h = below first ps p more h.1

-- a name that is above those before it goes last
pub put_last : (done : List Pair) (p : Pair) (more : List Pair) → Ascends (done ++ p ∷ more)
    → put p.0 (data_of p.1) (members_of (pairs_of done)) ≡ members_of (pairs_of (done ++ p ∷ []))
unfolding IsStrictlySortedBy
put_last [] p more h = refl
put_last (first ∷ done) p more h =
    let above : slice_cmp nat_cmp p.0 first.0 ≡ Greater = nat_list_cmp_total.antisymm p.0 first.0 ∙ ap ordering_reverse (below first done p more h.0) in
    rw above (ap (json.member first.0 (data_of first.1)) (put_last done p more h.1))
