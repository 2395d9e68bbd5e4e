-- What the writing of a list and of a map needs of their parts.
use Rattle.std.proofs.Common.{◌≡◌, ℕ, ◌<◌, ◌^◌, List, ◌∷◌, ◌++◌, length, map, get_or, drop, sym, ap, subst, ◌∙◌, arith}
use Rattle.std.proofs.lemmas.List.{length-map}
use Rattle.std.specs.Int.{w32, to_be_bytes}
use Rattle.mig_model.specs.Plain.{Plain, trees_of, pairs_of, items}
use Rattle.mig_model.specs.Kinds.{items_of_trees}
use Rattle.mig_tree.specs.View.{plain_of, entry_of}
use Rattle.mig_tree.proofs.Places.{drop_here}
use Rattle.mig_tree.specs.declared.tree.Tree.{Tree}
use Rattle.mig_tree.specs.declared.tree.Tree.TheVariants as V
use Rattle.mig_tree.specs.declared.entries.Entry.{Entry}
use Rattle.mig_nbt.specs.Format.{tag_number}
use Rattle.mig_nbt.specs.Writing.{payload, payloads, element_of, IsSpelled, AreSpelled, ArePairsSpelled}

count_of : (ts : List Plain) (xs : List Tree) → map plain_of xs ≡ ts → length (items (trees_of ts)) ≡ length xs
count_of ts xs e = ap length (items_of_trees ts) ∙ sym (ap length e) ∙ length-map xs plain_of

pub list_fits : (tree : Tree) (ts : List Plain) (xs : List Tree) → tree ≡ V.List ts → map plain_of xs ≡ ts → IsSpelled (plain_of tree) → length xs < 2 ^ 32
list_fits tree ts xs e f p =
    let q : IsSpelled (plain_of (V.List ts)) = subst (λ (x : Tree). IsSpelled (plain_of x)) e p in
    omega (arith, q.0, count_of ts xs f)

pub list_written : (tree : Tree) (ts : List Plain) (xs : List Tree) → tree ≡ V.List ts → map plain_of xs ≡ ts
    → payload (plain_of tree) ≡ tag_number (element_of (trees_of (map plain_of xs))) ∷ (to_be_bytes w32 (length xs) ++ payloads (trees_of (map plain_of xs)))
list_written tree ts xs e f =
    ap (λ (x : Tree). payload (plain_of x)) e
    ∙ ap (λ (n : ℕ). tag_number (element_of (trees_of ts)) ∷ (to_be_bytes w32 n ++ payloads (trees_of ts))) (count_of ts xs f)
    ∙ ap (λ (l : List Plain). tag_number (element_of (trees_of l)) ∷ (to_be_bytes w32 (length xs) ++ payloads (trees_of l))) (sym f)

pub item_spelled : (xs : List Tree) (i : ℕ) (x : Tree) → i < length xs → x ≡ get_or xs i x → AreSpelled (trees_of (map plain_of (drop i xs))) → IsSpelled (plain_of x)
item_spelled xs i x l e p = (subst (λ (ys : List Tree). AreSpelled (trees_of (map plain_of ys))) (drop_here xs i x l e) p).0

pub entry_spelled : (xs : List Entry) (i : ℕ) (x : Entry) → i < length xs → x ≡ get_or xs i x → ArePairsSpelled (pairs_of (map entry_of (drop i xs))) → IsSpelled (plain_of x.tree)
entry_spelled xs i x l e p = (subst (λ (ys : List Entry). ArePairsSpelled (pairs_of (map entry_of ys))) (drop_here xs i x l e) p).1
