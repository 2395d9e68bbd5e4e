-- What stands at a place of a list of trees or of entries.
use Rattle.std.proofs.Common.{◌≡◌, ◌∙◌, ◌+◌, ◌≤◌, ◌<◌, ℕ, zero, suc, List, [], ◌∷◌, length, map, get_or, drop, Some, None, Ok, Err, refl, sym, ap, arith}
use Rattle.std.proofs.lemmas.Cmp.{nat_list_cmp_total}
use Rattle.std.proofs.lemmas.List.{drop_more}
use Rattle.std_collections.specs.Layout.BTreeMap.{seek}
use Rattle.mig_model.specs.Plain.{Plain, Trees, no_tree, tree, Pairs, no_pair, pair, items, entries, trees_of, pairs_of, size, items_size, entries_size}
use Rattle.mig_model.specs.Names.{by_bytes, Ascends, under}
use Rattle.mig_model.proofs.Searches.{found_there, not_found}
use Rattle.mig_tree.specs.View.{plain_of, entry_of}
use Rattle.mig_tree.specs.declared.tree.Tree.{Tree}
use Rattle.mig_tree.specs.declared.entries.Entry.{Entry}

pub drop_here : {X : Type 0} (xs : List X) (i : ℕ) (x : X) → i < length xs → x ≡ get_or xs i x → drop i xs ≡ x ∷ drop (i + 1) xs
drop_here xs i x l e = drop_more xs i x l ∙ ap (λ y. y ∷ drop (i + 1) xs) (sym e)

-- an item weighs no more than the list, where the list weighs no less than its items together
module _ {X : Type 0} (weight : X → ℕ) (all : List X → ℕ) (more : (x : X) (xs : List X) → weight x + all xs ≤ all (x ∷ xs)) where
  pub part_smaller : (xs : List X) (i : ℕ) (x : X) → i < length xs → x ≡ get_or xs i x → weight x ≤ all xs
  part_smaller [] i x l e = absurd (omega arith)
  part_smaller (y ∷ ys) zero x l e = omega (arith, ap weight e, more y ys)
  part_smaller (y ∷ ys) (suc i) x l e = omega (arith, part_smaller ys i x (omega arith) e, more y ys)

pub item_smaller : (xs : List Tree) (i : ℕ) (x : Tree) → i < length xs → x ≡ get_or xs i x → size (plain_of x) ≤ items_size (map plain_of xs)
item_smaller = part_smaller (λ t. size (plain_of t)) (λ ts. items_size (map plain_of ts)) (λ t ts. omega arith)

pub entry_smaller : (xs : List Entry) (i : ℕ) (x : Entry) → i < length xs → x ≡ get_or xs i x → size (plain_of x.tree) ≤ entries_size (map entry_of xs)
entry_smaller = part_smaller (λ e. size (plain_of e.tree)) (λ es. entries_size (map entry_of es)) (λ e es. omega arith)

-- the items of a list and the pairs of a map, as lists and back
pub trees_back : (ts : Trees) → trees_of (items ts) ≡ ts
trees_back no_tree = refl
trees_back (tree t ts) = ap (tree t) (trees_back ts)

pub pairs_back : (ps : Pairs) → pairs_of (entries ps) ≡ ps
pairs_back no_pair = refl
pairs_back (pair k t ps) = ap (pair k t) (pairs_back ps)

-- what a search of the names of a map found
module _ (name : List ℕ) (xs : List Entry) (es : List (List ℕ × Plain)) (is : map entry_of xs ≡ es) (i : ℕ) where
  pub tree_there : (d : Entry) → seek (by_bytes name) (map entry_of xs) ≡ Ok i → i < length xs → d ≡ get_or xs i d → Some (plain_of d.tree) ≡ under name es
  tree_there d at within there = sym (found_there nat_list_cmp_total entry_of name xs i d at within there) ∙ ap (under name) is

  pub no_tree_there : Ascends (map entry_of xs) → seek (by_bytes name) (map entry_of xs) ≡ Err i → None ≡ under name es
  no_tree_there named at = sym (not_found nat_list_cmp_total entry_of name xs i named at) ∙ ap (under name) is
