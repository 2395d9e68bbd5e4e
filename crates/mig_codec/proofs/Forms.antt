-- The form of a tree is that of its parts.
use Rattle.std.proofs.Common.{◌≡◌, List, [], ◌∷◌, ◌++◌, map, true, sym, ap, ◌∙◌}
use Rattle.mig_model.specs.declared.form.Form.{Form}
use Rattle.mig_model.specs.Plain as plain
use Rattle.mig_model.specs.Plain.{Plain, trees_of, pairs_of}
use Rattle.mig_model.specs.Inhabits.{may_be_items, is_in_form, items_in_form, entries_in_form}
use Rattle.mig_tree.specs.View.{plain_of, entry_of}
use Rattle.mig_tree.specs.declared.tree.Tree.{Tree}
use Rattle.mig_tree.specs.declared.entries.Entry.{Entry}
use Rattle.mig_model.proofs.Bools.{split_and}

item_of_form : (form : Form) (xs rest : List Tree) (x : Tree) → items_in_form form (trees_of (map plain_of (xs ++ x ∷ rest))) ≡ true → is_in_form form (plain_of x) ≡ true
item_of_form form [] rest x e = (split_and (is_in_form form (plain_of x)) (items_in_form form (trees_of (map plain_of rest))) e).0
item_of_form form (y ∷ xs) rest x e = item_of_form form xs rest x (split_and (is_in_form form (plain_of y)) (items_in_form form (trees_of (map plain_of (xs ++ x ∷ rest)))) e).1

entry_of_form : (form : Form) (xs rest : List Entry) (x : Entry) → entries_in_form form (pairs_of (map entry_of (xs ++ x ∷ rest))) ≡ true → is_in_form form (plain_of x.tree) ≡ true
entry_of_form form [] rest x e = (split_and (is_in_form form (plain_of x.tree)) (entries_in_form form (pairs_of (map entry_of rest))) e).0
entry_of_form form (y ∷ xs) rest x e = entry_of_form form xs rest x (split_and (is_in_form form (plain_of y.tree)) (entries_in_form form (pairs_of (map entry_of (xs ++ x ∷ rest)))) e).1

pub item_form : (form : Form) (all xs : List Tree) (x : Tree) → (rest : List Tree) × (all ≡ xs ++ x ∷ rest) → items_in_form form (trees_of (map plain_of all)) ≡ true → is_in_form form (plain_of x) ≡ true
item_form form all xs x s e = item_of_form form xs s.0 x (sym (ap (λ (l : List Tree). items_in_form form (trees_of (map plain_of l))) s.1) ∙ e)

pub entry_form : (form : Form) (all xs : List Entry) (x : Entry) → (rest : List Entry) × (all ≡ xs ++ x ∷ rest) → entries_in_form form (pairs_of (map entry_of all)) ≡ true → is_in_form form (plain_of x.tree) ≡ true
entry_form form all xs x s e = entry_of_form form xs s.0 x (sym (ap (λ (l : List Entry). entries_in_form form (pairs_of (map entry_of l))) s.1) ∙ e)

-- the items of a list of the form
pub list_form : (form : Form) (ts : List Plain) → is_in_form form (plain.list (trees_of ts)) ≡ true → items_in_form form (trees_of ts) ≡ true
list_form form ts e = (split_and (may_be_items form (trees_of ts)) (items_in_form form (trees_of ts)) e).1
