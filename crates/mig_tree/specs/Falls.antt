-- What is inside a list or a map is smaller than the list or the map.
use Rattle.std.specs.Prelude.{◌≤◌, List, [], ◌∷◌, map}
use Rattle.std.proofs.Common.{arith}
use denote.Param.Weighed.{most}
use Rattle.mig_tree.specs.declared.tree.Tree.{Tree}
use Rattle.mig_tree.specs.declared.entries.Entry.{Entry}
use Rattle.mig_tree.specs.declared.tree.Tree.TheVariants as V
use Rattle.mig_tree.specs.declared.entries.Entries.TheDeep.{deep-Tree, deep-Entry}
use Rattle.mig_model.specs.Plain.{size, items_size, entries_size}
use Rattle.mig_tree.specs.View.{plain_of, entry_of}

pub deep_le : (t : Tree) → deep-Tree t ≤ size (plain_of t)
deep_le (V.List ts) = omega arith
deep_le (V.Map ps) = omega arith
deep_le t = omega arith

pub most_items : (ts : List Tree) → most deep-Tree ts ≤ items_size (map plain_of ts)
most_items [] = omega arith
most_items (t ∷ ts) = omega (arith, deep_le t, most_items ts)

pub most_entries : (es : List Entry) → most deep-Entry es ≤ entries_size (map entry_of es)
most_entries [] = omega arith
most_entries (e ∷ es) = omega (arith, deep_le e.tree, most_entries es)
