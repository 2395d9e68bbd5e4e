-- The plain tree that a `Tree` stands for: one level, since the lists inside are seen as plain trees already.
use Rattle.std.specs.Prelude.{ℕ, List}
use Rattle.mig_model.specs.Plain as plain
use Rattle.mig_model.specs.Plain.{Plain, trees_of, pairs_of}
use Rattle.mig_tree.specs.declared.tree.Tree.{Tree}
use Rattle.mig_tree.specs.declared.tree.Tree.TheVariants as V
use Rattle.mig_tree.specs.declared.entries.Entry.{Entry}

abbrev pub plain_of : Tree → Plain
plain_of (V.Byte z) = plain.byte z
plain_of (V.Short z) = plain.short z
plain_of (V.Int z) = plain.int z
plain_of (V.Long z) = plain.long z
plain_of (V.Float n) = plain.float n
plain_of (V.Double n) = plain.double n
plain_of (V.Text b) = plain.text b
plain_of (V.Bytes b) = plain.bytes b.now
plain_of (V.Ints b) = plain.ints b.now
plain_of (V.Longs b) = plain.longs b.now
plain_of (V.List ts) = plain.list (trees_of ts)
plain_of (V.Map ps) = plain.map (pairs_of ps)
plain_of V.Null = plain.null
plain_of (V.Bool b) = plain.boolean b
plain_of (V.Whole z) = plain.whole z

abbrev pub entry_of : Entry → List ℕ × Plain
entry_of e = (e.name, plain_of e.tree)
