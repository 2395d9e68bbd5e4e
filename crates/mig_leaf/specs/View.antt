-- What a constant and a leaf function are, wherever their texts lie in memory.
use Rattle.mig_leaf.specs.declared.constant.Const.{Const}
use Rattle.mig_leaf.specs.declared.constant.Const.TheVariants as V
use Rattle.mig_leaf.specs.declared.leaf_fn.LeafFn.{LeafFn}
use Rattle.mig_leaf.specs.declared.leaf_fn.LeafFn.TheVariants as F
use Rattle.mig_model.specs.Const as model
use Rattle.mig_model.specs.Leaf as leaf

abbrev pub const_of : Const → model.Const
const_of (V.Byte z) = model.byte z
const_of (V.Short z) = model.short z
const_of (V.Int z) = model.int z
const_of (V.Long z) = model.long z
const_of (V.Whole z) = model.whole z
const_of (V.Float n) = model.float n
const_of (V.Double n) = model.double n
const_of (V.Text s) = model.text s
const_of (V.Bool b) = model.boolean b
const_of V.Null = model.null
const_of V.NoBytes = model.no_bytes
const_of V.NoInts = model.no_ints
const_of V.NoLongs = model.no_longs

abbrev pub leaf_fn_of : LeafFn → leaf.LeafFn
leaf_fn_of (F.Const c) = leaf.constant (const_of c)
leaf_fn_of (F.Plus n) = leaf.plus n
leaf_fn_of (F.Times n) = leaf.times n
leaf_fn_of (F.Clamp low high) = leaf.clamp_to low high
leaf_fn_of (F.To k) = leaf.to_kind k
leaf_fn_of F.ToText = leaf.to_text
leaf_fn_of (F.OfText c) = leaf.of_text (const_of c)
leaf_fn_of (F.Table ps) = leaf.table ps
leaf_fn_of (F.Prefix p) = leaf.prefix p
leaf_fn_of (F.Strip p) = leaf.strip p
leaf_fn_of F.Lower = leaf.lower
