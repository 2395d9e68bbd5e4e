-- The kinds that are in a set of kinds.
use Rattle.std.specs.Prelude.{Bool}
use Rattle.mig_model.specs.declared.kind.Kind.{Kind}
use Rattle.mig_model.specs.declared.kind.Kind.TheVariants as K
use Rattle.mig_template.specs.declared.kinds.KindSet.{KindSet}

abbrev pub is_in : KindSet → Kind → Bool
is_in s K.Byte = s.byte
is_in s K.Short = s.short
is_in s K.Int = s.int
is_in s K.Long = s.long
is_in s K.Float = s.float
is_in s K.Double = s.double
is_in s K.Text = s.text
is_in s K.Bytes = s.bytes
is_in s K.Ints = s.ints
is_in s K.Longs = s.longs
is_in s K.List = s.list
is_in s K.Map = s.map
is_in s K.Null = s.null
is_in s K.Bool = s.boolean
is_in s K.Whole = s.whole
