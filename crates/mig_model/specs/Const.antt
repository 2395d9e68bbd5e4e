-- Constants of leaf kinds.
use Rattle.std.specs.Prelude.{ℕ, ℤ, List, [], Bool}
use Rattle.mig_model.specs.declared.kind.Kind.{Kind}
use Rattle.mig_model.specs.declared.kind.Kind.TheVariants as K
use Rattle.mig_model.specs.Plain as plain
use Rattle.mig_model.specs.Plain.{Plain}

-- a constant of a leaf kind; the arrays are empty
pub data Const : Type 0 where
  byte : ℤ → Const
  short : ℤ → Const
  int : ℤ → Const
  long : ℤ → Const
  whole : ℤ → Const
  float : ℕ → Const
  double : ℕ → Const
  text : List ℕ → Const
  boolean : Bool → Const
  null no_bytes no_ints no_longs : Const

abbrev pub const_kind : Const → Kind
const_kind (byte z) = K.Byte
const_kind (short z) = K.Short
const_kind (int z) = K.Int
const_kind (long z) = K.Long
const_kind (whole z) = K.Whole
const_kind (float n) = K.Float
const_kind (double n) = K.Double
const_kind (text s) = K.Text
const_kind (boolean b) = K.Bool
const_kind null = K.Null
const_kind no_bytes = K.Bytes
const_kind no_ints = K.Ints
const_kind no_longs = K.Longs

abbrev pub const_tree : Const → Plain
const_tree (byte z) = plain.byte z
const_tree (short z) = plain.short z
const_tree (int z) = plain.int z
const_tree (long z) = plain.long z
const_tree (whole z) = plain.whole z
const_tree (float n) = plain.float n
const_tree (double n) = plain.double n
const_tree (text s) = plain.text s
const_tree (boolean b) = plain.boolean b
const_tree null = plain.null
const_tree no_bytes = plain.bytes []
const_tree no_ints = plain.ints []
const_tree no_longs = plain.longs []
