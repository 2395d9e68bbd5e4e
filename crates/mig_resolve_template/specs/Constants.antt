-- What the constants and leaf functions of a text stand for, and what may be wrong with them.
use Rattle.std.specs.Prelude.{ℤ, pos, nat_abs, ◌^◌, ◌-◌, Bool, true, false, not, ◌&&◌, int_le}
use Rattle.std.specs.Map.{keys_of}
use Rattle.mig_model.specs.declared.form.Form.{Form}
use Rattle.mig_model.specs.declared.kind.Kind.{Kind}
use Rattle.mig_model.specs.declared.kind.Kind.TheVariants as K
use Rattle.mig_model.specs.Const as const
use Rattle.mig_model.specs.Const.{Const, const_kind}
use Rattle.mig_model.specs.Leaf as leaf
use Rattle.mig_model.specs.Leaf.{LeafFn, is_in}
use Rattle.mig_model.specs.Names.{has_twice}
use Rattle.mig_model.specs.Template.{is_leaf, is_of_form}
use Rattle.mig_syntax.specs.RuleSyntax as syntax
use Rattle.mig_syntax.specs.RuleSyntax.{ConstSyntax, LeafSyntax}

-- the constant of a whole number; the grammar has no other kinds here
abbrev pub number_from : Kind → ℤ → Const
number_from K.Byte z = const.byte z
number_from K.Short z = const.short z
number_from K.Int z = const.int z
number_from K.Long z = const.long z
number_from k z = const.whole z

-- the float or the double of these bits
abbrev pub bits_from : Kind → ℤ → Const
bits_from K.Float z = const.float (nat_abs z)
bits_from k z = const.double (nat_abs z)

-- the empty array of a kind
abbrev pub empty_from : Kind → Const
empty_from K.Bytes = const.no_bytes
empty_from K.Ints = const.no_ints
empty_from k = const.no_longs

abbrev pub const_from : ConstSyntax → Const
const_from (syntax.number k z) = number_from k z
const_from (syntax.bits k z) = bits_from k z
const_from (syntax.text s) = const.text s
const_from (syntax.boolean b) = const.boolean b
const_from syntax.null = const.null
const_from (syntax.empty k) = empty_from k

abbrev pub leaf_from : LeafSyntax → LeafFn
leaf_from (syntax.constant c) = leaf.constant (const_from c)
leaf_from (syntax.plus z) = leaf.plus z
leaf_from (syntax.times z) = leaf.times z
leaf_from (syntax.clamp y z) = leaf.clamp_to y z
leaf_from (syntax.to_kind k) = leaf.to_kind k
leaf_from syntax.to_text = leaf.to_text
leaf_from (syntax.of_text c) = leaf.of_text (const_from c)
leaf_from (syntax.table ps) = leaf.table ps
leaf_from (syntax.prefix s) = leaf.prefix s
leaf_from (syntax.strip s) = leaf.strip s
leaf_from syntax.lower = leaf.lower

-- ---- kind words
-- the kind is no leaf kind of the form
abbrev pub is_wrong_kind : Form → Kind → Bool
is_wrong_kind form k = not (is_leaf k && is_of_form form k)

abbrev pub const_is_wrong : Form → ConstSyntax → Bool
const_is_wrong form c = is_wrong_kind form (const_kind (const_from c))

abbrev pub leaf_is_wrong : Form → LeafSyntax → Bool
leaf_is_wrong form (syntax.constant c) = const_is_wrong form c
leaf_is_wrong form (syntax.to_kind k) = is_wrong_kind form k
leaf_is_wrong form (syntax.of_text c) = const_is_wrong form c
leaf_is_wrong form f = false

-- ---- numbers
-- 32 bits for a float, 64 for a double
abbrev pub bits_in : Kind → ℤ → Bool
bits_in K.Float z = int_le (pos 0) z && int_le z (pos (2 ^ 32 - 1))
bits_in k z = int_le (pos 0) z && int_le z (pos (2 ^ 64 - 1))

-- the number is in the range of its place
abbrev pub const_in_range : ConstSyntax → Bool
const_in_range (syntax.number k z) = is_in k z
const_in_range (syntax.bits k z) = bits_in k z
const_in_range c = true

abbrev pub leaf_in_range : LeafSyntax → Bool
leaf_in_range (syntax.constant c) = const_in_range c
leaf_in_range (syntax.plus z) = is_in K.Long z
leaf_in_range (syntax.times z) = is_in K.Long z
leaf_in_range (syntax.clamp y z) = is_in K.Long y && is_in K.Long z
leaf_in_range (syntax.of_text c) = const_in_range c
leaf_in_range f = true

-- ---- names
-- two left sides of a table are equal
abbrev pub leaf_is_twice : LeafSyntax → Bool
leaf_is_twice (syntax.table ps) = has_twice (keys_of ps)
leaf_is_twice f = false
