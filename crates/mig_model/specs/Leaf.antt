-- Leaf functions: the kind that comes out, and the value.
use Rattle.std.specs.Prelude.{ℕ, ◌+◌, ◌-◌, ◌^◌, List, [], ◌++◌, length, take, drop, map, ℤ, pos, neg_ℤ, ◌+ℤ◌, ◌*ℤ◌, int_le, Bool, true, false, ◌&&◌, ◌||◌, nat_le, Option, unwrap_or, option_map, find, if◌then◌else◌, bytes_eq, codes}
use Rattle.std.specs.Bool.{then_some}
use Rattle.std.specs.Int.{int_min, int_max}
use Rattle.std.specs.Fmt.{signed_decimal}
use Rattle.std.specs.Str.Parse.{signed_digits_value}
use Rattle.mig_model.specs.declared.kind.Kind.{Kind}
use Rattle.mig_model.specs.declared.kind.Kind.TheVariants as K
use Rattle.mig_model.specs.Plain as plain
use Rattle.mig_model.specs.Plain.{Plain}
use Rattle.mig_model.specs.Kinds.{kind_of}
use Rattle.mig_model.specs.Template.{same_kind, is_leaf}
use Rattle.mig_model.specs.Const.{Const, const_kind, const_tree}

-- a leaf function; a table has pairs of a text and what stands for it
pub data LeafFn : Type 0 where
  constant : Const → LeafFn
  plus : ℤ → LeafFn
  times : ℤ → LeafFn
  clamp_to : ℤ → ℤ → LeafFn
  to_kind : Kind → LeafFn
  to_text : LeafFn
  of_text : Const → LeafFn
  table : List (List ℕ × List ℕ) → LeafFn
  prefix : List ℕ → LeafFn
  strip : List ℕ → LeafFn
  lower : LeafFn

-- ---- whole numbers
abbrev pub is_whole_number : Kind → Bool
is_whole_number K.Byte = true
is_whole_number K.Short = true
is_whole_number K.Int = true
is_whole_number K.Long = true
is_whole_number K.Whole = true
is_whole_number k = false

-- the width of a whole-number kind, in bits
abbrev pub width : Kind → ℕ
width K.Byte = 8
width K.Short = 16
width K.Int = 32
width k = 64

-- its least and its greatest number
abbrev pub least : Kind → ℤ
least k = neg_ℤ (pos (2 ^ (width k - 1)))

abbrev pub greatest : Kind → ℤ
greatest k = pos (2 ^ (width k - 1) - 1)

abbrev pub is_in : Kind → ℤ → Bool
is_in k z = int_le (least k) z && int_le z (greatest k)

-- the nearest number from the least to the greatest
abbrev pub clamp : ℤ → ℤ → ℤ → ℤ
clamp low high z = int_max low (int_min z high)

-- a number as a tree of a whole-number kind
abbrev pub number_tree : Kind → ℤ → Plain
number_tree K.Byte z = plain.byte z
number_tree K.Short z = plain.short z
number_tree K.Int z = plain.int z
number_tree K.Long z = plain.long z
number_tree k z = plain.whole z

-- the same, clamped to the kind
abbrev pub clamped : Kind → ℤ → Plain
clamped k z = number_tree k (clamp (least k) (greatest k) z)

-- the number of a tree of a whole-number kind; any other tree counts as 0
abbrev pub number_of : Plain → ℤ
number_of (plain.byte z) = z
number_of (plain.short z) = z
number_of (plain.int z) = z
number_of (plain.long z) = z
number_of (plain.whole z) = z
number_of t = pos 0

-- ---- texts
abbrev pub is_text : Kind → Bool
is_text k = same_kind K.Text k

-- the bytes of a text; any other tree counts as none
abbrev pub text_of : Plain → List ℕ
text_of (plain.text s) = s
text_of t = []

-- a number in plain decimal, `true` or `false`, or a text as it is
abbrev pub shown : Plain → List ℕ
shown (plain.text s) = s
shown (plain.boolean b) = if b then codes "true" else codes "false"
shown t = signed_decimal (number_of t)

-- the text spells the number: it is the number in plain decimal, and the kind has the number
abbrev pub spells : Kind → List ℕ → ℤ → Bool
spells k s z = bytes_eq s (signed_decimal z) && is_in k z

-- the number of the kind that the text spells, which can only be that of its digits
abbrev pub spelled : Kind → List ℕ → Option ℤ
spelled k s = let z = signed_digits_value 10 s in then_some (spells k s z) z

-- that number as a tree, or else the constant
abbrev pub read_or : Const → List ℕ → Plain
read_or c s = unwrap_or (option_map (number_tree (const_kind c)) (spelled (const_kind c) s)) (const_tree c)

-- the right side of the first pair whose left side is the text
abbrev pub looked_up : List (List ℕ × List ℕ) → List ℕ → Option (List ℕ)
looked_up ps s = option_map (λ p. p.1) (find (λ p. bytes_eq p.0 s) ps)

-- how many bytes a text may have
abbrev pub text_limit : ℕ
text_limit = 65535

-- p and then the text, where that is no longer than a text may be, else the text
abbrev pub prefixed : List ℕ → List ℕ → List ℕ
prefixed p s = if nat_le (length (p ++ s)) text_limit then p ++ s else s

-- the text without p at its front, else the text
abbrev pub stripped : List ℕ → List ℕ → List ℕ
stripped p s = if bytes_eq (take (length p) s) p then drop (length p) s else s

-- `a` for `A` and so on; other bytes stay
abbrev pub lower_byte : ℕ → ℕ
lower_byte b = if nat_le 0x41 b && nat_le b 0x5a then b + 0x20 else b

-- ---- leaf functions
-- the kind that comes out, or none where the function doesn't fit the kind
abbrev pub leaf_out : LeafFn → Kind → Option Kind
leaf_out (constant c) k = then_some (is_leaf k) (const_kind c)
leaf_out (plus n) k = then_some (is_whole_number k) k
leaf_out (times n) k = then_some (is_whole_number k) k
leaf_out (clamp_to low high) k = then_some (is_whole_number k && is_in k low && is_in k high && int_le low high) k
leaf_out (to_kind j) k = then_some (is_whole_number j && is_whole_number k) j
leaf_out to_text k = then_some (is_whole_number k || same_kind K.Bool k || is_text k) K.Text
leaf_out (of_text c) k = then_some (is_text k && is_whole_number (const_kind c)) (const_kind c)
leaf_out (table ps) k = then_some (is_text k) K.Text
leaf_out (prefix p) k = then_some (is_text k) K.Text
leaf_out (strip p) k = then_some (is_text k) K.Text
leaf_out lower k = then_some (is_text k) K.Text

-- what becomes of a tree that the function fits
abbrev pub leaf_value : LeafFn → Plain → Plain
leaf_value (constant c) t = const_tree c
leaf_value (plus n) t = clamped (kind_of t) (number_of t +ℤ n)
leaf_value (times n) t = clamped (kind_of t) (number_of t *ℤ n)
leaf_value (clamp_to low high) t = number_tree (kind_of t) (clamp low high (number_of t))
leaf_value (to_kind k) t = clamped k (number_of t)
leaf_value to_text t = plain.text (shown t)
leaf_value (of_text c) t = read_or c (text_of t)
leaf_value (table ps) t = plain.text (unwrap_or (looked_up ps (text_of t)) (text_of t))
leaf_value (prefix p) t = plain.text (prefixed p (text_of t))
leaf_value (strip p) t = plain.text (stripped p (text_of t))
leaf_value lower t = plain.text (map lower_byte (text_of t))
