-- Whole numbers within a kind, and clamped to it.
use Rattle.std.proofs.Common.{◌≡◌, Bool, true, false, ◌&&◌, List, ℕ, ℤ, Some, None, refl, sym, ap, ◌∙◌, arith}
use Rattle.std.specs.Prelude.{FitsSigned, int_le, bytes_eq, unwrap_or, option_map}
use Rattle.std.specs.Bool.{then_some}
use Rattle.std.specs.Int.{w64, saturate_signed}
use Rattle.std.specs.Fmt.{signed_decimal}
use Rattle.std.specs.Str.Parse.{signed_digits_value}
use Rattle.std.proofs.lemmas.Int.{ints, clamps}
use Rattle.std.proofs.lemmas.Slice.Eq.{bytes_eq-Decides}
use Rattle.mig_model.specs.declared.kind.Kind.{Kind}
use Rattle.mig_model.specs.declared.kind.Kind.TheVariants as K
use Rattle.mig_model.specs.Plain as plain
use Rattle.mig_model.specs.Plain.{Plain}
use Rattle.mig_model.specs.Const.{Const, const_kind, const_tree}
use Rattle.mig_model.specs.Leaf.{least, greatest, is_in, clamp, clamped, number_tree, spells, spelled, read_or}
use Rattle.mig_leaf.proofs.Decimal.{value_is}

-- ---- ranges
pub within : (low high z : ℤ) → (int_le low z && int_le z high) ≡ true → clamp low high z ≡ z
within low high z h = grind (arith, ints, clamps)

-- to clamp to 64 bits first changes nothing
pub saturated : (k : Kind) (z : ℤ) → clamped k (saturate_signed w64 z) ≡ clamped k z
saturated K.Byte z = ap plain.byte (grind (arith, ints, clamps))
saturated K.Short z = ap plain.short (grind (arith, ints, clamps))
saturated K.Int z = ap plain.int (grind (arith, ints, clamps))
saturated K.Long z = ap plain.long (grind (arith, ints, clamps))
saturated _ z = ap plain.whole (grind (arith, ints, clamps))

-- what is clamped between two numbers of a kind is of that kind
pub clamped_between : (k : Kind) (low high z : ℤ) → is_in k low ≡ true → is_in k high ≡ true → int_le low high ≡ true → clamped k (clamp low high z) ≡ number_tree k (clamp low high z)
clamped_between k low high z h i j = ap (number_tree k) (within (least k) (greatest k) (clamp low high z) (between (least k) (greatest k) h i j))
  where
    between : (least greatest : ℤ) → (int_le least low && int_le low greatest) ≡ true → (int_le least high && int_le high greatest) ≡ true → int_le low high ≡ true
        → (int_le least (clamp low high z) && int_le (clamp low high z) greatest) ≡ true
    between least greatest a b c = grind (arith, ints, clamps)

-- ---- texts of numbers
pub spelled_text : (k : Kind) (s : List ℕ) (z : ℤ) → FitsSigned w64 z → s ≡ signed_decimal z → then_some (is_in k z) z ≡ spelled k s
spelled_text k s z fits e =
    let v : signed_digits_value 10 s ≡ z = ap (signed_digits_value 10) e ∙ value_is z fits.sfits in
    let same : bytes_eq s (signed_decimal z) ≡ true = (bytes_eq-Decides s (signed_decimal z)).1 e in
    sym (ap (λ u. then_some (spells k s u) u) v ∙ ap (λ b. then_some (b && is_in k z) z) same)

spelled_in : (k : Kind) (s : List ℕ) (z : ℤ) → spelled k s ≡ Some z → is_in k z ≡ true
spelled_in k s z e = by (bytes_eq s (signed_decimal (signed_digits_value 10 s))) (is_in k (signed_digits_value 10 s)) refl e
  where
    by : (a b : Bool) → is_in k (signed_digits_value 10 s) ≡ b → then_some (a && b) (signed_digits_value 10 s) ≡ Some z → is_in k z ≡ true
    by true true i f = let same : signed_digits_value 10 s ≡ z = cc in ap (is_in k) (sym same) ∙ i
    by true false i f = absurd (let no : None ≡ Some z = f in cc)
    by false b i f = absurd (let no : None ≡ Some z = f in cc)

-- the number that a text spells needs no clamping
pub read_number : (c : Const) (s : List ℕ) (z : ℤ) → spelled (const_kind c) s ≡ Some z → clamped (const_kind c) z ≡ read_or c s
read_number c s z e = ap (number_tree (const_kind c)) (within (least (const_kind c)) (greatest (const_kind c)) z (spelled_in (const_kind c) s z e))
    ∙ sym (ap (λ o. unwrap_or (option_map (number_tree (const_kind c)) o) (const_tree c)) e)
