-- Numbers in decimal.
use Rattle.std.proofs.Common.{◌≡◌, ◌⊎◌, inl, inr, ℕ, suc, ◌+◌, ◌-◌, ◌*◌, ◌/◌, ◌%◌, ◌^◌, ◌<◌, ◌≤◌, List, [], ◌∷◌, ◌++◌, length, take, drop, get_or, ℤ, pos, negsuc, nat_abs, refl, sym, ap, ◌∙◌, append_assoc, append-nil, length-append, add-one, pow-suc, arith}
use Rattle.std.specs.Char.{digit_value}
use Rattle.std.specs.Fmt.{decimal, signed_decimal}
use Rattle.std.specs.List.{AllByRecursion}
use Rattle.std.specs.Str.Parse.{AllDigits, IsNumeral, digits_value, digits_value_after}
use Rattle.std.proofs.lemmas.Fmt.{decimal_is_IsNumeral_wide, decimal_by_steps_wide, decimal_step_wide, decimal_digit, length-decimal-le_wide}
use Rattle.std.proofs.lemmas.List.{get_or_append_left}
use Rattle.std.proofs.lemmas.Str.{digit_value_digit}
use Rattle.std.proofs.lemmas.Str.Parse.{digit_from_value}
use Rattle.std.proofs.lemmas.Int.Digits.{digits_value_more}
use Rattle.mig_lex.specs.Reading.{IsDigit}
use Rattle.mig_lex.proofs.Lists.{all_at}

-- ---- what decimals are
digits_of_all : (ds : List ℕ) → AllDigits 10 ds → AllByRecursion IsDigit ds
digits_of_all [] d = tt
digits_of_all (c ∷ cs) d = (digit_from_value c d.0, digits_of_all cs d.1)

module _ (n : ℕ) (small : n < 10 ^ 20) where
  numeral : IsNumeral 10 (decimal n) × (digits_value 10 (decimal n) ≡ n)
  numeral = decimal_is_IsNumeral_wide n (omega arith)

  pub decimal_digits : AllByRecursion IsDigit (decimal n)
  decimal_digits = digits_of_all (decimal n) numeral.0.1

  pub decimal_some : 0 < length (decimal n)
  decimal_some = numeral.0.0

  pub decimal_value : digits_value 10 (decimal n) ≡ n
  decimal_value = numeral.1

  pub decimal_short : length (decimal n) ≤ 20
  decimal_short = length-decimal-le_wide 20 n (omega arith) small (omega arith)

  pub decimal_leads : 0 < n → 48 < get_or (decimal n) 0 0
  decimal_leads some =
      (decimal_by_steps_wide (λ m ds. (0 < length ds) × (0 < m → 48 < get_or ds 0 0)) (λ m l. (omega arith, λ a. omega arith))
      (λ m ds l h. (omega (arith, length-append ds ((48 + m % 10) ∷ [])), λ a. omega (arith, get_or_append_left ds ((48 + m % 10) ∷ []) 0 0 h.0, h.1 (omega arith)))) n (omega arith)).1 some

pub decimal_first : (n : ℕ) → n < 10 ^ 20 → IsDigit (get_or (decimal n) 0 0)
decimal_first n small = all_at IsDigit (decimal n) (decimal_digits n small) 0 (decimal_some n small)

pub signed_first : (z : ℤ) → nat_abs z < 10 ^ 20 → IsDigit (get_or (signed_decimal z) 0 0) ⊎ (get_or (signed_decimal z) 0 0 ≡ 45)
signed_first (pos n) small = inl (decimal_first n small)
signed_first (negsuc n) small = inr refl

pub decimal_injective : (m n : ℕ) → m < 10 ^ 20 → n < 10 ^ 20 → decimal m ≡ decimal n → m ≡ n
decimal_injective m n p q e = sym (decimal_value m p) ∙ ap (digits_value 10) e ∙ decimal_value n q

no_minus : (n m : ℕ) → n < 10 ^ 20 → decimal n ≡ signed_decimal (negsuc m) → ⊥
no_minus n m p e = omega (arith, decimal_first n p, ap (λ (l : List ℕ). get_or l 0 0) e)

pub signed_injective : (y z : ℤ) → nat_abs y < 10 ^ 20 → nat_abs z < 10 ^ 20 → signed_decimal y ≡ signed_decimal z → y ≡ z
signed_injective (pos m) (pos n) p q e = ap pos (decimal_injective m n p q e)
signed_injective (pos m) (negsuc n) p q e = absurd (no_minus m n p e)
signed_injective (negsuc m) (pos n) p q e = absurd (no_minus n m q (sym e))
signed_injective (negsuc m) (negsuc n) p q e = ap negsuc (omega (arith, decimal_injective (suc m) (suc n) p q (ap (drop 1) e)))

-- ---- digits with no leading zero are the decimal of their value
le_value_after : (n : ℕ) (ds : List ℕ) → n ≤ digits_value_after 10 n ds
le_value_after n [] = omega arith
le_value_after n (c ∷ cs) = omega (arith, le_value_after (n * 10 + digit_value c) cs)

decimal_after : (n : ℕ) (ds : List ℕ) → 0 < n → AllDigits 10 ds → digits_value_after 10 n ds < 10 ^ 20 → decimal (digits_value_after 10 n ds) ≡ decimal n ++ ds
decimal_after n [] some d small = sym (append-nil (decimal n))
decimal_after n (c ∷ cs) some d small =
    let m : ℕ = n * 10 + digit_value c in
    let k = digit_value_digit c (digit_from_value c d.0) in
    let front : m / 10 ≡ n = omega (arith, d.0) in
    let end : 48 + m % 10 ≡ c = omega (arith, d.0) in
    decimal_after m cs (omega arith) d.1 small
    ∙ ap (λ x. x ++ cs) (decimal_step_wide m (omega arith) (omega (arith, le_value_after m cs)) ∙ (λ i. decimal (front i) ++ (end i ∷ [])))
    ∙ append_assoc (decimal n) (c ∷ []) cs

pub decimal_again : (ds : List ℕ) → AllDigits 10 ds → 48 < get_or ds 0 0 → digits_value 10 ds < 10 ^ 20 → decimal (digits_value 10 ds) ≡ ds
decimal_again [] d lead small = absurd (omega arith)
decimal_again (c ∷ cs) d lead small =
    let k = digit_value_digit c (digit_from_value c d.0) in
    let is : 48 + (0 * 10 + digit_value c) ≡ c = omega arith in
    decimal_after (0 * 10 + digit_value c) cs (omega arith) d.1 small
    ∙ ap (λ x. x ++ cs) (decimal_digit (0 * 10 + digit_value c) (omega (arith, d.0)) ∙ ap (λ x. x ∷ []) is)

pub all_digits : (ds : List ℕ) → AllByRecursion IsDigit ds → AllDigits 10 ds
all_digits [] d = tt
all_digits (c ∷ cs) d = (omega (arith, digit_value_digit c d.0, d.0), all_digits cs d.1)

-- one digit more
pub value_step : (digits : List ℕ) (i v d : ℕ) → i < length digits → IsDigit (get_or digits i 0) → v ≡ digits_value 10 (take i digits) → d ≡ get_or digits i 0 - 48 → v * 10 + d ≡ digits_value 10 (take (i + 1) digits)
value_step digits i v d lt digit so_far is = omega (arith, digits_value_more 10 digits i lt, digit_value_digit (get_or digits i 0) digit)

pub small_step : (v d i : ℕ) → v < 10 ^ i → d < 10 → v * 10 + d < 10 ^ (i + 1)
small_step v d i h l =
    let e : 10 ^ (i + 1) ≡ 10 ^ i * 10 = ap (λ k. 10 ^ k) (add-one i) ∙ pow-suc 10 i in
    omega arith
