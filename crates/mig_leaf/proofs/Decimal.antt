-- Numbers in plain decimal: how their text begins, and that it is read back.
use Rattle.std.proofs.Common.{◌≡◌, inl, inr, Some, None, Result, Ok, Err, true, false, eqb, ℕ, zero, suc, ◌^◌, ◌<◌, List, [], ◌∷◌, length, get_or, ℤ, pos, negsuc, neg_ℤ, refl, sym, ap, ◌∙◌, subst, arith}
use lib.Signed.{mag}
use Rattle.std.specs.Fmt.{decimal, signed_decimal}
use Rattle.std.specs.Int.{w64}
use Rattle.std.specs.Prelude.{FitsSigned, IfSome, MatchResult}
use Rattle.std.specs.Str.Parse.{AllDigits, IsNumeral, digits_value, without_leading_sign, signed_digits_value, ParsesSigned}
use Rattle.std.specs.Result.{result_ok}
use Rattle.std.proofs.lemmas.Fmt.{decimal_is_IsNumeral, decimal_digit, first_decimal, decimal-digits_value, IsAscii-signed}
use Rattle.std.proofs.lemmas.Str.{IsUtf8-from_ascii}
use Rattle.std.proofs.lemmas.Bool.Decides.{nat_tests}
use Rattle.std.specs.Str.{IsUtf8}
use Rattle.std.proofs.lemmas.Str.Parse.{numerals_by_value, tells_digits, digit_at}
use Rattle.mig_leaf.specs.Spelling.{IsLeading, BeginsPlain}

leads : (n : ℕ) → 0 < n → n < 2 ^ 64 → IsLeading (get_or (decimal n) 0 0)
leads n some small =
    let numeral = decimal_is_IsNumeral n small in
    (first_decimal n some small, omega (arith, digit_at (decimal n) 0 numeral.0.1 numeral.0.0))

-- the text of a number begins in one of the three ways
pub begins : (z : ℤ) → mag z < 2 ^ 63 → BeginsPlain (signed_decimal z)
begins (pos zero) small = inl (decimal_digit 0 (omega arith))
begins (pos (suc n)) small = inr (inl (leads (suc n) (omega arith) (omega arith)))
begins (negsuc n) small = inr (inr (refl, leads (suc n) (omega arith) (omega arith)))

-- digits with no needless `0` are the decimal of their value
again : (ds : List ℕ) → IsNumeral 10 ds → (get_or ds 0 0 ≡ 48 → length ds ≡ 1) → digits_value 10 ds < 2 ^ 64 → decimal (digits_value 10 ds) ≡ ds
again ds numeral lead small = decimal-digits_value (numerals_by_value (AllDigits 10) tells_digits) ds numeral.1 numeral.0 lead small

unsigned : (s : List ℕ) (z : ℤ) → 47 < get_or s 0 0 → (get_or s 0 0 ≡ 48 → length s ≡ 1) → IsNumeral 10 (without_leading_sign s) → FitsSigned w64 (signed_digits_value 10 s) → z ≡ signed_digits_value 10 s
    → s ≡ signed_decimal z
unsigned s z digit lead numeral fits is =
    let minus : eqb (get_or s 0 0) 45 ≡ false = grind (arith, nat_tests) in
    let plus : eqb (get_or s 0 0) 43 ≡ false = grind (arith, nat_tests) in
    let same : without_leading_sign s ≡ s = rw (minus, plus) refl in
    let value : signed_digits_value 10 s ≡ pos (digits_value 10 s) = rw (minus, plus) refl in
    let small : FitsSigned w64 (pos (digits_value 10 s)) = subst (FitsSigned w64) value fits in
    sym (again s (subst (IsNumeral 10) same numeral) lead (omega arith)) ∙ ap signed_decimal (sym (is ∙ value))

negative : (v : ℕ) → 0 < v → signed_decimal (neg_ℤ (pos v)) ≡ 45 ∷ decimal v
negative zero some = absurd (omega arith)
negative (suc n) some = refl

some_value : (ds : List ℕ) → IsLeading (get_or ds 0 0) → decimal (digits_value 10 ds) ≡ ds → 0 < digits_value 10 ds
some_value ds lead e = by (digits_value 10 ds) e
  where
    by : (v : ℕ) → decimal v ≡ ds → 0 < v
    by zero f = absurd (omega (arith, lead.0, ap (λ (l : List ℕ). get_or l 0 0) (sym (decimal_digit 0 (omega arith)) ∙ f)))
    by (suc n) f = omega arith

value_small : (v : ℕ) → FitsSigned w64 (neg_ℤ (pos v)) → v < 2 ^ 64
value_small zero fits = omega arith
value_small (suc n) fits = omega arith

signed : (ds : List ℕ) (z : ℤ) → IsLeading (get_or ds 0 0) → IsNumeral 10 ds → FitsSigned w64 (neg_ℤ (pos (digits_value 10 ds))) → z ≡ neg_ℤ (pos (digits_value 10 ds)) → 45 ∷ ds ≡ signed_decimal z
signed ds z lead numeral fits is =
    let same : decimal (digits_value 10 ds) ≡ ds = again ds numeral (λ e. absurd (omega (arith, lead.0))) (value_small (digits_value 10 ds) fits) in
    sym (ap signed_decimal is ∙ negative (digits_value 10 ds) (some_value ds lead same) ∙ ap (λ l. 45 ∷ l) same)

-- the text that is read as a number is the decimal of that number
read_back : (s : List ℕ) (z : ℤ) → BeginsPlain s → IsNumeral 10 (without_leading_sign s) → FitsSigned w64 (signed_digits_value 10 s) → z ≡ signed_digits_value 10 s → s ≡ signed_decimal z
read_back s z (inl e) numeral fits is = unsigned s z (omega (arith, ap (λ (l : List ℕ). get_or l 0 0) e)) (λ _. ap length e) numeral fits is
read_back s z (inr (inl lead)) numeral fits is = unsigned s z (omega (arith, lead.0)) (λ e. absurd (omega (arith, lead.0))) numeral fits is
read_back [] z (inr (inr b)) numeral fits is = absurd (omega (arith, b.0))
read_back (c ∷ cs) z (inr (inr b)) numeral fits is =
    let minus : eqb c 45 ≡ true = grind (arith, nat_tests) in
    let value : signed_digits_value 10 (c ∷ cs) ≡ neg_ℤ (pos (digits_value 10 cs)) = rw minus refl in
    let same : without_leading_sign (c ∷ cs) ≡ cs = rw minus refl in
    ap (λ x. x ∷ cs) b.0 ∙ signed cs z b.1 (subst (IsNumeral 10) same numeral) (subst (FitsSigned w64) value fits) (is ∙ value)

pub is_utf8 : (z : ℤ) → mag z < 2 ^ 63 → IsUtf8 (signed_decimal z)
is_utf8 z small = IsUtf8-from_ascii (signed_decimal z) (IsAscii-signed z small)

-- ---- what the calls of std answer
pub found_text : {S E : Type 0} (r : Result S E) (P : S → Type 0) (Q : E → Type 0) (s : S) → MatchResult r P Q → result_ok r ≡ Some s → P s
found_text (Ok x) P Q s h e = let same : x ≡ s = cc in subst P same h
found_text (Err x) P Q s h e = absurd (let no : None ≡ Some s = e in cc)

pub no_text : {S E : Type 0} (r : Result S E) (P : S → Type 0) (A : Type 0) (B : E → Type 0) → MatchResult r P (λ e. ¬ A × B e) → result_ok r ≡ None → A → ⊥
no_text (Ok x) P A B h e a = absurd (let no : Some x ≡ None = e in cc)
no_text (Err x) P A B h e a = h.0 a

pub read : {E : Type 0} (s : List ℕ) (r : Result ℤ E) → BeginsPlain s → ParsesSigned w64 10 s r → IfSome (result_ok r) (λ z. s ≡ signed_decimal z)
read s (Ok z) begin h = read_back s z begin h.0.0 h.0.1 h.1
read s (Err e) begin h = tt

-- ---- a number's decimal has its value
unsigned_value : (n : ℕ) → n < 2 ^ 64 → signed_digits_value 10 (decimal n) ≡ pos n
unsigned_value n small =
    let numeral = decimal_is_IsNumeral n small in
    let digit = digit_at (decimal n) 0 numeral.0.1 numeral.0.0 in
    let minus : eqb (get_or (decimal n) 0 0) 45 ≡ false = grind (arith, nat_tests) in
    let plus : eqb (get_or (decimal n) 0 0) 43 ≡ false = grind (arith, nat_tests) in
    rw (minus, plus) (ap pos numeral.1)

pub value_is : (z : ℤ) → mag z < 2 ^ 63 → signed_digits_value 10 (signed_decimal z) ≡ z
value_is (pos n) small = unsigned_value n (omega arith)
value_is (negsuc n) small = ap (λ v. neg_ℤ (pos v)) (decimal_is_IsNumeral (suc n) (omega arith)).1
