-- Reading of numbers.
use Rattle.std.proofs.Common.{◌≡◌, inl, inr, ℕ, zero, suc, ◌+◌, ◌^◌, ◌<◌, ◌≤◌, List, [], ◌∷◌, ◌++◌, length, take, drop, get_or, ℤ, pos, negsuc, neg_ℤ, nat_abs, refl, sym, ap, subst, ◌∙◌, length-append, length-drop, length-take-le, take-append-drop, get_or-append-add, get_or-drop, arith}
use Rattle.std.specs.Fmt.{decimal, signed_decimal}
use Rattle.std.specs.List.{AllByRecursion}
use Rattle.std.specs.Str.Parse.{digits_value}
use Rattle.std.proofs.lemmas.Fmt.{decimal_digit}
use Rattle.mig_token.specs.Token.{number}
use Rattle.mig_token.specs.Lexical.{IsToken, a_number}
use Rattle.mig_lex.specs.Reading.{IsRun, IsDigit, IsLeadingDigit, ReadsToken, ReadsDecimal, HasNoToken}
use Rattle.mig_lex.proofs.Lists.{all_taken, all_at, first_of_front, some_byte, front_parted}
use Rattle.mig_lex.proofs.Decimals.{decimal_digits, decimal_some, decimal_short, decimal_leads, decimal_first, decimal_again, all_digits}
use Rattle.mig_lex.proofs.Forms.{first, form_of, number_form, has_byte}

-- ---- the digits at the front
pub decimal_read : (bytes digits rest : List ℕ) (n v : ℕ) → IsRun IsDigit 20 bytes n → IsLeadingDigit (first bytes) → digits ≡ take n bytes → rest ≡ drop n bytes → v ≡ digits_value 10 digits → v < 10 ^ 20 → ReadsDecimal bytes v rest
decimal_read bytes digits rest n v run lead p q is small =
    let within = run.within in
    let size : length digits ≡ n = ap length p ∙ length-take-le n bytes within in
    let whole : bytes ≡ digits ++ rest = rw (p, q) (sym (take-append-drop n bytes)) in
    let all : AllByRecursion IsDigit digits = subst (AllByRecursion IsDigit) (sym p) (all_taken IsDigit bytes n within run.each) in
    let some : 0 < length digits = has_digit n run size in
    let leads : first digits ≡ first bytes = sym (ap first whole ∙ first_of_front digits rest some) in
    let again : decimal v ≡ digits = ap decimal is ∙ decimal_again digits (all_digits digits all) (omega (arith, lead)) (omega (arith, is)) in
    record {
      whole = rw again whole;
      small = small;
      last = λ short more d.
          let behind : length rest + n ≡ length bytes = omega (arith, ap length q, length-drop n bytes) in
          let at : first rest ≡ get_or bytes n 0 = ap first q ∙ get_or-drop n bytes 0 0 ∙ ap (λ k. get_or bytes k 0) (omega arith) in
          run.last (omega (arith, ap length again)) (omega arith) (subst IsDigit at d);
    }
  where
    has_digit : (n : ℕ) → IsRun IsDigit 20 bytes n → length digits ≡ n → 0 < length digits
    has_digit zero run size = absurd (run.last (omega arith) (some_byte bytes (omega (arith, lead.0))) (omega (arith, lead.0), lead.1))
    has_digit (suc n) run size = omega arith

-- ---- the longest number
no_more_digits : (n m : ℕ) (rest : List ℕ) (k : ℕ) → n < 10 ^ 20 → m < 10 ^ 20 → (length (decimal n) < 20 → 0 < length rest → IsDigit (first rest) → ⊥) → 0 < k → k ≤ length rest → decimal n ++ take k rest ≡ decimal m → ⊥
no_more_digits n m rest k small little last some fits e =
    let taken : length (take k rest) ≡ k = length-take-le k rest fits in
    let size : length (decimal n) + k ≡ length (decimal m) = omega (arith, length-append (decimal n) (take k rest), ap length e) in
    let short = decimal_short m little in
    let next : get_or (decimal n ++ take k rest) (length (decimal n) + 0) 0 ≡ first (take k rest) = get_or-append-add (decimal n) (take k rest) 0 0 in
    let zero_more : length (decimal n) + 0 ≡ length (decimal n) = omega arith in
    let at : first rest ≡ get_or (decimal m) (length (decimal n)) 0 = sym (first_taken rest k some) ∙ sym next ∙ ap (λ j. get_or (decimal n ++ take k rest) j 0) zero_more ∙ ap (λ (l : List ℕ). get_or l (length (decimal n)) 0) e in
    last (omega arith) (omega arith) (subst IsDigit (sym at) (all_at IsDigit (decimal m) (decimal_digits m little) (length (decimal n)) (omega arith)))
  where
    first_taken : (l : List ℕ) (k : ℕ) → 0 < k → first (take k l) ≡ first l
    first_taken l zero h = absurd (omega arith)
    first_taken [] (suc k) h = refl
    first_taken (x ∷ l) (suc k) h = refl

digit_front : (n : ℕ) (l : List ℕ) → n < 10 ^ 20 → IsDigit (first (decimal n ++ l))
digit_front n l small = subst IsDigit (sym (first_of_front (decimal n) l (decimal_some n small))) (decimal_first n small)

pub positive_read : (bytes rest : List ℕ) (n : ℕ) → ReadsDecimal bytes n rest → ReadsToken bytes (number (pos n)) rest
positive_read bytes rest n d = record {
  front = decimal n;
  whole = d.whole;
  token = a_number (pos n) d.small;
  longest = λ k some fits u y.
      let f = number_form (form_of y) (inl (digit_front n (take k rest) d.small)) in
      by k some fits f.0 f.1 f.2;
}
  where
    by : (k : ℕ) → 0 < k → k ≤ length rest → (z : ℤ) → nat_abs z < 10 ^ 20 → decimal n ++ take k rest ≡ signed_decimal z → ⊥
    by k some fits (pos m) small e = no_more_digits n m rest k d.small small d.last some fits e
    by k some fits (negsuc m) small e = omega (arith, digit_front n (take k rest) d.small, ap first e)

minus_read : (digits rest : List ℕ) (j : ℕ) → ReadsDecimal digits (suc j) rest → ReadsToken (45 ∷ digits) (number (negsuc j)) rest
minus_read digits rest j d = record {
  front = 45 ∷ decimal (suc j);
  whole = ap (λ (l : List ℕ). 45 ∷ l) d.whole;
  token = a_number (negsuc j) d.small;
  longest = λ k some fits u y.
      let f = number_form (form_of y) (inr refl) in
      by k some fits f.0 f.1 f.2;
}
  where
    by : (k : ℕ) → 0 < k → k ≤ length rest → (z : ℤ) → nat_abs z < 10 ^ 20 → 45 ∷ (decimal (suc j) ++ take k rest) ≡ signed_decimal z → ⊥
    by k some fits (pos m) small e = omega (arith, decimal_first m small, ap first e)
    by k some fits (negsuc m) small e = no_more_digits (suc j) (suc m) rest k d.small small d.last some fits (ap (drop 1) e)

pub negative_read : (digits rest : List ℕ) (n : ℕ) → IsLeadingDigit (first digits) → ReadsDecimal digits n rest → ReadsToken (45 ∷ digits) (number (neg_ℤ (pos n))) rest
negative_read digits rest zero lead d =
    let zeros : first (decimal 0 ++ rest) ≡ 48 = ap (λ (l : List ℕ). first (l ++ rest)) (decimal_digit 0 (omega arith)) in
    absurd (omega (arith, lead, ap first d.whole))
negative_read digits rest (suc j) lead d = minus_read digits rest j d

pub zero_read : (rest : List ℕ) → ReadsToken (48 ∷ rest) (number (pos 0)) rest
zero_read rest = record {
  front = 48 ∷ [];
  whole = refl;
  token = subst (λ (b : List ℕ). IsToken b (number (pos 0))) (decimal_digit 0 (omega arith)) (a_number (pos 0) (omega arith));
  longest = λ k some fits u y.
      let f = number_form (form_of y) (inl (omega arith, omega arith)) in
      by k some fits f.0 f.1 f.2;
}
  where
    by : (k : ℕ) → 0 < k → k ≤ length rest → (z : ℤ) → nat_abs z < 10 ^ 20 → 48 ∷ take k rest ≡ signed_decimal z → ⊥
    by k some fits (pos zero) small e = omega (arith, length-take-le k rest fits, ap length (e ∙ decimal_digit 0 (omega arith)))
    by k some fits (pos (suc m)) small e = omega (arith, decimal_leads (suc m) small (omega arith), ap first e)
    by k some fits (negsuc m) small e = omega (arith, ap first e)

-- `-` stands before a digit from 1 to 9
pub no_number : (digits : List ℕ) → (IsLeadingDigit (first digits) → ⊥) → HasNoToken (45 ∷ digits)
no_number digits never [] rest t e x = absurd (omega (arith, has_byte x))
no_number digits never (c ∷ cs) rest t e x =
    let f = number_form (form_of x) (inr (sym (ap first e))) in
    by f.0 f.1 f.2
  where
    by : (z : ℤ) → nat_abs z < 10 ^ 20 → c ∷ cs ≡ signed_decimal z → ⊥
    by (pos m) small s = omega (arith, decimal_first m small, ap first s, ap first e)
    by (negsuc m) small s =
        let behind : digits ≡ cs ++ rest = cc in
        let same : cs ≡ decimal (suc m) = ap (drop 1) s in
        let is : first digits ≡ first (decimal (suc m)) = ap first behind ∙ ap (λ (l : List ℕ). first (l ++ rest)) same ∙ first_of_front (decimal (suc m)) rest (decimal_some (suc m) small) in
        never (omega (arith, decimal_leads (suc m) small (omega arith)), omega (arith, decimal_first (suc m) small))

-- ---- the same of any bytes
module _ (bytes digits : List ℕ) (some : 1 ≤ length bytes) (behind : digits ≡ drop 1 bytes) where
  parts : (c : ℕ) → first bytes ≡ c → bytes ≡ c ∷ digits
  parts c is = front_parted bytes digits c some is behind

  pub zero_at : first bytes ≡ 48 → ReadsToken bytes (number (pos 0)) digits
  zero_at is = subst (λ (l : List ℕ). ReadsToken l (number (pos 0)) digits) (sym (parts 48 is)) (zero_read digits)

  pub negative_at : first bytes ≡ 45 → (n : ℕ) (rest : List ℕ) (z : ℤ) → IsLeadingDigit (first digits) → ReadsDecimal digits n rest → z ≡ neg_ℤ (pos n) → ReadsToken bytes (number z) rest
  negative_at is n rest z lead d e = rw e (subst (λ (l : List ℕ). ReadsToken l (number (neg_ℤ (pos n))) rest) (sym (parts 45 is)) (negative_read digits rest n lead d))

  pub no_number_at : first bytes ≡ 45 → (IsLeadingDigit (first digits) → ⊥) → HasNoToken bytes
  no_number_at is never = subst HasNoToken (sym (parts 45 is)) (no_number digits never)
