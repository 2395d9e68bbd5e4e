-- The forms of a token, told by its first byte.
use Rattle.std.proofs.Common.{◌≡◌, ◌≢◌, ◌⊎◌, inl, inr, ℕ, ◌<◌, ◌≤◌, ◌^◌, Bool, true, false, ◌&&◌, nat_le, nat_lt, List, [], ◌∷◌, ◌++◌, length, get_or, ℤ, nat_abs, refl, sym, ap, subst, ◌∙◌, arith, ltb-true, leb-true}
use Rattle.std.proofs.lemmas.Bool.{and_parts}
use Rattle.std.proofs.lemmas.List.{append_cancel_right}
use Rattle.std.specs.Str.{chars, IsUtf8}
use Rattle.std.specs.Fmt.{signed_decimal}
use Rattle.std.specs.List.{AllByRecursion}
use Rattle.mig_token.specs.declared.mark.Mark.{Mark}
use Rattle.mig_token.specs.declared.mark.Mark.TheVariants as M
use Rattle.mig_token.specs.Spelling.{spelling}
use Rattle.mig_token.proofs.Marks.{one_mark}
use Rattle.mig_token.specs.Token.{Tok, mark, name, number, text}
use Rattle.mig_token.specs.Lexical.{IsWhite, IsLetter, IsWordByte, IsWord, IsStringChar, IsToken, a_mark, a_name, a_number, a_string}
use Rattle.mig_lex.specs.Reading.{IsDigit}
use Rattle.mig_lex.proofs.Lists.{some_byte}
use Rattle.mig_lex.proofs.Decimals.{signed_first, signed_injective}

abbrev pub first : List ℕ → ℕ
first b = get_or b 0 0

-- ---- words
abbrev is_letter : ℕ → Bool
is_letter c = nat_le 97 c && nat_le c 122

abbrev are_letters : List ℕ → Bool
are_letters [] = true
are_letters (c ∷ cs) = is_letter c && are_letters cs

letter : (c : ℕ) → is_letter c ≡ true → IsLetter c
letter c e = let p = and_parts (nat_le 97 c) (nat_le c 122) e in (leb-true 97 c p.0, leb-true c 122 p.1)

letters : (cs : List ℕ) → are_letters cs ≡ true → AllByRecursion IsWordByte cs
letters [] e = tt
letters (c ∷ cs) e = let p = and_parts (is_letter c) (are_letters cs) e in (inl (letter c p.0), letters cs p.1)

abbrev is_plain_word : List ℕ → Bool
is_plain_word [] = false
is_plain_word (c ∷ cs) = (is_letter c && are_letters cs) && nat_lt (length cs) 64

plain_word : (b : List ℕ) → is_plain_word b ≡ true → IsWord b
plain_word [] e = absurd cc
plain_word (c ∷ cs) e =
    let p = and_parts (is_letter c && are_letters cs) (nat_lt (length cs) 64) e in
    let q = and_parts (is_letter c) (are_letters cs) p.0 in
    (letter c q.0, letters cs q.1, ltb-true (length cs) 64 p.1)

pub word_first : (b : List ℕ) → IsWord b → IsLetter (first b)
word_first [] w = absurd w
word_first (c ∷ cs) w = w.0

-- ---- signs
pub record IsSignByte (c : ℕ) : Type 0 where
  pub above : 34 < c
  pub no_minus : c ≢ 45
  pub no_dot : c ≢ 46
  pub no_digit : c < 58 → c < 48
  pub no_letter : c < 123 → c < 97

low_sign : (c : ℕ) → 34 < c → c < 45 → IsSignByte c
low_sign c p q = record { above = p; no_minus = λ e. omega arith; no_dot = λ e. omega arith; no_digit = λ h. omega arith; no_letter = λ h. omega arith }

middle_sign : (c : ℕ) → 57 < c → c < 97 → IsSignByte c
middle_sign c p q = record { above = omega arith; no_minus = λ e. omega arith; no_dot = λ e. omega arith; no_digit = λ h. omega arith; no_letter = λ h. omega arith }

high_sign : (c : ℕ) → 122 < c → IsSignByte c
high_sign c p = record { above = omega arith; no_minus = λ e. omega arith; no_dot = λ e. omega arith; no_digit = λ h. omega arith; no_letter = λ h. omega arith }

-- one byte, or `..`
abbrev pub IsSign : List ℕ → Type 0
IsSign b = ((c : ℕ) × (b ≡ c ∷ []) × IsSignByte c) ⊎ (b ≡ 46 ∷ 46 ∷ [])

one_byte : (b : List ℕ) (c : ℕ) → b ≡ c ∷ [] → IsSignByte c → IsWord b ⊎ IsSign b
one_byte b c e s = inr (inl (c, e, s))

pub word_or_sign : (m : Mark) → IsWord (spelling m) ⊎ IsSign (spelling m)
word_or_sign M.Equals = one_byte (spelling M.Equals) 61 refl (middle_sign 61 (omega arith) (omega arith))
word_or_sign M.Colon = one_byte (spelling M.Colon) 58 refl (middle_sign 58 (omega arith) (omega arith))
word_or_sign M.Comma = one_byte (spelling M.Comma) 44 refl (low_sign 44 (omega arith) (omega arith))
word_or_sign M.Question = one_byte (spelling M.Question) 63 refl (middle_sign 63 (omega arith) (omega arith))
word_or_sign M.Open = one_byte (spelling M.Open) 40 refl (low_sign 40 (omega arith) (omega arith))
word_or_sign M.Close = one_byte (spelling M.Close) 41 refl (low_sign 41 (omega arith) (omega arith))
word_or_sign M.CurlyOpen = one_byte (spelling M.CurlyOpen) 123 refl (high_sign 123 (omega arith))
word_or_sign M.CurlyClose = one_byte (spelling M.CurlyClose) 125 refl (high_sign 125 (omega arith))
word_or_sign M.Dots = inr (inr refl)
word_or_sign m = inl (plain_word (spelling m) refl)

-- ---- the class of a first byte: a letter, a digit or `-`, a quotation mark, or another
abbrev pub IsNumberByte : ℕ → Type 0
IsNumberByte c = IsDigit c ⊎ (c ≡ 45)

pub record IsOther (c : ℕ) : Type 0 where
  pub letter : IsLetter c → ⊥
  pub number : IsNumberByte c → ⊥
  pub quotation : c ≢ 34
  pub above : 32 < c

sign_byte_other : (c : ℕ) → IsSignByte c → IsOther c
sign_byte_other c s =
    let above = s.above in
    let minus = s.no_minus in
    let digit = s.no_digit in
    let alpha = s.no_letter in
    record {
      letter = λ l. omega (arith, l, alpha);
      number = λ n. elim n [ inl d ↦ omega (arith, d, digit) | inr e ↦ minus e ];
      quotation = λ e. omega arith;
      above = omega arith;
    }

pub sign_first : (b : List ℕ) → IsSign b → IsOther (first b)
sign_first b (inl s) = subst (λ (l : List ℕ). IsOther (first l)) (sym s.1) (sign_byte_other s.0 s.2)
sign_first b (inr e) = subst (λ (l : List ℕ). IsOther (first l)) (sym e) (record {
  letter = λ l. omega (arith, l);
  number = λ n. elim n [ inl d ↦ omega (arith, d) | inr z ↦ omega (arith, z) ];
  quotation = λ z. omega (arith, z);
  above = omega arith;
})

-- what stands between the quotation marks
pub record IsText (s : List ℕ) : Type 0 where
  pub utf8 : IsUtf8 s
  pub each : AllByRecursion IsStringChar (chars s)
  pub short : length s ≤ 1024

abbrev pub quoted : List ℕ → List ℕ
quoted s = 34 ∷ (s ++ 34 ∷ [])

-- the form of a token, with what its bytes are
pub data Form : List ℕ → Tok → Type 0 where
  a_word : (b : List ℕ) (t : Tok) → IsWord b → Form b t
  a_decimal : (b : List ℕ) (z : ℤ) → nat_abs z < 10 ^ 20 → b ≡ signed_decimal z → Form b (number z)
  a_quoted : (b s : List ℕ) → b ≡ quoted s → IsText s → Form b (text s)
  a_sign : (b : List ℕ) (m : Mark) → b ≡ spelling m → IsSign b → Form b (mark m)

form_of_mark : (m : Mark) → IsWord (spelling m) ⊎ IsSign (spelling m) → Form (spelling m) (mark m)
form_of_mark m (inl w) = a_word (spelling m) (mark m) w
form_of_mark m (inr s) = a_sign (spelling m) m refl s

pub form_of : {b : List ℕ} {t : Tok} → IsToken b t → Form b t
form_of (a_mark m) = form_of_mark m (word_or_sign m)
form_of (a_name b w other) = a_word b (name b) w
form_of (a_number z small) = a_decimal (signed_decimal z) z small refl
form_of (a_string s utf8 each short) = a_quoted (quoted s) s refl (record { utf8 = utf8; each = each; short = short })

first_quoted : (b s : List ℕ) → b ≡ quoted s → first b ≡ 34
first_quoted b s e = ap first e

first_number : (b : List ℕ) (z : ℤ) → nat_abs z < 10 ^ 20 → b ≡ signed_decimal z → IsNumberByte (first b)
first_number b z small e = subst (λ (l : List ℕ). IsNumberByte (first l)) (sym e) (signed_first z small)

number_byte : (c : ℕ) → IsNumberByte c → (44 < c) × (c < 58)
number_byte c (inl d) = (omega (arith, d), omega (arith, d))
number_byte c (inr e) = (omega arith, omega arith)

pub letter_form : {b : List ℕ} {t : Tok} → Form b t → IsLetter (first b) → IsWord b
letter_form (a_word b t w) l = w
letter_form (a_decimal b z small e) l = absurd (omega (arith, l, number_byte (first b) (first_number b z small e)))
letter_form (a_quoted b s e ok) l = absurd (omega (arith, l, first_quoted b s e))
letter_form (a_sign b m is s) l = absurd ((sign_first b s).letter l)

pub number_form : {b : List ℕ} {t : Tok} → Form b t → IsNumberByte (first b) → (z : ℤ) × (nat_abs z < 10 ^ 20) × (b ≡ signed_decimal z) × (t ≡ number z)
number_form (a_word b t w) n = absurd (omega (arith, word_first b w, number_byte (first b) n))
number_form (a_decimal b z small e) n = (z, small, e, refl)
number_form (a_quoted b s e ok) n = absurd (omega (arith, first_quoted b s e, number_byte (first b) n))
number_form (a_sign b m is s) n = absurd ((sign_first b s).number n)

pub quoted_form : {b : List ℕ} {t : Tok} → Form b t → first b ≡ 34 → (s : List ℕ) × (b ≡ quoted s) × IsText s × (t ≡ text s)
quoted_form (a_word b t w) q = absurd (omega (arith, q, word_first b w))
quoted_form (a_decimal b z small e) q = absurd (omega (arith, q, number_byte (first b) (first_number b z small e)))
quoted_form (a_quoted b s e ok) q = (s, e, ok, refl)
quoted_form (a_sign b m is s) q = absurd ((sign_first b s).quotation q)

pub other_form : {b : List ℕ} {t : Tok} → Form b t → (IsLetter (first b) → ⊥) → (IsNumberByte (first b) → ⊥) → first b ≢ 34 → (m : Mark) × (b ≡ spelling m) × IsSign b
other_form (a_word b t w) l n q = absurd (l (word_first b w))
other_form (a_decimal b z small e) l n q = absurd (n (first_number b z small e))
other_form (a_quoted b s e ok) l n q = absurd (q (first_quoted b s e))
other_form (a_sign b m is s) l n q = (m, is, s)

-- ---- a token has a byte, and its first is no white space
white_small : (c : ℕ) → IsWhite c → c < 33
white_small c (inl e) = omega arith
white_small c (inr (inl e)) = omega arith
white_small c (inr (inr (inl e))) = omega arith
white_small c (inr (inr (inr e))) = omega arith

form_above : {b : List ℕ} {t : Tok} → Form b t → 32 < first b
form_above (a_word b t w) = omega (arith, word_first b w)
form_above (a_decimal b z small e) = omega (arith, number_byte (first b) (first_number b z small e))
form_above (a_quoted b s e ok) = omega (arith, first_quoted b s e)
form_above (a_sign b m is s) = (sign_first b s).above

pub first_not_white : {b : List ℕ} {t : Tok} → IsToken b t → IsWhite (first b) → ⊥
first_not_white {b = b} x w = omega (arith, white_small (first b) w, form_above (form_of x))

pub has_byte : {b : List ℕ} {t : Tok} → IsToken b t → 0 < length b
has_byte {b = b} x = some_byte b (omega (arith, form_above (form_of x)))

-- ---- a token's bytes have one token
number_is : {b : List ℕ} {t : Tok} → IsToken b t → (z : ℤ) → nat_abs z < 10 ^ 20 → b ≡ signed_decimal z → t ≡ number z
number_is {b = b} x z small e =
    let f = number_form (form_of x) (first_number b z small e) in
    f.3 ∙ ap number (signed_injective f.0 z f.1 small (sym f.2 ∙ e))

one_text : (s r : List ℕ) → quoted s ≡ quoted r → s ≡ r
one_text s r e = let t : s ++ 34 ∷ [] ≡ r ++ 34 ∷ [] = cc in append_cancel_right s r (34 ∷ []) t

text_is : {b : List ℕ} {t : Tok} → IsToken b t → (s : List ℕ) → b ≡ quoted s → t ≡ text s
text_is {b = b} x s e =
    let f = quoted_form (form_of x) (first_quoted b s e) in
    f.3 ∙ ap text (one_text f.0 s (sym f.1 ∙ e))

same_bytes : {b c : List ℕ} {t u : Tok} → IsToken b t → IsToken c u → b ≡ c → t ≡ u
same_bytes (a_mark m) (a_mark n) e = ap mark (one_mark m n e)
same_bytes (a_mark m) (a_name c w other) e = absurd (other m (sym e))
same_bytes (a_name b w other) (a_mark n) e = absurd (other n e)
same_bytes (a_name b w other) (a_name c v also) e = ap name e
same_bytes (a_number z small) y e = sym (number_is y z small (sym e))
same_bytes (a_string s utf8 each short) y e = sym (text_is y s (sym e))
same_bytes x (a_number z small) e = number_is x z small e
same_bytes x (a_string s utf8 each short) e = text_is x s e

pub one_token : (b c : List ℕ) (t u : Tok) → b ≡ c → IsToken b t → IsToken c u → t ≡ u
one_token b c t u e x y = same_bytes x y e
