-- Which bytes are a token, and which are the tokens of a declaration: each is the longest that can be read.
use Rattle.std.specs.Prelude.{◌≡◌, ◌≢◌, ◌<◌, ◌≤◌, ◌^◌, ◌⊎◌, ℕ, ℤ, List, [], ◌∷◌, ◌++◌, length, take, nat_abs, IsUtf8}
use Rattle.std.specs.Str.{chars}
use Rattle.std.specs.Fmt.{signed_decimal}
use Rattle.std.specs.List.{AllByRecursion}
use Rattle.mig_token.specs.declared.mark.Mark.{Mark}
use Rattle.mig_token.specs.Spelling.{spelling}
use Rattle.mig_token.specs.Token.{Tok, mark, name, number, text}

-- space, tab, carriage return and line feed
abbrev pub IsWhite : ℕ → Type 0
IsWhite b = (b ≡ 32) ⊎ ((b ≡ 9) ⊎ ((b ≡ 13) ⊎ (b ≡ 10)))

-- `a` to `z`
abbrev pub IsLetter : ℕ → Type 0
IsLetter b = (97 ≤ b) × (b ≤ 122)

-- `a` to `z`, `0` to `9` and `_`
abbrev pub IsWordByte : ℕ → Type 0
IsWordByte b = IsLetter b ⊎ (((48 ≤ b) × (b ≤ 57)) ⊎ (b ≡ 95))

-- a letter and then letters, digits and `_`, at most 64 bytes
abbrev pub IsWord : List ℕ → Type 0
IsWord [] = ⊥
IsWord (b ∷ bs) = IsLetter b × AllByRecursion IsWordByte bs × (length bs < 64)

-- a character of a string: from U+0020 to U+FFFF, but no `"` and no `;`
abbrev pub IsStringChar : ℕ → Type 0
IsStringChar c = (32 ≤ c) × (c < 2 ^ 16) × (c ≢ 34) × (c ≢ 59)

-- the bytes are one token
pub data IsToken : List ℕ → Tok → Type 0 where
  a_mark : (m : Mark) → IsToken (spelling m) (mark m)
  a_name : (b : List ℕ) → IsWord b → ((m : Mark) → b ≢ spelling m) → IsToken b (name b)
  -- plain decimal of at most 20 digits: no `-0`, and no 0 before another digit
  a_number : (z : ℤ) → nat_abs z < 10 ^ 20 → IsToken (signed_decimal z) (number z)
  a_string : (b : List ℕ) → IsUtf8 b → AllByRecursion IsStringChar (chars b) → length b ≤ 1024 → IsToken (34 ∷ (b ++ 34 ∷ [])) (text b)

-- with more of the rest, the front is no token
abbrev pub IsLongest : List ℕ → List ℕ → Type 0
IsLongest front rest = (n : ℕ) → 0 < n → n ≤ length rest → (t : Tok) → IsToken (front ++ take n rest) t → ⊥

-- the bytes are these tokens, with white space around them, each the longest that can be read.
-- Such bytes are UTF-8, since all but the strings are ASCII.
pub data AreTokens : List ℕ → List Tok → Type 0 where
  no_token : (w : List ℕ) → AllByRecursion IsWhite w → AreTokens w []
  token : (w front rest : List ℕ) (t : Tok) (ts : List Tok) → AllByRecursion IsWhite w → IsToken front t → IsLongest front rest → AreTokens rest ts → AreTokens (w ++ (front ++ rest)) (t ∷ ts)
