-- The names and texts of tokens, and lists of texts that have a property.
use Rattle.std.proofs.Common.{inl, inr, ◌<◌, ◌≤◌, ◌^◌, ℕ, List, [], ◌∷◌, ◌++◌, sym, subst, arith}
use Rattle.std.specs.List.{AllByRecursion}
use Rattle.std.specs.Str.{chars, IsAscii}
use Rattle.std.proofs.lemmas.List.Elements.{All-from_recursion}
use Rattle.std.proofs.lemmas.Str.{IsUtf8-from_ascii, chars-IsAscii}
use Rattle.std.proofs.lemmas.Str.Ascii.{IsAscii-from_all}
use Rattle.mig_token.specs.Token.{Tok, name, text}
use Rattle.mig_token.specs.Lexical as lexical
use Rattle.mig_token.specs.Lexical.{IsWordByte, IsWord, IsStringChar, IsToken, AreTokens}
use Rattle.mig_parse.specs.Texts.{IsSpelledText}

-- a name or a text has the property
abbrev pub OfToken : (List ℕ → Type 0) → Tok → Type 0
OfToken P (name n) = P n
OfToken P (text s) = P s
OfToken P t = Unit {0}

abbrev pub OfTokens : (List ℕ → Type 0) → List Tok → Type 0
OfTokens P ts = AllByRecursion (OfToken P) ts

pub front_of : (P : List ℕ → Type 0) (a b : List Tok) → OfTokens P (a ++ b) → OfTokens P a
front_of P [] b h = tt
front_of P (t ∷ a) b h = (h.0, front_of P a b h.1)

pub rest_of : (P : List ℕ → Type 0) (a b : List Tok) → OfTokens P (a ++ b) → OfTokens P b
rest_of P [] b h = h
rest_of P (t ∷ a) b h = rest_of P a b h.1

pub both : (P : List ℕ → Type 0) (xs ys : List (List ℕ)) → AllByRecursion P xs → AllByRecursion P ys → AllByRecursion P (xs ++ ys)
both P [] ys h k = k
both P (x ∷ xs) ys h k = (h.0, both P xs ys h.1 k)

pub added : (P : List ℕ → Type 0) (xs ys zs : List (List ℕ)) → AllByRecursion P xs → AllByRecursion P (ys ++ zs) → AllByRecursion P ((xs ++ ys) ++ zs)
added P [] ys zs h k = k
added P (x ∷ xs) ys zs h k = (h.0, added P xs ys zs h.1 k)

-- ---- the tokens of a declaration
abbrev IsChar : ℕ → Type 0
IsChar c = (32 ≤ c) × (c < 2 ^ 16)

word_byte : (b : ℕ) → IsWordByte b → (32 ≤ b) × (b < 128)
word_byte b (inl l) = (omega (arith, l), omega (arith, l))
word_byte b (inr (inl d)) = (omega (arith, d), omega (arith, d))
word_byte b (inr (inr e)) = (omega (arith, e), omega (arith, e))

word_low : (bs : List ℕ) → AllByRecursion IsWordByte bs → AllByRecursion (λ b. b < 128) bs
word_low [] h = tt
word_low (b ∷ bs) h = ((word_byte b h.0).1, word_low bs h.1)

word_chars : (bs : List ℕ) → AllByRecursion IsWordByte bs → AllByRecursion IsChar bs
word_chars [] h = tt
word_chars (b ∷ bs) h = let w = word_byte b h.0 in ((w.0, omega (arith, w)), word_chars bs h.1)

spelled_name : (b : List ℕ) → IsWord b → IsSpelledText b
spelled_name [] w = absurd w
spelled_name (b ∷ bs) w =
    let all : AllByRecursion IsWordByte (b ∷ bs) = (inl w.0, w.1) in
    let ascii : IsAscii (b ∷ bs) = IsAscii-from_all (b ∷ bs) (All-from_recursion (λ c. c < 128) (b ∷ bs) (word_low (b ∷ bs) all)) in
    let short = w.2 in
    (omega (arith, short), IsUtf8-from_ascii (b ∷ bs) ascii, subst (AllByRecursion IsChar) (sym (chars-IsAscii (b ∷ bs) ascii)) (word_chars (b ∷ bs) all))

string_chars : (cs : List ℕ) → AllByRecursion IsStringChar cs → AllByRecursion IsChar cs
string_chars [] h = tt
string_chars (c ∷ cs) h = ((h.0.0, h.0.1), string_chars cs h.1)

spelled_token : (b : List ℕ) (t : Tok) → IsToken b t → OfToken IsSpelledText t
spelled_token b t (lexical.a_name n w other) = spelled_name n w
spelled_token b t (lexical.a_string s utf8 each short) = (short, utf8, string_chars (chars s) each)
spelled_token b t _ = tt

pub spelled_tokens : (b : List ℕ) (ts : List Tok) → AreTokens b ts → OfTokens IsSpelledText ts
spelled_tokens b ts (lexical.no_token w h) = tt
spelled_tokens b ts (lexical.token w front rest t us white is longest more) = (spelled_token front t is, spelled_tokens rest us more)
