-- Tokens as plain data, wherever their bytes lie in memory.
use Rattle.std.specs.Prelude.{ℕ, ℤ, List, map}
use Rattle.mig_token.specs.declared.mark.Mark.{Mark}
use Rattle.mig_token.specs.declared.token.Token.{Token}
use Rattle.mig_token.specs.declared.token.Token.TheVariants as V

-- a reserved word or a sign, a name, a number in decimal, or a string
pub data Tok : Type 0 where
  mark : Mark → Tok
  name : List ℕ → Tok
  number : ℤ → Tok
  text : List ℕ → Tok

abbrev pub tok_of : Token → Tok
tok_of (V.Mark m) = mark m
tok_of (V.Name b) = name b.now
tok_of (V.Number z) = number z
tok_of (V.Text b) = text b.now

abbrev pub toks : List Token → List Tok
toks ts = map tok_of ts
