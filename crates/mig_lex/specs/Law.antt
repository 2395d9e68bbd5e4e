-- Laws of cutting and of reading.
use Rattle.std.specs.Prelude.{◌≡◌, ℕ, List}
use Rattle.mig_token.specs.Token.{Tok}
use Rattle.mig_token.specs.Lexical.{AreTokens}
use Rattle.mig_token.specs.Cuts.{Cuts}

-- two cuts of one text have equal pieces and an equal rest
abbrev pub OneCut : Type 0
OneCut = (text : List ℕ) (ps qs : List (List ℕ)) (r s : List ℕ) → Cuts text ps r → Cuts text qs s → (ps ≡ qs) × (r ≡ s)

-- bytes are one list of tokens at most
abbrev pub OneReading : Type 0
OneReading = (bytes : List ℕ) (ts us : List Tok) → AreTokens bytes ts → AreTokens bytes us → ts ≡ us
