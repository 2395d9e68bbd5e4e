-- Reading one token at the front of bytes.
use Rattle.std.specs.Prelude.{◌≡◌, ◌<◌, ◌≤◌, ◌^◌, ℕ, List, ◌++◌, length, slice_index}
use Rattle.std.specs.Fmt.{decimal}
use Rattle.std.specs.List.{AllByRecursion}
use Rattle.mig_token.specs.Token.{Tok}
use Rattle.mig_token.specs.Lexical.{IsWhite, IsToken, IsLongest}

-- the bytes are white space and then the rest, which begins with none
pub record SkipsWhite (bytes rest : List ℕ) : Type 0 where
  pub white : List ℕ
  pub whole : bytes ≡ white ++ rest
  pub each : AllByRecursion IsWhite white
  pub last : 0 < length rest → IsWhite (slice_index rest 0) → ⊥

-- the longest token at the front of the bytes is t, and the rest stands behind it
pub record ReadsToken (bytes : List ℕ) (t : Tok) (rest : List ℕ) : Type 0 where
  pub front : List ℕ
  pub whole : bytes ≡ front ++ rest
  pub token : IsToken front t
  pub longest : IsLongest front rest

-- no token stands at the front of the bytes
abbrev pub HasNoToken : List ℕ → Type 0
HasNoToken bytes = (front rest : List ℕ) (t : Tok) → bytes ≡ front ++ rest → IsToken front t → ⊥

-- `0` to `9`
abbrev pub IsDigit : ℕ → Type 0
IsDigit b = (48 ≤ b) × (b ≤ 57)

-- `1` to `9`
abbrev pub IsLeadingDigit : ℕ → Type 0
IsLeadingDigit b = (49 ≤ b) × (b ≤ 57)

-- the first n bytes are of the class, and no more of the first `most`
pub record IsRun (Class : ℕ → Type 0) (most : ℕ) (bytes : List ℕ) (n : ℕ) : Type 0 where
  pub within : n ≤ length bytes
  pub short : n ≤ most
  pub each : (k : ℕ) → k < n → Class (slice_index bytes k)
  pub last : n < most → n < length bytes → Class (slice_index bytes n) → ⊥

-- the bytes begin with n in decimal, which has all digits of the front, but 20 at most
pub record ReadsDecimal (bytes : List ℕ) (n : ℕ) (rest : List ℕ) : Type 0 where
  pub whole : bytes ≡ decimal n ++ rest
  pub small : n < 10 ^ 20
  pub last : length (decimal n) < 20 → 0 < length rest → IsDigit (slice_index rest 0) → ⊥
