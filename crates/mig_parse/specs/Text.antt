-- The declarations of a whole chain text, and the first declaration of a text that isn't in the grammar.
use Rattle.std.specs.Prelude.{◌≡◌, ◌<◌, ◌≤◌, ◌⊎◌, ℕ, suc, List, [], ◌∷◌, ◌++◌, length}
use Rattle.std.specs.List.{AllByRecursion}
use Rattle.mig_model.specs.declared.limits.TheConstants.{MOST_CHAIN_BYTES}
use Rattle.mig_token.specs.Token.{Tok}
use Rattle.mig_token.specs.Lexical.{IsWhite, AreTokens}
use Rattle.mig_token.specs.Cuts.{Cuts}
use Rattle.mig_syntax.specs.DeclSyntax.{DeclSyntax}
use Rattle.mig_parse.specs.Grammar.{Declaration}
use Rattle.mig_parse.specs.declared.fault.ParseFault.{ParseFault}
use Rattle.mig_parse.specs.declared.fault.ParseFault.TheVariants as faults

-- the piece is the declaration
abbrev pub IsDeclared : List ℕ → DeclSyntax → Type 0
IsDeclared piece d = (ts : List Tok) × AreTokens piece ts × Declaration ts d

-- each piece is the declaration at its place
abbrev pub AreDeclared : List (List ℕ) → List DeclSyntax → Type 0
AreDeclared [] [] = Unit {0}
AreDeclared (b ∷ bs) (d ∷ ds) = IsDeclared b d × AreDeclared bs ds
AreDeclared _ _ = ⊥

-- the text is the declarations, each with its `;`, and white space may follow the last
pub record IsChainText (text : List ℕ) (ds : List DeclSyntax) : Type 0 where
  pub pieces : List (List ℕ)
  pub rest : List ℕ
  pub short : length text ≤ MOST_CHAIN_BYTES
  pub cuts : Cuts text pieces rest
  pub blank : AllByRecursion IsWhite rest
  pub each : AreDeclared pieces ds

-- no declaration is the piece
abbrev pub IsUndeclared : List ℕ → Type 0
IsUndeclared piece = (d : DeclSyntax) → IsDeclared piece d → ⊥

-- piece k, counted from 1, is the first that isn't in the grammar
pub record IsFirstUndeclared (pieces : List (List ℕ)) (k : ℕ) : Type 0 where
  pub before : List (List ℕ)
  pub piece : List ℕ
  pub behind : List (List ℕ)
  pub declarations : List DeclSyntax
  pub whole : pieces ≡ before ++ piece ∷ behind
  pub each : AreDeclared before declarations
  pub undeclared : IsUndeclared piece
  pub number : k ≡ suc (length before)

-- all pieces are in the grammar, but more than white space follows the last, and that counts as piece k
pub record IsUnended (pieces : List (List ℕ)) (rest : List ℕ) (k : ℕ) : Type 0 where
  pub declarations : List DeclSyntax
  pub each : AreDeclared pieces declarations
  pub more : AllByRecursion IsWhite rest → ⊥
  pub number : k ≡ suc (length pieces)

-- declaration k of the text, counted from 1, is the first that isn't in the grammar
pub record IsUndeclaredAt (text : List ℕ) (k : ℕ) : Type 0 where
  pub pieces : List (List ℕ)
  pub rest : List ℕ
  pub short : length text ≤ MOST_CHAIN_BYTES
  pub cuts : Cuts text pieces rest
  pub first : IsFirstUndeclared pieces k ⊎ IsUnended pieces rest k

-- why the text gives no declarations
abbrev pub IsParseFault : ParseFault → List ℕ → Type 0
IsParseFault faults.TooLong text = MOST_CHAIN_BYTES < length text
IsParseFault (faults.Declaration k) text = IsUndeclaredAt text k
IsParseFault faults.Memory text = Unit {0}

-- why the pieces give no declarations
abbrev pub IsPieceFault : ParseFault → List (List ℕ) → Type 0
IsPieceFault faults.TooLong pieces = ⊥
IsPieceFault (faults.Declaration k) pieces = IsFirstUndeclared pieces k
IsPieceFault faults.Memory pieces = Unit {0}
