-- The grammar gives tokens at most one syntax, a text has declarations or a fault, at one place, and its names and texts are spelled.
use Rattle.std.specs.Prelude.{◌≡◌, ℕ, List}
use Rattle.mig_token.specs.Token.{Tok}
use Rattle.mig_syntax.specs.DeclSyntax.{DeclSyntax}
use Rattle.mig_parse.specs.Grammar.{Declaration}
use Rattle.std.specs.List.{AllByRecursion}
use Rattle.mig_parse.specs.Text.{IsDeclared, IsChainText, IsParseFault}
use Rattle.mig_parse.specs.Texts.{IsSpelledText, decl_texts}
use Rattle.mig_parse.specs.declared.fault.ParseFault.{ParseFault}
use Rattle.mig_parse.specs.declared.fault.ParseFault.TheVariants as faults

abbrev pub HasOneDeclaration : Type 0
HasOneDeclaration = (a : List Tok) (d e : DeclSyntax) → Declaration a d → Declaration a e → d ≡ e

-- a text is one list of declarations at most
abbrev pub HasOneSyntax : Type 0
HasOneSyntax = (text : List ℕ) (ds es : List DeclSyntax) → IsChainText text ds → IsChainText text es → ds ≡ es

-- a text with a fault gives no declarations
abbrev pub FaultExcludes : Type 0
FaultExcludes = (text : List ℕ) (f : ParseFault) (ds : List DeclSyntax) → (f ≡ faults.Memory → ⊥) → IsParseFault f text → IsChainText text ds → ⊥

-- a text has one fault at most
abbrev pub HasOneFault : Type 0
HasOneFault = (text : List ℕ) (f g : ParseFault) → (f ≡ faults.Memory → ⊥) → (g ≡ faults.Memory → ⊥) → IsParseFault f text → IsParseFault g text → f ≡ g

-- the names and texts of a declaration are spelled
abbrev pub TextsAreSpelled : Type 0
TextsAreSpelled = (piece : List ℕ) (d : DeclSyntax) → IsDeclared piece d → AllByRecursion IsSpelledText (decl_texts d)
