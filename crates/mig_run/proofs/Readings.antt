-- What the text of a chain is read as.
use Rattle.std.proofs.Common.{◌≡◌, ℕ, List, [], ◌∷◌, Option, Some, None, inl, inr}
use Rattle.std.specs.List.{AllByRecursion}
use Rattle.mig_files.specs.Held.{Counts}
use Rattle.mig_syntax.specs.DeclSyntax.{DeclSyntax}
use Rattle.mig_parse.specs.Text.{AreDeclared, IsChainText, IsParseFault}
use Rattle.mig_parse.specs.declared.fault.ParseFault.{ParseFault}
use Rattle.mig_parse.specs.declared.fault.ParseFault.TheVariants as parse
use Rattle.mig_resolve.specs.Right.{IsDeclaration}
use Rattle.mig_run.specs.declared.chain.Reading.{Reading}
use Rattle.mig_run.specs.declared.chain.Reading.TheVariants as reading
use Rattle.mig_run.specs.Chains.{TextFault, too_long, declaration, IsTextFault, text_fault_line}
use Rattle.mig_run.specs.View.{IsGrammarLine, IsRead, MayBeRead}

each_declared : (pieces : List (List ℕ)) (ds : List DeclSyntax) → AreDeclared pieces ds → AllByRecursion IsDeclaration ds
each_declared [] [] h = tt
each_declared (b ∷ bs) (d ∷ ds) h = ((b, h.0), each_declared bs ds h.1)
each_declared [] (d ∷ ds) h = absurd h
each_declared (b ∷ bs) [] h = absurd h

pub all_declared : (text : List ℕ) (ds : List DeclSyntax) → IsChainText text ds → AllByRecursion IsDeclaration ds
all_declared text ds is = each_declared is.pieces ds is.each

-- the line of a text that gives no declarations has its fault
pub grammar_fault : (e : ParseFault) (text l : List ℕ) → IsParseFault e text → IsGrammarLine e l → (f : TextFault) × (IsTextFault f text × (l ≡ text_fault_line f))
grammar_fault parse.TooLong text l h is = (too_long, (h, is))
grammar_fault (parse.Declaration k) text l h is = (declaration k, (h, is))
grammar_fault parse.Memory text l h is = absurd is

-- what is read of a text may be read where nothing is told
pub may_be_read : (text : List ℕ) (r : Reading) (before now : Counts) → IsRead (Some text) r → MayBeRead before now r
may_be_read text (reading.Line l) before now h = inr (inr (text, h.0, h.1.0, h.1.1))
may_be_read text (reading.Chain c) before now is = (text, is)
