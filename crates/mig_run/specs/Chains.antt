-- What a chain's text is: an accepted chain, or the first reason why it is none.
use Rattle.std.specs.Prelude.{◌≡◌, ◌<◌, ◌⊎◌, ℕ, List, length, Option, Some, None, slice_get, nat_lt, if◌then◌else◌}
use Rattle.mig_files.specs.Held.{Counts, Rose}
use Rattle.mig_model.specs.declared.limits.TheConstants.{MOST_CHAIN_BYTES}
use Rattle.mig_syntax.specs.DeclSyntax.{DeclSyntax}
use Rattle.mig_parse.specs.Text.{IsChainText, IsUndeclaredAt}
use Rattle.mig_rule.specs.Chain.{Chain, versions, fixes}
use Rattle.mig_resolve.specs.Text.{chain_from}
use Rattle.mig_resolve.specs.Faults.{IsFaultAt}
use Rattle.mig_lift.specs.Small.{is_small}
use Rattle.mig_run.specs.Lines.{absent_line, too_long_line, declaration_line, fault_line, not_yet_line, below_line, accepted_line}

-- why a text is no chain: it is too long, a declaration isn't in the grammar, or a fault holds at a declaration
pub data TextFault : Type 0 where
  too_long : TextFault
  declaration : ℕ → TextFault
  fault : ℕ → ℕ → TextFault

abbrev pub IsTextFault : TextFault → List ℕ → Type 0
IsTextFault too_long text = MOST_CHAIN_BYTES < length text
IsTextFault (declaration k) text = IsUndeclaredAt text k
IsTextFault (fault n k) text = (ds : List DeclSyntax) × (IsChainText text ds × IsFaultAt ds n k)

abbrev pub text_fault_line : TextFault → List ℕ
text_fault_line too_long = too_long_line
text_fault_line (declaration k) = declaration_line k
text_fault_line (fault n k) = fault_line n k

-- the text is of the grammar, no fault holds, and this is its chain
pub record IsTheChain (text : List ℕ) (c : Chain) : Type 0 where
  pub declarations : List DeclSyntax
  pub grammar : IsChainText text declarations
  pub accepted : (n k : ℕ) → IsFaultAt declarations n k → ⊥
  pub chain : c ≡ chain_from declarations

-- the first schema's version
abbrev pub first_of : Chain → Option ℕ
first_of c = slice_get (versions c.steps) 0

-- the line that is due where the target is below the first schema
abbrev pub below : Option ℕ → ℕ → Option (List ℕ)
below None target = None
below (Some first) target = if nat_lt target first then Some (below_line first) else None

-- the line that is due where saves can't be lifted by the chain to the target: only small chains are lifted yet
abbrev pub refusal_of : Chain → ℕ → Option (List ℕ)
refusal_of c target = if is_small c then below (first_of c) target else Some not_yet_line

-- how many schemas and fixes an accepted chain has
abbrev pub count_line : Chain → List ℕ
count_line c = accepted_line (length (versions c.steps)) (length (fixes c.steps))

-- why a line of status 2 is put that tells of the chain, on files that tell nothing: a read answered that nothing is there, or that there is too much, or what it read is no chain so
abbrev pub MayTell : Counts → Counts → List ℕ → Type 0
MayTell before now line =
    ((line ≡ absent_line) × Rose before.absent now.absent)
    ⊎ ((line ≡ too_long_line) × Rose before.long now.long)
    ⊎ ((text : List ℕ) × (f : TextFault) × IsTextFault f text × (line ≡ text_fault_line f))

-- the same, or what it read is a chain by which nothing is lifted to the target
abbrev pub MayRefuse : ℕ → Counts → Counts → List ℕ → Type 0
MayRefuse target before now line =
    MayTell before now line
    ⊎ ((text : List ℕ) × (c : Chain) × IsTheChain text c × (refusal_of c target ≡ Some line))
