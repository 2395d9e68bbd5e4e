-- What is made of declarations one after another, as it lies in memory.
use Rattle.std.specs.Prelude.{◌≡◌, ℕ, List, ◌∷◌, Bool, true, Option, Some, None, nat_abs, slice_get, if◌then◌else◌}
use Rattle.mig_model.specs.declared.form.Form.{Form}
use Rattle.mig_rule.specs.Chain as chain
use Rattle.mig_rule.specs.Chain.{ChainStep, Path}
use Rattle.mig_rule.specs.declared.fault.ChainError.{ChainError}
use Rattle.mig_rule.specs.declared.fault.ChainError.TheVariants as C
use Rattle.mig_syntax.specs.DeclSyntax as decl
use Rattle.mig_syntax.specs.DeclSyntax.{DeclSyntax}
use Rattle.mig_resolve_rule.specs.Rules.{fix_from}
use Rattle.mig_resolve.specs.Text.{given_family}
use Rattle.mig_resolve.specs.Faults.{walk_number}
use Rattle.mig_resolve.specs.declared.fault.ChainFault.{ChainFault}
use Rattle.mig_resolve.specs.declared.fault.ChainFault.TheVariants as F

-- the step that a declaration is, where these come behind it
abbrev pub step_from : Form → Path → DeclSyntax → List DeclSyntax → Option ChainStep
step_from form path (decl.schema z follows) later = Some (chain.schema (nat_abs z) (given_family form path follows later))
step_from form path (decl.fix z x) later = Some (chain.fix (nat_abs z) (fix_from x))
step_from form path d later = None

-- the fault has the property; want of memory says nothing
abbrev pub IsChainFault : ChainFault → (ℕ → ℕ → Type 0) → Type 0
IsChainFault (F.Fault n k) P = P n k
IsChainFault F.Memory P = Unit {0}

-- the fault is 10 at the declaration of the number, where it is so; want of memory says nothing
abbrev pub IsUnformedAt : ChainFault → ℕ → Bool → Type 0
IsUnformedAt (F.Fault n d) k b = (n ≡ 10) × (d ≡ k) × (b ≡ true)
IsUnformedAt F.Memory k b = Unit {0}

-- the fault is 10 at the declaration that is found
abbrev pub IsUnformedFault : ChainFault → Option ℕ → Type 0
IsUnformedFault (F.Fault n k) found = (n ≡ 10) × (found ≡ Some k)
IsUnformedFault F.Memory found = Unit {0}

-- the steps behind what is there, and the numbers of their declarations
abbrev pub with_step : Option ChainStep → List ChainStep → List ChainStep
with_step None xs = xs
with_step (Some x) xs = x ∷ xs

abbrev pub with_number : Bool → ℕ → List ℕ → List ℕ
with_number b k ks = if b then k ∷ ks else ks

-- the fault has the number of what is wrong at a step, at the declaration of that step; want of memory says nothing
abbrev pub IsStepFault : ChainFault → List ℕ → ChainError → Type 0
IsStepFault (F.Fault n k) ks (C.At j w) = (n ≡ walk_number w) × (slice_get ks j ≡ Some k)
IsStepFault (F.Fault n k) ks C.Memory = ⊥
IsStepFault F.Memory ks e = Unit {0}
