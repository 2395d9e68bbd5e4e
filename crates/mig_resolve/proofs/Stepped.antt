-- One declaration more, and the steps and numbers that it adds.
use Rattle.std.proofs.Common.{◌≡◌, ◌∙◌, ◌++◌, ℕ, suc, List, [], ◌∷◌, Bool, true, false, Option, Some, None, refl, sym, ap}
use Rattle.std.specs.Prelude.{is_some, option_map, if◌then◌else◌}
use Rattle.std.proofs.lemmas.List.{append_assoc}
use Rattle.mig_model.specs.declared.form.Form.{Form}
use Rattle.mig_rule.specs.Chain.{ChainStep, Path}
use Rattle.mig_syntax.specs.DeclSyntax as decl
use Rattle.mig_syntax.specs.DeclSyntax.{DeclSyntax}
use Rattle.mig_resolve.specs.declared.fault.ChainFault.{ChainFault}
use Rattle.mig_resolve.specs.declared.fault.ChainFault.TheVariants as F
use Rattle.mig_resolve.specs.Text.{ends_schema, steps_from, step_numbers}
use Rattle.mig_resolve.specs.Faults.{is_unformed, unformed_from}
use Rattle.mig_resolve.specs.Steps.{step_from, with_step, with_number, IsUnformedAt, IsUnformedFault}

steps_first : (form : Form) (path : Path) (d : DeclSyntax) (later : List DeclSyntax) → steps_from form path (d ∷ later) ≡ with_step (step_from form path d later) (steps_from form path later)
steps_first form path (decl.form f) later = refl
steps_first form path (decl.version xs z) later = refl
steps_first form path (decl.schema z follows) later = refl
steps_first form path (decl.named n t) later = refl
steps_first form path (decl.root n) later = refl
steps_first form path (decl.fix z x) later = refl

with_rest : (o : Option ChainStep) (rest : List ChainStep) → with_step o rest ≡ with_step o [] ++ rest
with_rest None rest = refl
with_rest (Some x) rest = refl

pub steps_further : (form : Form) (path : Path) (d : DeclSyntax) (later : List DeclSyntax) (old new total : List ChainStep) (o : Option ChainStep) → new ≡ old ++ with_step o [] → o ≡ step_from form path d later → old ++ steps_from form path (d ∷ later) ≡ total
    → new ++ steps_from form path later ≡ total
steps_further form path d later old new total o is step before =
    let rest = steps_from form path later in
    ap (λ l. l ++ rest) is ∙ append_assoc old (with_step o []) rest ∙ ap (λ l. old ++ l) (sym (with_rest o rest))
    ∙ ap (λ p. old ++ with_step p rest) step ∙ ap (λ l. old ++ l) (sym (steps_first form path d later)) ∙ before

step_there : (form : Form) (path : Path) (d : DeclSyntax) (later : List DeclSyntax) → is_some (step_from form path d later) ≡ ends_schema d
step_there form path (decl.form f) later = refl
step_there form path (decl.version xs z) later = refl
step_there form path (decl.schema z follows) later = refl
step_there form path (decl.named n t) later = refl
step_there form path (decl.root n) later = refl
step_there form path (decl.fix z x) later = refl

some_mapped : {A B : Type 0} (f : A → B) (o : Option A) → is_some o ≡ is_some (option_map f o)
some_mapped f None = refl
some_mapped f (Some a) = refl

number_rest : (b : Bool) (k : ℕ) (rest : List ℕ) → with_number b k [] ++ rest ≡ (if b then k ∷ rest else rest)
number_rest true k rest = refl
number_rest false k rest = refl

pub numbers_further : {A : Type 0} (f : A → ChainStep) (form : Form) (path : Path) (k : ℕ) (d : DeclSyntax) (later : List DeclSyntax) (old new total : List ℕ) (o : Option A) → new ≡ old ++ with_number (is_some o) k [] → option_map f o ≡ step_from form path d later
    → old ++ step_numbers k (d ∷ later) ≡ total → new ++ step_numbers (suc k) later ≡ total
numbers_further f form path k d later old new total o is step before =
    let rest = step_numbers (suc k) later in
    let same : is_some o ≡ ends_schema d = some_mapped f o ∙ ap is_some step ∙ step_there form path d later in
    ap (λ l. l ++ rest) is ∙ append_assoc old (with_number (is_some o) k []) rest ∙ ap (λ l. old ++ l) (number_rest (is_some o) k rest)
    ∙ ap (λ (b : Bool). old ++ (if b then k ∷ rest else rest)) same ∙ before

pub unformed_further : (form : Form) (path : Path) (k : ℕ) (d : DeclSyntax) (later : List DeclSyntax) (total : Option ℕ) → is_unformed form path d later ≡ false → unformed_from form path k (d ∷ later) ≡ total → unformed_from form path (suc k) later ≡ total
unformed_further form path k d later total e before = ap (λ (b : Bool). if b then Some k else unformed_from form path (suc k) later) (sym e) ∙ before

pub unformed_here : (form : Form) (path : Path) (k : ℕ) (d : DeclSyntax) (later : List DeclSyntax) (total : Option ℕ) (e : ChainFault) → IsUnformedAt e k (is_unformed form path d later) → unformed_from form path k (d ∷ later) ≡ total → IsUnformedFault e total
unformed_here form path k d later total (F.Fault n m) (a, b, c) before = (a, sym before ∙ ap (λ (x : Bool). if x then Some k else unformed_from form path (suc k) later) c ∙ ap (λ (j : ℕ). Some j) (sym b))
unformed_here form path k d later total F.Memory h before = tt
