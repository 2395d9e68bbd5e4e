-- The look at one declaration after another, as it lies in memory.
use Rattle.std.specs.Prelude.{◌≡◌, ℕ, suc, List, [], ◌∷◌, length, option_map}
use Rattle.mig_model.specs.declared.form.Form.{Form}
use Rattle.mig_syntax.specs.DeclSyntax.{DeclSyntax}
use Rattle.mig_resolve.specs.Text.{nearest_version}
use Rattle.mig_resolve.specs.Faults.{number_at, lesser, least_fault}
use Rattle.mig_resolve.specs.Before.{IsBefore}
use Rattle.mig_resolve.specs.declared.scan.Scan.{Scan}

-- what a look at the declaration d makes of the state s
pub record IsBehind (form : Form) (before : List DeclSyntax) (d : DeclSyntax) (later : List DeclSyntax) (s t : Scan) : Type 0 where
  pub before_is : IsBefore t.before (d ∷ before)
  pub next : t.next ≡ nearest_version later
  pub least : t.least ≡ lesser s.least (option_map (λ n. (n, suc (length before))) (number_at form before d later))

-- so many declarations were looked at, and these are left
pub record IsScanned (form : Form) (all : List DeclSyntax) (n : ℕ) (left : List DeclSyntax) (s : Scan) : Type 0 where
  pub seen : List DeclSyntax
  pub count : length seen ≡ n
  pub before_is : IsBefore s.before seen
  pub next : s.next ≡ nearest_version left
  pub least : lesser s.least (least_fault form seen left) ≡ least_fault form [] all
