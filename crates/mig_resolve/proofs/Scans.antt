-- The look at one declaration more.
use Rattle.std.proofs.Common.{◌≡◌, ◌∙◌, ◌<◌, ℕ, suc, List, [], ◌∷◌, Bool, true, false, Option, Some, None, length, refl, sym, ap, subst, arith}
use Rattle.std.specs.Prelude.{nat_lt, option_map, if◌then◌else◌}
use Rattle.mig_model.specs.declared.form.Form.{Form}
use Rattle.mig_syntax.specs.DeclSyntax.{DeclSyntax}
use Rattle.mig_resolve.specs.Faults.{Fault, number_at, lesser, least_fault}
use Rattle.mig_resolve.specs.Scan.{IsBehind, IsScanned}
use Rattle.mig_resolve.specs.declared.scan.Scan.{Scan}

three : (f g h : Fault) → lesser (lesser (Some f) (Some g)) (Some h) ≡ lesser (Some f) (lesser (Some g) (Some h))
three f g h = grind arith

two : (f g : Fault) → lesser (lesser (Some f) (Some g)) None ≡ lesser (Some f) (Some g)
two f g = by (nat_lt g.0 f.0)
  where
    by : (b : Bool) → lesser (if b then Some g else Some f) None ≡ (if b then Some g else Some f)
    by true = refl
    by false = refl

pub lesser_assoc : (f g h : Option Fault) → lesser (lesser f g) h ≡ lesser f (lesser g h)
lesser_assoc None g h = refl
lesser_assoc (Some f) None h = refl
lesser_assoc (Some f) (Some g) None = two f g
lesser_assoc (Some f) (Some g) (Some h) = three f g h

pub one_further : (form : Form) (all : List DeclSyntax) (n : ℕ) (d : DeclSyntax) (later : List DeclSyntax) (s t : Scan) (is : IsScanned form all n (d ∷ later) s) → IsBehind form is.seen d later s t → IsScanned form all (suc n) later t
one_further form all n d later s t is b = record {
  seen = d ∷ is.seen;
  count = ap suc is.count;
  before_is = b.before_is;
  next = b.next;
  least =
      let here = option_map (λ (n : ℕ). (n, suc (length is.seen))) (number_at form is.seen d later) in
      let rest = least_fault form (d ∷ is.seen) later in
      ap (λ o. lesser o rest) b.least ∙ lesser_assoc s.least here rest ∙ is.least;
}
