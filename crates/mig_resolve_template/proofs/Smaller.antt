-- What stands in a list of fields or cases is no larger than the list.
use Rattle.std.proofs.Common.{◌≡◌, ℕ, ◌<◌, ◌≤◌, List, [], ◌∷◌, length, map, get_or, zero, suc, arith}
use Rattle.mig_syntax.specs.TemplateSyntax.{template_size, field_list_size, cases_size, cases_of}
use Rattle.mig_syntax.specs.TemplateView.{template_of, field_of, case_of}
use Rattle.mig_syntax.specs.declared.template.FieldText.{FieldText}
use Rattle.mig_syntax.specs.declared.template.CaseText.{CaseText}

pub field_no_larger : (xs : List FieldText) (i : ℕ) (x : FieldText) → i < length xs → x ≡ get_or xs i x → template_size (template_of x.template) ≤ field_list_size (map field_of xs)
field_no_larger [] i x l e = absurd (omega arith)
field_no_larger (y ∷ xs) zero x l e = rw e (omega arith)
field_no_larger (y ∷ xs) (suc i) x l e = let rest = field_no_larger xs i x (omega arith) e in omega arith

pub case_smaller : (xs : List CaseText) (i : ℕ) (x : CaseText) → i < length xs → x ≡ get_or xs i x → field_list_size x.fields < cases_size (cases_of (map case_of xs))
case_smaller [] i x l e = absurd (omega arith)
case_smaller (y ∷ xs) zero x l e = rw e (omega arith)
case_smaller (y ∷ xs) (suc i) x l e = let rest = case_smaller xs i x (omega arith) e in omega arith
