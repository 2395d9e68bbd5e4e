-- What stands in a list of fields or cases is smaller than the list.
use Rattle.std.proofs.Common.{◌≡◌, ℕ, suc, ◌<◌, List, length, map, get_or, arith}
use Rattle.mig_model.specs.Template.{cases_of}
use Rattle.mig_tree.proofs.Places.{part_smaller}
use Rattle.mig_template.specs.Size.{template_size, field_list_size, cases_size}
use Rattle.mig_template.specs.View.{template_of, field_of, case_of}
use Rattle.mig_template.specs.declared.fields.Field.{Field}
use Rattle.mig_template.specs.declared.record.Case.{Case}

pub field_smaller : (xs : List Field) (i : ℕ) (x : Field) → i < length xs → x ≡ get_or xs i x → template_size (template_of x.template) < field_list_size (map field_of xs)
field_smaller = part_smaller (λ f. suc (template_size (template_of f.template))) (λ fs. field_list_size (map field_of fs)) (λ f fs. omega arith)

pub case_smaller : (xs : List Case) (i : ℕ) (x : Case) → i < length xs → x ≡ get_or xs i x → field_list_size x.fields < cases_size (cases_of (map case_of xs))
case_smaller = part_smaller (λ c. suc (field_list_size c.fields)) (λ cs. cases_size (cases_of (map case_of cs))) (λ c cs. omega arith)
