-- Version paths, named types and families as stored values, so that a struct may have them as its value.
use Rattle.std.specs.Prelude.{ℕ, List, ◌≡◌, refl, Bool, true, false}
use Rattle.std.specs.Coded.{Coded, code_by, coded_list, coded_bool, coded×}
use Rattle.mig_model.specs.declared.form.Form.{Form}
use Rattle.mig_model.specs.declared.form.Form.TheVariants as F
use Rattle.mig_model.specs.Family.{Family}
use Rattle.mig_model.specs.Template.{is_nbt}
use Rattle.mig_model.specs.Stored.{coded_name}
use Rattle.mig_template.specs.Code.{coded_template}
use Rattle.mig_schema.specs.Types.{Named, family_of}

abbrev pub coded_path : Coded (List (List ℕ))
coded_path = coded_list coded_name

abbrev pub coded_types : Coded (List Named)
coded_types = coded_list (coded× coded_name coded_template)

abbrev form_from : Bool → Form
form_from true = F.Nbt
form_from false = F.Json

pub form_again : (f : Form) → form_from (is_nbt f) ≡ f
form_again F.Nbt = refl
form_again F.Json = refl

abbrev pub coded_form : Coded Form
coded_form = code_by Bool coded_bool is_nbt form_from form_again

abbrev pub coded_family : Coded Family
coded_family =
    code_by (Form × (List (List ℕ) × (List Named × List ℕ))) (coded× coded_form (coded× coded_path (coded× coded_types coded_name))) (λ f. (f.form, (f.version, (f.types, f.root))))
    (λ t. family_of t.0 t.1.0 t.1.1.0 t.1.1.1) (λ _. refl)
