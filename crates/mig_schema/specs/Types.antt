-- Named types as plain data.
use Rattle.std.specs.Prelude.{◌≡◌, ℕ, List, map, Option, Some, position}
use Rattle.std.specs.List.{AllByRecursion}
use Rattle.std.specs.Map.{keys_of}
use Rattle.mig_model.specs.declared.form.Form.{Form}
use Rattle.mig_model.specs.Family.{Family, find_type}
use Rattle.mig_model.specs.Template as model
use Rattle.mig_model.specs.Names.{same_name}
use Rattle.mig_template.specs.declared.template.Template.{Template}
use Rattle.mig_model.specs.TemplateKept.{TemplateKept}
use Rattle.mig_template.specs.View.{template_of}

-- a name and a plain template
abbrev pub Named : Type 0
Named = List ℕ × model.Template

abbrev pub named_of : List ℕ × Template → Named
named_of t = (t.0, template_of t.1)

abbrev pub named_all : List (List ℕ × Template) → List Named
named_all ts = map named_of ts

-- every template keeps what the records in it keep
abbrev pub AllKept : List Named → Type 0
AllKept ts = AllByRecursion (λ t. TemplateKept t.1) ts

abbrev pub family_of : Form → List (List ℕ) → List Named → List ℕ → Family
family_of form version types root = record { form = form; version = version; types = types; root = root }

-- the place of the first such named type, in the order of declaration
abbrev pub type_place : List Named → List ℕ → Option ℕ
type_place ts n = position (same_name n) (keys_of ts)

-- each name that has a template in the first has it in the second too
abbrev pub IsWithin : List Named → List Named → Type 0
IsWithin ts us = (n : List ℕ) (V : model.Template) → find_type n ts ≡ Some V → find_type n us ≡ Some V
