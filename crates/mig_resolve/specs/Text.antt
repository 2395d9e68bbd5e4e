-- What stands where in a chain text. Declarations before one are listed from it backwards, those behind it in their order;
-- what stands under a schema is behind it and before the next `schema` or `fix`.
use Rattle.std.specs.Prelude.{ℕ, ℤ, zero, suc, nat_abs, List, [], ◌∷◌, ◌++◌, Bool, true, false, not, ◌||◌, Option, Some, None, option_map, if◌then◌else◌}
use Rattle.mig_model.specs.declared.form.Form.{Form}
use Rattle.mig_model.specs.declared.form.Form.TheVariants as F
use Rattle.mig_model.specs.Family.{Family}
use Rattle.mig_model.specs.Names.{same_name}
use Rattle.mig_schema.specs.Types.{Named}
use Rattle.mig_rule.specs.Chain as chain
use Rattle.mig_rule.specs.Chain.{Chain, ChainStep, Path}
use Rattle.mig_syntax.specs.DeclSyntax as decl
use Rattle.mig_syntax.specs.DeclSyntax.{DeclSyntax}
use Rattle.mig_resolve_template.specs.Templates.{template_from}
use Rattle.mig_resolve_rule.specs.Rules.{fix_from}

-- ---- what a declaration is
abbrev pub is_form : DeclSyntax → Bool
is_form (decl.form f) = true
is_form d = false

abbrev pub is_version : DeclSyntax → Bool
is_version (decl.version xs z) = true
is_version d = false

abbrev pub is_schema : DeclSyntax → Bool
is_schema (decl.schema z follows) = true
is_schema d = false

-- a schema with a family of its own
abbrev pub is_own_schema : DeclSyntax → Bool
is_own_schema (decl.schema z follows) = not follows
is_own_schema d = false

abbrev pub is_root : DeclSyntax → Bool
is_root (decl.root n) = true
is_root d = false

-- a `type` or a `root`, which have to stand under a schema
abbrev pub is_part : DeclSyntax → Bool
is_part (decl.named n t) = true
is_part (decl.root n) = true
is_part d = false

abbrev pub is_fix : DeclSyntax → Bool
is_fix (decl.fix z x) = true
is_fix d = false

-- a `schema` or a `fix`, which end what stands under the schema before
abbrev pub ends_schema : DeclSyntax → Bool
ends_schema d = is_schema d || is_fix d

-- ---- what stands before or behind
-- the nearest schema or fix is a schema with a family of its own
abbrev pub is_under_own : List DeclSyntax → Bool
is_under_own [] = false
is_under_own (d ∷ ds) = if ends_schema d then is_own_schema d else is_under_own ds

-- a root, with no schema and no fix between
abbrev pub has_root : List DeclSyntax → Bool
has_root [] = false
has_root (d ∷ ds) = if ends_schema d then false else is_root d || has_root ds

-- a type of that name, with no schema and no fix between
abbrev pub declares : List ℕ → DeclSyntax → Bool
declares n (decl.named m t) = same_name n m
declares n d = false

abbrev pub has_type : List ℕ → List DeclSyntax → Bool
has_type n [] = false
has_type n (d ∷ ds) = if ends_schema d then false else declares n d || has_type n ds

-- the version of the nearest schema
abbrev pub nearest_version : List DeclSyntax → Option ℤ
nearest_version [] = None
nearest_version (decl.schema z follows ∷ ds) = Some z
nearest_version (d ∷ ds) = nearest_version ds

-- ---- what a text stands for
abbrev pub form_in : List DeclSyntax → Form
form_in [] = F.Nbt
form_in (decl.form f ∷ ds) = f
form_in (d ∷ ds) = form_in ds

-- the names that lead to a save's version, and the version of one that says none
abbrev pub path_in : List DeclSyntax → Path
path_in [] = []
path_in (decl.version xs z ∷ ds) = xs
path_in (d ∷ ds) = path_in ds

abbrev pub missing_of : DeclSyntax → Option ℕ
missing_of (decl.version xs z) = option_map nat_abs z
missing_of d = None

abbrev pub missing_in : List DeclSyntax → Option ℕ
missing_in [] = None
missing_in (d ∷ ds) = if is_version d then missing_of d else missing_in ds

-- the type that a declaration is, and the types and the root that come, up to the next schema or fix
abbrev pub type_in : DeclSyntax → List Named
type_in (decl.named n t) = (n, template_from t) ∷ []
type_in d = []

abbrev pub types_in : List DeclSyntax → List Named
types_in [] = []
types_in (d ∷ ds) = if ends_schema d then [] else type_in d ++ types_in ds

abbrev pub root_in : List DeclSyntax → List ℕ
root_in [] = []
root_in (decl.schema z follows ∷ ds) = []
root_in (decl.fix z x ∷ ds) = []
root_in (decl.root n ∷ ds) = n
root_in (d ∷ ds) = root_in ds

-- the family of a schema behind which these declarations stand
abbrev pub family_in : Form → Path → List DeclSyntax → Family
family_in form path ds = record { form = form; version = path; types = types_in ds; root = root_in ds }

abbrev pub given_family : Form → Path → Bool → List DeclSyntax → Option Family
given_family form path true ds = None
given_family form path false ds = Some (family_in form path ds)

abbrev pub steps_from : Form → Path → List DeclSyntax → List ChainStep
steps_from form path [] = []
steps_from form path (decl.schema z follows ∷ ds) = chain.schema (nat_abs z) (given_family form path follows ds) ∷ steps_from form path ds
steps_from form path (decl.fix z x ∷ ds) = chain.fix (nat_abs z) (fix_from x) ∷ steps_from form path ds
steps_from form path (d ∷ ds) = steps_from form path ds

abbrev pub chain_from : List DeclSyntax → Chain
chain_from ds = record { form = form_in ds; version = path_in ds; missing = missing_in ds; steps = steps_from (form_in ds) (path_in ds) ds }

-- the numbers of the declarations that are steps, where the first has the number k
abbrev pub step_numbers : ℕ → List DeclSyntax → List ℕ
step_numbers k [] = []
step_numbers k (d ∷ ds) = if ends_schema d then k ∷ step_numbers (suc k) ds else step_numbers (suc k) ds
