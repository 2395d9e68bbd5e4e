-- The plain template that a `Template` stands for: one level, since what is inside is seen as plain data already.
use Rattle.mig_model.specs.Template as model
use Rattle.mig_model.specs.Record as parts
use Rattle.mig_model.specs.Record.{record_of}
use Rattle.mig_template.specs.declared.template.Template.{Template}
use Rattle.mig_template.specs.declared.template.Template.TheVariants as V
use Rattle.mig_template.specs.declared.fields.Field.{Field}
use Rattle.std.specs.Prelude.{ℕ, List, Bool, map, Option, Some, None, option_map}
use Rattle.std.proofs.Common.{Vec}
use Rattle.mig_template.specs.declared.record.Case.{Case}

abbrev pub template_of : Template → model.Template
template_of (V.Leaf k) = model.leaf k
template_of V.Any = model.any
template_of (V.List t) = model.list t
template_of (V.Point n) = model.point n
template_of (V.Rec r) = record_of r
template_of (V.Sum s t) = model.sum s t

abbrev pub field_of : Field → model.Field
field_of f = (f.name, (f.presence, template_of f.template))

abbrev pub case_of : Case → parts.Case
case_of c = (c.literal, c.fields)

-- a literal and fields as they are given
abbrev pub given_case : {A : Type 0} → List ℕ × Vec Field A → parts.Case
given_case g = (g.0, map field_of g.1.items)

abbrev pub given_choice : {A : Type 0} → Option (List ℕ × Vec (List ℕ × Vec Field A) A × Bool) → Option parts.Cases
given_choice None = None
given_choice (Some c) = Some (c.0, map given_case c.1.items, c.2)

-- a template for each field, or none
abbrev pub given_templates : {A : Type 0} → Vec (Option Template) A → List (Option model.Template)
given_templates v = map (option_map template_of) v.items
