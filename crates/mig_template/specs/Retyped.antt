-- Fields, cases and records with other templates: a list has for each field a template, or none where it keeps its own.
use Rattle.std.specs.Prelude.{◌≡◌, List, [], ◌∷◌, length, Option, Some, None, unwrap_or, option_map}
use Rattle.mig_model.specs.Template.{Template, Field}
use Rattle.mig_model.specs.Record.{Case, Cases, RecordParts}

abbrev pub retyped : Option Template → Field → Field
retyped o f = (f.0, (f.1.0, unwrap_or o f.1.1))

abbrev pub with_templates : List (Option Template) → List Field → List Field
with_templates [] fs = []
with_templates (o ∷ os) [] = []
with_templates (o ∷ os) (f ∷ fs) = retyped o f ∷ with_templates os fs

abbrev pub cases_with : List (List (Option Template)) → List Case → List Case
cases_with [] cs = []
cases_with (os ∷ oss) [] = []
cases_with (os ∷ oss) (c ∷ cs) = (c.0, with_templates os c.1) ∷ cases_with oss cs

abbrev pub choice_with : List (List (Option Template)) → Cases → Cases
choice_with oss c = (c.0, cases_with oss c.1, c.2)

-- each field has its place in the lists
abbrev pub HavePlaces : List (List (Option Template)) → List Case → Type 0
HavePlaces [] [] = Unit {0}
HavePlaces (os ∷ oss) (c ∷ cs) = (length os ≡ length c.1) × HavePlaces oss cs
HavePlaces oss cs = ⊥

abbrev pub record_with : List (Option Template) → List (List (Option Template)) → RecordParts → RecordParts
record_with os oss p = record p { fields = with_templates os p.fields; choice = option_map (choice_with oss) p.choice }

abbrev pub cases_or_none : Option Cases → List Case
cases_or_none None = []
cases_or_none (Some c) = c.1
