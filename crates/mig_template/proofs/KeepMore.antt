-- What fields and cases keep, one more at a time.
use Rattle.std.proofs.Common.{List, [], ◌∷◌, ◌++◌}
use Rattle.std.specs.List.{AllByRecursion}
use Rattle.mig_model.specs.Template.{Field, fields_of, cases_of}
use Rattle.mig_model.specs.Names.{Ascends}
use Rattle.mig_model.specs.TemplateKept.{TemplateKept, FieldsKept, FieldListKept, CasesKept}
use Rattle.mig_model.specs.Record.{Case}

pub field_keeps_more : (fs : List Field) (f : Field) → FieldsKept (fields_of fs) → TemplateKept f.1.1 → FieldsKept (fields_of (fs ++ f ∷ []))
field_keeps_more [] f k h = (h, tt)
field_keeps_more (g ∷ fs) f k h = (k.0, field_keeps_more fs f k.1 h)

abbrev pub Kept : List Case → Type 0
Kept cs = CasesKept (cases_of cs) × AllByRecursion (λ (d : Case). Ascends d.1) cs

pub keeps_more : (cs : List Case) (d : Case) → Kept cs → FieldListKept d.1 → Kept (cs ++ d ∷ [])
keeps_more [] d k h = ((h.1, tt), (h.0, tt))
keeps_more (c ∷ cs) d k h = let rest = keeps_more cs d (k.0.1, k.1.1) h in ((k.0.0, rest.0), (k.1.0, rest.1))
