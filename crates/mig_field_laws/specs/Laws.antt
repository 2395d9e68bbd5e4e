-- The laws of field functions on trees: from a record's maps one leads to those of the new record, and it looks at no tree at a point.
use Rattle.std.specs.Prelude.{◌≡◌, ◌≤◌, ℕ, List, [], Bool, false, not, ◌||◌, Option, Some, None, IsTrue, unwrap_or}
use Rattle.mig_model.specs.declared.form.Form.{Form}
use Rattle.mig_model.specs.Plain as plain
use Rattle.mig_model.specs.Plain.{Plain, on_entries}
use Rattle.mig_model.specs.Names.{Ascends, under, has}
use Rattle.mig_model.specs.Template.{Template, Field, fields_of}
use Rattle.mig_model.specs.Inhabits.{Entries, Fits, Inhabits, IsMapOf, is_in_form}
use Rattle.mig_model.specs.Family.{holds, has_point, any_inside, is_wrong_leaf}
use Rattle.mig_model.specs.Record.{RecordParts, Case, Cases, IsRecord, record_of, found_case}
use Rattle.mig_model.specs.TemplateKept.{TemplateKept, FieldsKept, RecordKept}
use Rattle.mig_fold.specs.Fold.{treat}
use Rattle.mig_value.specs.Nodes.{tally}
use Rattle.mig_field.specs.FieldFn.{Scope, common, in_case, fill_template, FieldOp, add, forget, add_case, FieldFn}
use Rattle.mig_field.specs.NewRecord.{is_tag, new_record}
use Rattle.mig_field.specs.Act.{act}

-- the fields that a function acts on
abbrev pub fields_in : Scope → RecordParts → List Field
fields_in common p = p.fields
fields_in (in_case l) p = unwrap_or (found_case l p.choice) []

-- a field is forgotten whose template holds a point
abbrev pub forgets_point : FieldOp → List Field → Bool
forgets_point (forget x) fs = holds (λ s. has_point s.1) (under x fs)
forgets_point op fs = false

abbrev pub is_still : FieldFn → RecordParts → Bool
is_still f p = not (forgets_point f.op (fields_in f.scope p))

-- the templates that a function brings are in order
abbrev pub FunctionKept : FieldOp → Type 0
FunctionKept (add x c) = TemplateKept (fill_template c)
FunctionKept (add_case b fs) = FieldsKept (fields_of fs)
FunctionKept op = Unit {0}

-- the names of a map ascend
abbrev pub NamesAscend : Plain → Type 0
NamesAscend t = IsMapOf (λ (es : Entries). Ascends es) t

-- the fields of the case that the map's tag names
abbrev pub named_case : Option Plain → List Case → List Field
named_case (Some (plain.text s)) cs = unwrap_or (under s cs) []
named_case o cs = []

abbrev pub tagged_fields : Option Cases → Entries → List Field
tagged_fields None es = []
tagged_fields (Some c) es = named_case (under c.0 es) c.1

-- the name is a common field, the tag, or a field of the tag's case
abbrev pub is_known : RecordParts → Entries → List ℕ → Bool
is_known p es n = has n p.fields || (is_tag n p.choice || has n (tagged_fields p.choice es))

-- the trees under all other names are of the form
abbrev pub AreUnknownsFormed : Form → RecordParts → Entries → Type 0
AreUnknownsFormed form p es =
    (n : List ℕ) (t : Plain) → is_known p es n ≡ false → under n es ≡ Some t → IsTrue (is_in_form form t)

abbrev pub UnknownsFormed : Form → RecordParts → Plain → Type 0
UnknownsFormed form p t = IsMapOf (AreUnknownsFormed form p) t

-- whatever may stand at points
abbrev pub Anything : List ℕ → Plain → Type 0
Anything n t = Unit {0}

-- a test of the trees at points
abbrev pub Passes : (List ℕ → Plain → Bool) → List ℕ → Plain → Type 0
Passes test n t = IsTrue (test n t)

-- a law of every function, at every record in order that it fits
abbrev pub Always : (FieldFn → RecordParts → RecordParts → Type 0) → Type 0
Always Law =
    (f : FieldFn) (p r : RecordParts) → new_record f p ≡ Some r → IsRecord p.fields p.choice → Law f p r

-- the new record is in order at all depths
abbrev pub OrderStays : Type 0
OrderStays =
    (f : FieldFn) (p r : RecordParts) → new_record f p ≡ Some r → RecordKept p → FunctionKept f.op → RecordKept r

-- what inhabits the record, with inhabitants of the bodies at points, becomes what inhabits the new one so
abbrev pub TypesStay : Type 0
TypesStay = Always (λ f p r.
    (form : Form) (body : List ℕ → Template) (t : Plain) → Fits form (Inhabits form body) (record_of p) t
    → NamesAscend t → UnknownsFormed form p t → Fits form (Inhabits form body) (record_of r) (on_entries (act f p) t))

-- so it is with any test of the trees at points
abbrev pub TestsStay : Type 0
TestsStay = Always (λ f p r.
    (form : Form) (test : List ℕ → Plain → Bool) (t : Plain) → Fits form (Passes test) (record_of p) t
    → NamesAscend t → UnknownsFormed form p t → Fits form (Passes test) (record_of r) (on_entries (act f p) t))

-- whatever is done to the trees at points, also what changes their kinds, may be done before or after
abbrev pub TreatingCommutes : Type 0
TreatingCommutes = Always (λ f p r.
    IsTrue (is_still f p) → (form : Form) (h : List ℕ → Plain → Plain) (t : Plain)
    → Fits form Anything (record_of p) t → NamesAscend t
    → treat form h (record_of r) (on_entries (act f p) t) ≡ on_entries (act f p) (treat form h (record_of p) t))

-- whatever is counted in the trees at points, it comes to no more afterwards
abbrev pub CountsStay : Type 0
CountsStay = Always (λ f p r.
    (form : Form) (h : List ℕ → Plain → ℕ) (t : Plain) → Fits form Anything (record_of p) t → NamesAscend t
    → tally form h (record_of r) (on_entries (act f p) t) ≤ tally form h (record_of p) t)

-- the names of a map ascend afterwards
abbrev pub NamesStay : Type 0
NamesStay = (f : FieldFn) (p : RecordParts) (t : Plain) → NamesAscend t → NamesAscend (on_entries (act f p) t)

-- a map of the form is still of it, where all leaves of the new record are of kinds of the form
abbrev pub FormStays : Type 0
FormStays = Always (λ f p r.
    (form : Form) (t : Plain) → Fits form Anything (record_of p) t → NamesAscend t → IsTrue (is_in_form form t)
    → any_inside (is_wrong_leaf form) (record_of r) ≡ false → IsTrue (is_in_form form (on_entries (act f p) t)))
