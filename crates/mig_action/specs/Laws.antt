-- The laws of field functions: what one does to the parts of a value is what it does to the value's tree, and the answer is a value of the new record.
use Rattle.std.specs.Prelude.{◌≡◌, ◌≤◌, ℕ, List, Some, Contains}
use Rattle.std.specs.List.{AllByRecursion}
use Rattle.mig_model.specs.declared.form.Form.{Form}
use Rattle.mig_model.specs.Template.{Template}
use Rattle.mig_model.specs.Plain.{on_entries}
use Rattle.mig_model.specs.Record as template
use Rattle.mig_model.specs.TemplateKept as template_kept
use Rattle.mig_value.specs.Typed.{out}
use Rattle.mig_value.specs.Parts as value
use Rattle.mig_value.specs.Parts.{IsRecordValue}
use Rattle.mig_value.specs.Kept as value_kept
use Rattle.mig_value.specs.Fit.{ValueFits, Shape, Fit, IsOfForm}
use Rattle.mig_field.specs.FieldFn.{FieldFn}
use Rattle.mig_field.specs.NewRecord.{new_record}
use Rattle.mig_field.specs.Act.{act}
use Rattle.mig_action.specs.Moves.{apply}
use Rattle.mig_action.specs.Nodes.{nodes_at}
use Rattle.mig_value.specs.Nodes.{Test, nodes}

-- the function fits the record p and makes r of it, and v has the shape of p; all keep what records and values keep
pub record Applies (f : FieldFn) (p r : template.RecordParts) (v : value.RecordParts) : Type 0 where
  pub fits : new_record f p ≡ Some r
  pub record_kept : template_kept.RecordKept p
  pub value_kept : value_kept.RecordValueKept v
  pub shape : Shape (template.record_of p) (value.record_of v)

-- a law of every function at every value that it applies to
abbrev pub Always : (FieldFn → template.RecordParts → template.RecordParts → value.RecordParts → Type 0) → Type 0
Always Law = (f : FieldFn) (p r : template.RecordParts) (v : value.RecordParts) → Applies f p r v → Law f p r v

-- the tree of the answer is the action on the value's tree
abbrev pub TreeActs : Type 0
TreeActs = Always (λ f p r v. out (value.record_of (apply f p v)) ≡ on_entries (act f p) (out (value.record_of v)))

-- the answer has the shape of the new record
abbrev pub ShapeStays : Type 0
ShapeStays = Always (λ f p r v. Shape (template.record_of r) (value.record_of (apply f p v)))

-- in every family in which the value fits, and whose form its tree has, the answer fits the new record
abbrev pub FitStays : Type 0
FitStays = Always (λ f p r v.
    (form : Form) (body : List ℕ → Template) → ValueFits (IsOfForm form) (Fit form body) (template.record_of p) (value.record_of v) → IsOfForm form (value.record_of v)
    → ValueFits (IsOfForm form) (Fit form body) (template.record_of r) (value.record_of (apply f p v)))

-- each node that stands at a point of the answer stood at a point of the value
abbrev pub NodesStay : Type 0
NodesStay = Always (λ f p r v. AllByRecursion (Contains (nodes_at (template.record_of p) (value.record_of v))) (nodes_at (template.record_of r) (value.record_of (apply f p v))))

-- for every test there are at most as many nodes whose name passes
abbrev pub NoMoreNodes : Type 0
NoMoreNodes = Always (λ f p r v. (q : Test) → nodes q (value.record_of (apply f p v)) ≤ nodes q (value.record_of v))

-- no two names of the answer are equal, and its lists ascend
abbrev pub PartsStay : Type 0
PartsStay = Always (λ f p r v. IsRecordValue (apply f p v))
