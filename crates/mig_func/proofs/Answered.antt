-- The laws of a function, said of the value that was given and of the record that came back.
use Rattle.std.proofs.Common.{◌≡◌, ◌≤◌, ℕ, List, true, Some, sym, subst}
use Rattle.std.specs.Prelude.{is_some, Contains}
use Rattle.std.specs.List.{AllByRecursion}
use Rattle.mig_model.specs.declared.form.Form.{Form}
use Rattle.mig_model.specs.Template.{Template}
use Rattle.mig_model.specs.Plain.{on_entries}
use Rattle.mig_model.specs.Record as template
use Rattle.mig_model.specs.TemplateKept as template_kept
use Rattle.mig_value.specs.Typed.{Typed, out}
use Rattle.mig_value.specs.Parts as value
use Rattle.mig_value.specs.Kept as value_kept
use Rattle.mig_value.specs.Fit.{ValueFits, Shape, Fit, IsOfForm}
use Rattle.mig_field.specs.FieldFn.{FieldFn}
use Rattle.mig_field.specs.NewRecord.{new_record}
use Rattle.mig_field.specs.Act.{act}
use Rattle.mig_action.specs.Moves.{apply}
use Rattle.mig_action.specs.Nodes.{nodes_at}
use Rattle.mig_value.specs.Nodes.{Test, nodes}
use Rattle.mig_action.specs.Laws.{Applies}
use Rattle.mig_action.proofs.Laws.{tree_acts, shape_stays, fit_stays, nodes_stay, no_more_nodes}
use Rattle.mig_model.proofs.Options.{some-there}

module _ (f : FieldFn) (p : template.RecordParts) (u : Typed) (v w : value.RecordParts) (is : u ≡ value.record_of v) (became : w ≡ apply f p v)
    (record_kept : template_kept.RecordKept p) (value_kept : value_kept.RecordValueKept v) (shape : Shape (template.record_of p) u) where
  -- what holds of the parts holds of the value and of what came back
  along : (T : Typed → Typed → Type 0) → T (value.record_of v) (value.record_of (apply f p v)) → T u (value.record_of w)
  along T t = subst (λ x. T x (value.record_of w)) (sym is) (subst (λ x. T (value.record_of v) (value.record_of x)) (sym became) t)

  applies : (r : template.RecordParts) → new_record f p ≡ Some r → Applies f p r v
  applies r e = record { fits = e; record_kept = record_kept; value_kept = value_kept; shape = subst (Shape (template.record_of p)) is shape }

  pub tree_is : is_some (new_record f p) ≡ true → out (value.record_of w) ≡ on_entries (act f p) (out u)
  tree_is fits = let r = some-there (new_record f p) fits in along (λ x y. out y ≡ on_entries (act f p) (out x)) (tree_acts f p r.0 v (applies r.0 r.1))

  pub shape_is : (r : template.RecordParts) → new_record f p ≡ Some r → Shape (template.record_of r) (value.record_of w)
  shape_is r e = along (λ x y. Shape (template.record_of r) y) (shape_stays f p r v (applies r e))

  pub fit_is : (r : template.RecordParts) → new_record f p ≡ Some r → (form : Form) (body : List ℕ → Template) → ValueFits (IsOfForm form) (Fit form body) (template.record_of p) u → IsOfForm form u
      → ValueFits (IsOfForm form) (Fit form body) (template.record_of r) (value.record_of w)
  fit_is r e form body =
      along (λ x y. ValueFits (IsOfForm form) (Fit form body) (template.record_of p) x → IsOfForm form x → ValueFits (IsOfForm form) (Fit form body) (template.record_of r) y) (fit_stays f p r v (applies r e) form body)

  pub nodes_are : (r : template.RecordParts) → new_record f p ≡ Some r → AllByRecursion (Contains (nodes_at (template.record_of p) u)) (nodes_at (template.record_of r) (value.record_of w))
  nodes_are r e = along (λ x y. AllByRecursion (Contains (nodes_at (template.record_of p) x)) (nodes_at (template.record_of r) y)) (nodes_stay f p r v (applies r e))

  pub count_is : is_some (new_record f p) ≡ true → (q : Test) → nodes q (value.record_of w) ≤ nodes q u
  count_is fits q = let r = some-there (new_record f p) fits in along (λ x y. nodes q y ≤ nodes q x) (no_more_nodes f p r.0 v (applies r.0 r.1) q)
