use Rattle.std.proofs.Common.{◌≡◌, map, length}
use Rattle.std.specs.Prelude.{option_map}
use Rattle.mig_model.specs.Template.{fields_of}
use Rattle.mig_model.specs.TemplateKept.{FieldsKept}
use Rattle.mig_template.specs.Retyped.{with_templates}
use Rattle.mig_template.specs.View.{template_of, field_of}
use Rattle.mig_template.proofs.fields.Fields.with_templates.Given as goal

abbrev pub invariant-loop-template : goal.invariant-loop-template
invariant-loop-template l =
    (length l.list.items ≡ length l.yielded) × (map field_of l.list.items ≡ with_templates (map (option_map template_of) l.yielded) (map field_of l.fields)) × FieldsKept (fields_of (map field_of l.list.items))
