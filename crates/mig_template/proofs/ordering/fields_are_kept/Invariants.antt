use Rattle.std.proofs.Common.{map, take}
use Rattle.mig_model.specs.Template.{fields_of}
use Rattle.mig_model.specs.TemplateKept.{FieldsKept}
use Rattle.mig_template.specs.View.{field_of}
use Rattle.mig_template.proofs.ordering.fields_are_kept.Given as goal

abbrev pub invariant-loop-field : goal.invariant-loop-field
invariant-loop-field l = FieldsKept (fields_of (map field_of (take l.field-index l.list)))
