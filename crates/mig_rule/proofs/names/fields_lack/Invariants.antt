use Rattle.std.proofs.Common.{◌≡◌, map, drop}
use Rattle.mig_model.specs.Family.{is_unknown, any_in_fields}
use Rattle.mig_model.specs.Template.{fields_of}
use Rattle.mig_template.specs.View.{field_of}
use Rattle.mig_rule.proofs.names.fields_lack.Given as goal

abbrev pub invariant-loop-field : goal.invariant-loop-field
invariant-loop-field l = any_in_fields (is_unknown l.family) (fields_of (map field_of (drop l.field-index l.fields))) ≡ any_in_fields (is_unknown l.family) (fields_of (map field_of l.fields))
