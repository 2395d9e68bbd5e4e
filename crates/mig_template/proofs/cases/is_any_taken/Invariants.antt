use Rattle.std.proofs.Common.{◌≡◌, ◌∷◌, map, drop}
use Rattle.std.specs.List.{list_any}
use Rattle.std.specs.Map.{keys_of}
use Rattle.mig_model.specs.Names.{is_among}
use Rattle.mig_template.specs.View.{field_of}
use Rattle.mig_template.proofs.cases.is_any_taken.Given as goal

abbrev pub invariant-loop-field : goal.invariant-loop-field
invariant-loop-field l =
    list_any (is_among (l.tag ∷ keys_of l.common)) (keys_of (map field_of (drop l.field-index l.fields))) ≡ list_any (is_among (l.tag ∷ keys_of l.common)) (keys_of (map field_of l.fields))
