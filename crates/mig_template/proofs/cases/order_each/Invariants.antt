use Rattle.std.proofs.Common.{◌≡◌, ◌∷◌, false, map}
use Rattle.std.specs.List.{list_any}
use Rattle.std.specs.Map.{keys_of}
use Rattle.mig_model.specs.Record.{FieldsOrdered, has_twice_in}
use Rattle.mig_template.specs.View.{case_of, given_case}
use Rattle.mig_template.proofs.cases.order_each.Given as goal

abbrev pub invariant-loop-literal : goal.invariant-loop-literal
invariant-loop-literal l =
    FieldsOrdered (map given_case l.yielded) (map case_of l.cases.items) × (list_any (has_twice_in (l.tag ∷ keys_of l.common)) (map given_case l.yielded) ≡ false)
