use Rattle.std.proofs.Common.{◌≡◌, nat_eq, map, drop}
use Rattle.indexmap.specs.IndexSet.{insert_all}
use Rattle.mig_model.specs.Template.{fields_of, cases_of}
use Rattle.mig_template.specs.Size.{template_size, field_list_size, cases_in_size}
use Rattle.mig_template.specs.View.{template_of, field_of, case_of}
use Rattle.mig_schema.specs.Reach.{field_points, case_points, places}
use Rattle.mig_schema.proofs.named.NamedTypes.+places.Given as goal

abbrev pub decreases-add_places : goal.decreases-add_places
decreases-add_places l = template_size (template_of l.template.now)

abbrev pub decreases-add_field_places : goal.decreases-add_field_places
decreases-add_field_places l = field_list_size l.fields.now

abbrev pub decreases-add_case_places : goal.decreases-add_case_places
decreases-add_case_places l = cases_in_size l.choice.now

abbrev pub invariant-add_field_places-loop-field : goal.invariant-add_field_places-loop-field
invariant-add_field_places-loop-field l =
    insert_all nat_eq l.found.keys (places l.self (field_points (fields_of (map field_of (drop l.field-index l.field-items))))) ≡ insert_all nat_eq l.initial.found.keys (places l.self (field_points (fields_of l.fields)))

abbrev pub invariant-add_case_places-loop-case : goal.invariant-add_case_places-loop-case
invariant-add_case_places-loop-case l =
    insert_all nat_eq l.found.keys (places l.self (case_points (cases_of (map case_of (drop l.case-index l.case-items))))) ≡ insert_all nat_eq l.initial.found.keys (places l.self (case_points (cases_of l.choice.1)))
