use Rattle.std.proofs.Common.{◌≡◌, ◌++◌, map, drop}
use Rattle.mig_model.specs.Template.{fields_of, cases_of}
use Rattle.mig_template.specs.Size.{template_size, field_list_size, cases_in_size}
use Rattle.mig_template.specs.View.{template_of, field_of, case_of}
use Rattle.mig_finder.specs.Places.{field_places, case_places}
use Rattle.mig_finder.specs.View.{found_of}
use Rattle.mig_finder.proofs.places.+places.Given as goal

abbrev pub decreases-places_in : goal.decreases-places_in
decreases-places_in l = template_size (template_of l.template.now)

abbrev pub decreases-add_field_places : goal.decreases-add_field_places
decreases-add_field_places l = field_list_size l.fields.now

abbrev pub decreases-add_case_places : goal.decreases-add_case_places
decreases-add_case_places l = cases_in_size l.choice.now

abbrev pub invariant-add_field_places-loop-field : goal.invariant-add_field_places-loop-field
invariant-add_field_places-loop-field l =
    map found_of l.list.items ++ field_places l.name (fields_of (map field_of (drop l.field-index l.field-items))) ≡ map found_of l.initial.list.items ++ field_places l.name (fields_of l.fields)

abbrev pub invariant-add_case_places-loop-case : goal.invariant-add_case_places-loop-case
invariant-add_case_places-loop-case l =
    map found_of l.list.items ++ case_places l.name (cases_of (map case_of (drop l.case-index l.case-items))) ≡ map found_of l.initial.list.items ++ case_places l.name (cases_of l.choice.1)
