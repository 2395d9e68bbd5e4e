-- The places that what was found stands for, and those that a field of the code leads to.
use Rattle.std.specs.Prelude.{List, map}
use Rattle.mig_template.specs.View.{template_of}
use Rattle.mig_template.specs.declared.fields.Field.{Field}
use Rattle.mig_optic.specs.AnyView.{any_path}
use Rattle.mig_finder.specs.declared.finding.Found.{Found}
use Rattle.mig_finder.specs.Places.{Place, behind, to_field}

abbrev pub found_of : Found → Place
found_of f = (any_path f.optic, template_of f.focus)

abbrev pub places_of : List Found → List Place
places_of fs = map found_of fs

-- the place that a field is, and places inside a field
abbrev pub place_at : Field → Place
place_at f = (to_field f.name f.presence, template_of f.template)

abbrev pub inside : Field → List Place → List Place
inside f ps = behind (to_field f.name f.presence) ps
