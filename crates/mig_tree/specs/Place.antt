-- A place as plain data, and as text.
use Rattle.std.specs.Prelude.{ℕ, List, [], ◌∷◌, map, flat_map}
use Rattle.std.specs.Fmt.{decimal}
use Rattle.mig_model.specs.Place.{PlaceStep, Place, named, index}
use Rattle.mig_tree.specs.Spelling.{spelled_byte}
use Rattle.mig_tree.specs.declared.place.Step.{Step}
use Rattle.mig_tree.specs.declared.place.Step.TheVariants.{Named, Index}

abbrev pub step_of : Step → PlaceStep
step_of (Named n) = named n
step_of (Index i) = index i

abbrev pub place_of : List Step → Place
place_of steps = map step_of steps

-- a slash, and the spelled name or the number
abbrev pub step_text : PlaceStep → List ℕ
step_text (named n) = 47 ∷ flat_map spelled_byte n
step_text (index i) = 47 ∷ decimal i

abbrev pub place_text : Place → List ℕ
place_text [] = 47 ∷ []
place_text (s ∷ ss) = flat_map step_text (s ∷ ss)
