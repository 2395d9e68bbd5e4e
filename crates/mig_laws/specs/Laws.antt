-- Laws about inhabitants and wrong places in formed families, at all names: the body of a name that a family lacks is any tree.
use Rattle.std.specs.Prelude.{◌≡◌, ◌↔◌, ℕ, List, None}
use Rattle.mig_model.specs.Plain.{Plain}
use Rattle.mig_model.specs.Inhabits.{Fits, Inhabits}
use Rattle.mig_model.specs.Place.{wrong, place}
use Rattle.mig_model.specs.Family.{Family, body, IsFormed}

-- the first wrong place is that of the body, where each point has its own first wrong place
abbrev pub PlaceUnfolds : Type 0
PlaceUnfolds = (f : Family) → IsFormed f → (n : List ℕ) (t : Plain) → place f n t ≡ wrong f.form (place f) (body f n) t

-- a tree inhabits a named type where it fits the body, and what stands at points inhabits the types that they name
abbrev pub InhabitsUnfolds : Type 0
InhabitsUnfolds = (f : Family) → IsFormed f → (n : List ℕ) (t : Plain) → Inhabits f.form (body f) n t ↔ Fits f.form (Inhabits f.form (body f)) (body f n) t

-- there is no wrong place exactly where the tree inhabits
abbrev pub PlaceIsExact : Type 0
PlaceIsExact = (f : Family) → IsFormed f → (n : List ℕ) (t : Plain) → (place f n t ≡ None) ↔ Inhabits f.form (body f) n t
