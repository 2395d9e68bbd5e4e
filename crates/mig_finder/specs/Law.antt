-- The laws of places: each optic takes the values of the template, and what it finds are the values at the place.
use Rattle.std.specs.Prelude.{◌≡◌, ℕ, List, [], ◌∷◌}
use Rattle.std.specs.List.{AllByRecursion}
use Rattle.mig_model.specs.declared.form.Form.{Form}
use Rattle.mig_model.specs.Plain.{Plain}
use Rattle.mig_model.specs.Template.{Template}
use Rattle.mig_laws.specs.Sides.{SumsApart}
use Rattle.mig_model.specs.TemplateKept.{TemplateKept}
use Rattle.mig_value.specs.Typed.{Typed, out}
use Rattle.mig_value.specs.Kept as value
use Rattle.mig_value.specs.Fit.{ValueFits}
use Rattle.mig_path.specs.Path.{Takes, foci, over}
use Rattle.mig_finder.specs.Places.{Place, places}
use Rattle.mig_finder.specs.Ways.{Way, at_place, ways}

-- the optic takes the value, and what it finds there are values of the template of the place
pub record Finds (U : Typed → Type 0) (P : List ℕ → Typed → Type 0) (v : Typed) (p : Place) : Type 0 where
  pub takes : Takes p.0 v
  pub fit : AllByRecursion (ValueFits U P p.1) (foci p.0 v)

abbrev pub PlacesFit : (Typed → Type 0) → (List ℕ → Typed → Type 0) → Type 0
PlacesFit U P = (x : List ℕ) (V : Template) (v : Typed) → TemplateKept V → ValueFits U P V v → AllByRecursion (Finds U P v) (places x V)

-- g changes the trees of the template's values as f does
abbrev pub ChangesAs : (Typed → Type 0) → (List ℕ → Typed → Type 0) → Template → (Typed → Typed) → (Plain → Plain) → Type 0
ChangesAs U P W g f = (w : Typed) → value.ValueKept w → ValueFits U P W w → out (g w) ≡ f (out w)

-- what the optic finds are the values where the way leads: changed there, the value's tree is changed there
abbrev pub IsWayOf : (Typed → Type 0) → (List ℕ → Typed → Type 0) → Typed → Place → Way → Type 0
IsWayOf U P v p w = (g : Typed → Typed) (f : Plain → Plain) → ChangesAs U P p.1 g f → out (over p.0 g v) ≡ at_place w f (out v)

-- the lists are of one length, and R holds of each two at the same index
abbrev pub EachTwo : {A B : Type 0} → (A → B → Type 0) → List A → List B → Type 0
EachTwo R [] [] = Unit {0}
EachTwo R (x ∷ xs) (y ∷ ys) = R x y × EachTwo R xs ys
EachTwo R xs ys = ⊥

-- so it is of all places of a name, where the kind of a tree tells the side of each sum
abbrev pub PlacesLead : Form → (Typed → Type 0) → (List ℕ → Typed → Type 0) → Type 0
PlacesLead form U P =
    (x : List ℕ) (V : Template) (v : Typed) → TemplateKept V → SumsApart form V → value.ValueKept v → ValueFits U P V v → EachTwo (IsWayOf U P v) (places x V) (ways form x V)
