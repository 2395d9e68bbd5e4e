-- The way of a version path, one name at a time.
use Rattle.std.proofs.Common.{◌≡◌, ℕ, List, [], ◌∷◌, false, Option, Some, None, refl, ap}
use Rattle.std.specs.Prelude.{is_some, option_and_then}
use Rattle.mig_model.specs.Family.{Family, must_field, way_end, behind_point, is_record, holds}
use Rattle.mig_model.specs.Template as model
use Rattle.mig_model.specs.Template.{rec}
use Rattle.mig_template.specs.declared.template.Template.{Template}
use Rattle.mig_template.specs.declared.template.Template.TheVariants as V
use Rattle.mig_template.specs.View.{template_of}
use Rattle.mig_schema.specs.Check.{record_only}

none_only : (W : model.Template) → is_record W ≡ false → record_only (Some W) ≡ None
none_only (rec fs c r) h = absurd cc
none_only _ h = refl

no_field : (x : List ℕ) (W : model.Template) → is_record W ≡ false → must_field x W ≡ None
no_field x (rec fs c r) h = absurd cc
no_field x _ h = refl

-- a way from what is no record leads to no record
pub way_of_none : (f : Family) (names : List (List ℕ)) (W : model.Template) → is_record W ≡ false → record_only (way_end f names W) ≡ None
way_of_none f [] W h = none_only W h
way_of_none f (x ∷ []) W h = none_only W h
way_of_none f (x ∷ (y ∷ xs)) W h = ap (λ o. record_only (option_and_then (λ U. way_end f (y ∷ xs) (behind_point f U)) o)) (no_field x W h)

pub no_record : (t : Template) → ((r : _) → t ≡ V.Rec r → ⊥) → is_record (template_of t) ≡ false
no_record (V.Rec r) h = absurd (h r refl)
no_record _ h = refl

-- what is asked of a record at the end of the way
pub is_there : (o : Option model.Template) → is_some (record_only o) ≡ holds is_record o
is_there (Some (rec fs c r)) = refl
is_there _ = refl
