-- A tree at the body of a named type.
use Rattle.std.proofs.Common.{◌≡◌, ℕ, List, Some, None, sym, ap, ◌∙◌, subst}
use Rattle.std.specs.Prelude.{unwrap_or}
use Rattle.mig_model.specs.Plain.{Plain}
use Rattle.mig_model.specs.Inhabits.{Inhabits}
use Rattle.mig_model.specs.Template.{Template, any}
use Rattle.mig_model.specs.Family.{Family, find_type, body, IsFormed}
use Rattle.mig_model.specs.Place.{place}
use Rattle.mig_laws.proofs.Laws.{place_unfolds, place_is_exact}
use Rattle.mig_value.specs.Typed.{Typed}
use Rattle.mig_value.specs.Fit.{FitAsRead, IsAtomOf}
use Rattle.mig_value.specs.Nodes.{Test, nodes, tree_nodes}
use Rattle.mig_value.proofs.Fits.{fit_unfolds}
use Rattle.mig_codec.specs.declared.fault.ReadFault.{ReadFault}
use Rattle.mig_codec.specs.declared.fault.ReadFault.TheVariants as fault
use Rattle.mig_codec.specs.Reading.{FaultAt, IsRead, IsTyped, IsUnfit, wrong_part, part_nodes}
use Rattle.mig_codec.proofs.Tally.{body_nodes}

module _ (f : Family) (formed : IsFormed f) (n : List ℕ) (V : Template) (e : find_type n f.types ≡ Some V) (t : Plain) where
  pub body_place : place f n t ≡ wrong_part f V t
  body_place = place_unfolds f formed n t ∙ ap (λ o. wrong_part f (unwrap_or o any) t) e

  pub body_fits : (v : Typed) → IsRead f V t v → FitAsRead f.form (body f) n v
  body_fits v r = (fit_unfolds (IsAtomOf f.form) (body f) n v).1 (subst (λ o. IsTyped f (unwrap_or o any) v) (sym e) r.typed)

  pub body_inhabits : (v : Typed) → IsRead f V t v → Inhabits f.form (body f) n t
  body_inhabits v r = (place_is_exact f formed n t).0 (body_place ∙ r.right)

  pub body_counted : (v : Typed) → IsRead f V t v → (p : Test) → nodes p v ≡ tree_nodes f p n t
  body_counted v r p = r.counted p ∙ ap (λ o. part_nodes f p (unwrap_or o any) t) (sym e) ∙ sym (body_nodes f formed p n t)

  pub body_unfit : (d : ReadFault) → FaultAt d (wrong_part f V t) → IsUnfit d f n t
  body_unfit (fault.Unfit p) h = (body_place ∙ h, λ i. let none : place f n t ≡ None = (place_is_exact f formed n t).1 i in let some = sym body_place ∙ none in absurd (let never : Some p ≡ None = sym h ∙ some in cc))
  body_unfit fault.Memory h = tt
