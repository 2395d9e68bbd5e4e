-- The first flaw of a family, found among some flaws and then among others.
use Rattle.std.proofs.Common.{◌≡◌, List, [], ◌∷◌, ◌++◌, Bool, true, false, Option, Some, None, refl, sym, ◌∙◌}
use Rattle.mig_model.specs.Family.{Family, Flaw, has_flaw, first_of, first_flaw}
use Rattle.mig_model.specs.Family as model
use Rattle.mig_schema.specs.declared.fault.SchemaFault.{SchemaFault}
use Rattle.mig_schema.specs.declared.fault.SchemaFault.TheVariants as S
use Rattle.mig_schema.specs.Fault.{IsFamilyFault, IsFound, first_flaws, later_flaws}

module _ (f : Family) where
  skipped : (w : Flaw) (ws : List Flaw) → has_flaw w f ≡ false → first_of (w ∷ ws) f ≡ first_of ws f
  skipped w ws e = rw e refl

  stopped : (w : Flaw) (ws : List Flaw) → has_flaw w f ≡ true → first_of (w ∷ ws) f ≡ Some w
  stopped w ws e = rw e refl

  first_stays : (ws vs : List Flaw) (w : Flaw) → first_of ws f ≡ Some w → first_of (ws ++ vs) f ≡ Some w
  first_stays [] vs w h = absurd cc
  first_stays (u ∷ ws) vs w h = by (has_flaw u f) refl (first_stays ws vs w)
    where
      by : (b : Bool) → has_flaw u f ≡ b → (first_of ws f ≡ Some w → first_of (ws ++ vs) f ≡ Some w) → first_of (u ∷ (ws ++ vs)) f ≡ Some w
      by true e rest = stopped u (ws ++ vs) e ∙ sym (stopped u ws e) ∙ h
      by false e rest = skipped u (ws ++ vs) e ∙ rest (sym (skipped u ws e) ∙ h)

  none_first : (ws vs : List Flaw) → first_of ws f ≡ None → first_of (ws ++ vs) f ≡ first_of vs f
  none_first [] vs h = refl
  none_first (u ∷ ws) vs h = by (has_flaw u f) refl (none_first ws vs)
    where
      by : (b : Bool) → has_flaw u f ≡ b → (first_of ws f ≡ None → first_of (ws ++ vs) f ≡ first_of vs f) → first_of (u ∷ (ws ++ vs)) f ≡ first_of vs f
      by true e rest = let never : Some u ≡ None = sym (stopped u ws e) ∙ h in absurd cc
      by false e rest = skipped u (ws ++ vs) e ∙ rest (sym (skipped u ws e) ∙ h)

  first_is : (w : Flaw) → has_flaw model.twice_named f ≡ false → first_of first_flaws f ≡ Some w → first_flaw f ≡ Some w
  first_is w once h = skipped model.twice_named (first_flaws ++ later_flaws) once ∙ first_stays first_flaws later_flaws w h

  pub later_is : has_flaw model.twice_named f ≡ false → first_of first_flaws f ≡ None → first_flaw f ≡ first_of later_flaws f
  later_is once h = skipped model.twice_named (first_flaws ++ later_flaws) once ∙ none_first first_flaws later_flaws h

  pub found_first : (e : SchemaFault) → has_flaw model.twice_named f ≡ false → IsFound (Some e) (first_of first_flaws f) → IsFound (Some e) (first_flaw f)
  found_first S.Memory once h = absurd h
  found_first S.TwiceNamed once h = first_is _ once h
  found_first _ once h = first_is _ once h

-- what was found is the fault
pub found_is_fault : (e : SchemaFault) (first : Option Flaw) → IsFound (Some e) first → IsFamilyFault e first
found_is_fault S.Memory first h = absurd h
found_is_fault _ first h = h
