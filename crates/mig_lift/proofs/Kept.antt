-- What is kept by an accepted chain that is small.
use Rattle.std.proofs.Common.{◌≡◌, ◌<◌, ℕ, length, Bool, true, false, cond, Some, None, sym, ap, subst}
use Rattle.std.specs.Prelude.{◌&&◌, nat_lt, nat_le, slice_get}
use Rattle.std.specs.List.{AllByRecursion, flat_map}
use Rattle.std.proofs.lemmas.Option.{slice_get_within}
use Rattle.mig_model.specs.Family.{Family, IsFormed}
use Rattle.mig_model.specs.Kinds.{IsMap}
use Rattle.mig_model.specs.Plain.{Plain}
use Rattle.mig_model.specs.Template.{is_of_form}
use Rattle.mig_rule.specs.Chain.{Chain, AreAccepted, IsAccepted, IsFloor, families, fixes, versions}
use Rattle.mig_rule.specs.Lifted.{fixed_by, numbered}
use Rattle.mig_rule.specs.Spelled.{IsSpelled, IsSpelledText, chain_step_kinds, chain_step_texts}
use Rattle.mig_rule.proofs.Floors.{Rises}
use Rattle.mig_lift.specs.Lift.{floor_family}
use Rattle.mig_lift.specs.Small.{is_flat, is_small, numbered_edits}
use Rattle.mig_lift.specs.View.{with_edits}
use Rattle.mig_lift.specs.Writable.{IsWritable}
use Rattle.mig_lift.proofs.Accepted.{IsFlatOf, flat_at, family_there, fixed_is, kind_of_form, texts_spelled, versions_rise}
use Rattle.mig_lift.proofs.Floors.{at_floor}
use Rattle.mig_lift.proofs.Parts.{Parts, parts_of, steps_of}
use Rattle.mig_lift.proofs.ShortPath.{IsShort, short_version}
use Rattle.mig_lift.proofs.Written.{edited_written}

-- the family of the schema at the place, which is the floor of the version
pub record FloorAt (c : Chain) (v p : ℕ) : Type 0 where
  pub family : Family
  pub there : slice_get (families c.steps) p ≡ Some family
  pub floor : floor_family c v ≡ Some family
  pub flat : IsFlatOf c.form c.version family

-- where that family is formed, the version path has no more than one name
pub short_path : (c : Chain) (v p : ℕ) → FloorAt c v p → ((f : Family) → slice_get (families c.steps) p ≡ Some f → IsFormed f) → IsShort c.version
short_path c v p f formed = subst IsShort f.flat.version_is (short_version f.family (formed f.family f.there) f.flat.flat)

module _ (c : Chain) (small : is_small c ≡ true) where
  abbrev pub parts : Parts
  parts = (parts_of c.steps small).0

  steps_are : c.steps ≡ steps_of parts
  steps_are = (parts_of c.steps small).1.0

  flat : is_flat parts.before ≡ true
  flat = (parts_of c.steps small).1.1

  pub first_fix : numbered_edits (slice_get (fixes c.steps) 0) ≡ Some (parts.number, parts.edits)
  first_fix = ap (λ xs. numbered_edits (slice_get (fixes xs) 0)) steps_are

  module _ (accepted : IsAccepted c) where
    passed : AreAccepted c.form c.version (steps_of parts)
    passed = subst (AreAccepted c.form c.version) steps_are accepted

    pub flat_family : (i : ℕ) (f : Family) → slice_get (families c.steps) i ≡ Some f → IsFlatOf c.form c.version f
    flat_family i f e = flat_at c.form c.version parts passed flat i f (subst (λ xs. slice_get (families xs) i ≡ Some f) steps_are e)

    pub floor_at : (v p : ℕ) → IsFloor (versions c.steps) v p → FloorAt c v p
    floor_at v p i =
        let there = family_there c.form c.version parts passed flat p (subst (λ xs. p < length (versions xs)) steps_are (slice_get_within (versions c.steps) p i.version i.there)) in
        let family : slice_get (families c.steps) p ≡ Some there.0 = subst (λ xs. slice_get (families xs) p ≡ Some there.0) (sym steps_are) there.1 in
        record {
          family = there.0;
          there = family;
          floor = at_floor v None (versions c.steps) (families c.steps) p there.0 (subst (λ xs. Rises None (versions xs)) (sym steps_are) (versions_rise c.form c.version parts passed flat)) i family;
          flat = flat_family p there.0 family;
        }

    pub fixed_at : (v aim : ℕ) (t : Plain) → IsMap t → fixed_by v aim (numbered c.steps) t ≡ cond (nat_lt v parts.number && nat_le parts.number aim) (with_edits parts.edits t) t
    fixed_at v aim t m = subst (λ xs. fixed_by v aim (numbered xs) t ≡ cond (nat_lt v parts.number && nat_le parts.number aim) (with_edits parts.edits t) t) (sym steps_are) (fixed_is c.form c.version parts passed flat v aim t m)

    pub fixed_written : IsSpelled c → (v aim : ℕ) (t : Plain) → IsMap t → IsWritable c.form t → IsWritable c.form (fixed_by v aim (numbered c.steps) t)
    fixed_written spelled v aim t m w = subst (IsWritable c.form) (sym (fixed_at v aim t m)) (by (nat_lt v parts.number && nat_le parts.number aim))
      where
        by : (due : Bool) → IsWritable c.form (cond due (with_edits parts.edits t) t)
        by true =
            edited_written c.form parts.edits t m
            (texts_spelled parts (subst (λ xs. AllByRecursion IsSpelledText (flat_map chain_step_texts xs)) steps_are spelled.texts))
            (kind_of_form c.form parts (subst (λ xs. AllByRecursion (λ k. is_of_form c.form k ≡ true) (flat_map chain_step_kinds xs)) steps_are spelled.kinds)) w
        by false = w
