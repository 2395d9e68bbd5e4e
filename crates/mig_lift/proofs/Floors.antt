-- The family of the place that is the floor of a version.
use Rattle.std.proofs.Common.{◌≡◌, ◌<◌, ◌≤◌, ◌⊎◌, inl, inr, ℕ, zero, suc, true, false, List, [], ◌∷◌, Option, Some, None, refl, arith}
use Rattle.std.specs.Prelude.{slice_get, Contains, nat_le}
use Rattle.std.proofs.lemmas.Bool.{cases_lt, lt-leb, le-leb}
use Rattle.std.proofs.lemmas.Option.{same_Some}
use Rattle.mig_model.specs.Family.{Family}
use Rattle.mig_schema.proofs.Inserted.{is_first, is_later, first_or_later}
use Rattle.mig_rule.specs.Chain.{IsFloor}
use Rattle.mig_rule.proofs.Floors.{Rises}
use Rattle.mig_lift.specs.Lift.{floor_in}

all_above : (u : ℕ) (us : List ℕ) → Rises (Some u) us → (w : ℕ) → Contains us w → u < w
all_above u [] r w c = absurd (omega (arith, c.1))
all_above u (v ∷ us) r w c = by (first_or_later v us w c) (all_above v us r.1 w)
  where
    by : (v ≡ w) ⊎ Contains us w → (Contains us w → v < w) → u < w
    by (inl e) h = omega (arith, r.0, e)
    by (inr l) h = omega (arith, r.0, h l)

module _ (v : ℕ) where
  pub none_below : (us : List ℕ) (fs : List Family) → ((u : ℕ) → Contains us u → v < u) → floor_in v us fs ≡ None
  none_below [] fs h = refl
  none_below (u ∷ us) [] h = refl
  none_below (u ∷ us) (f ∷ fs) h =
      let above : nat_le u v ≡ false = lt-leb u v (h u (is_first u us)) in
      rw (none_below us fs (λ w c. h w (is_later u us w c)), above) refl

  pub at_floor : (o : Option ℕ) (us : List ℕ) (fs : List Family) (p : ℕ) (f : Family) → Rises o us → IsFloor us v p → slice_get fs p ≡ Some f → floor_in v us fs ≡ Some f
  at_floor o [] fs p f r i e = absurd (let x : None ≡ Some i.version = i.there in cc)
  at_floor o (u ∷ us) [] p f r i e = absurd cc
  at_floor o (u ∷ us) (g ∷ fs) zero f r i e =
      let here : u ≡ i.version = same_Some u i.version i.there in
      let reached : nat_le u v ≡ true = le-leb u v (omega (arith, here, i.not_above)) in
      rw (none_below us fs later, reached) e
    where
      later : (w : ℕ) → Contains us w → v < w
      later w c = by (cases_lt v w)
        where
          by : (v < w) ⊎ (w ≤ v) → v < w
          by (inl l) = l
          by (inr l) =
              let here : u ≡ i.version = same_Some u i.version i.there in
              absurd (omega (arith, here, all_above u us r.1 w c, i.greatest w (is_later u us w c) l))
  at_floor o (u ∷ us) (g ∷ fs) (suc p) f r i e =
      rw (at_floor (Some u) us fs p f r.1 (record { version = i.version; there = i.there; not_above = i.not_above; greatest = λ w c. i.greatest w (is_later u us w c) }) e) refl
