-- What becomes of a save's tree, case by case.
use Rattle.std.proofs.Common.{◌≡◌, ℕ, ◌<◌, ◌≤◌, false, true, cond, Option, Some, None, ap, ◌∙◌}
use Rattle.std.specs.Prelude.{Result, Ok, Err, IfOk, nat_lt}
use Rattle.std.proofs.lemmas.Bool.{le-ltb, lt-ltb}
use Rattle.mig_model.specs.Family.{Family}
use Rattle.mig_model.specs.Place.{Place, place}
use Rattle.mig_model.specs.Plain.{Plain}
use Rattle.mig_model.specs.Version.{strip}
use Rattle.mig_rule.specs.Chain.{Chain}
use Rattle.mig_lift.specs.declared.fault.VersionKind.{VersionKind}
use Rattle.mig_lift.specs.declared.fault.VersionKind.TheVariants as V
use Rattle.mig_lift.specs.declared.fault.LiftFault.{LiftFault}
use Rattle.mig_lift.specs.declared.fault.LiftFault.TheVariants as fault
use Rattle.mig_lift.specs.View.{Causes, Checks}
use Rattle.mig_lift.specs.Lift.{version, version_of, floor_family, lifted_from, lift_with_version, lift_from_floor, lift_where_it_fits, lift_tree}

-- what holds anyway
pub ok_always : {A E : Type 0} {P : A → Type 0} (r : Result A E) → ((x : A) → P x) → IfOk r P
ok_always (Ok x) h = h x
ok_always (Err e) h = tt

module _ (c : Chain) (aim : ℕ) (t : Plain) where
  pub refused_version : (k : VersionKind) → version_of c t ≡ Err k → lift_tree c aim t ≡ Err (version k)
  unfolding lift_tree
  refused_version k e = ap (lift_with_version c aim t) e

  module _ (v : ℕ) (e : version_of c t ≡ Ok v) where
    by_floor : (o : Option Family) → floor_family c v ≡ o → lift_tree c aim t ≡ lift_from_floor c aim t v o
    unfolding lift_tree
    by_floor o h = ap (lift_with_version c aim t) e ∙ ap (lift_from_floor c aim t v) h

    pub refused_below : floor_family c v ≡ None → lift_tree c aim t ≡ Err (version (V.Below v))
    refused_below h = by_floor None h

    module _ (f : Family) (floor : floor_family c v ≡ Some f) where
      pub refused_above : aim < v → lift_tree c aim t ≡ Err (version (V.Above v))
      refused_above above =
          let h : nat_lt aim v ≡ true = lt-ltb aim v above in
          by_floor (Some f) floor ∙ ap (λ b. cond b (Err (version (V.Above v))) (lift_where_it_fits c aim t v (place f f.root (strip c.version t)))) h

      module _ (reach : v ≤ aim) where
        by_place : (p : Option Place) → place f f.root (strip c.version t) ≡ p → lift_tree c aim t ≡ lift_where_it_fits c aim t v p
        by_place p h =
            let below : nat_lt aim v ≡ false = le-ltb aim v reach in
            by_floor (Some f) floor
            ∙ ap (λ b. cond b (Err (version (V.Above v))) (lift_where_it_fits c aim t v (place f f.root (strip c.version t)))) below
            ∙ ap (lift_where_it_fits c aim t v) h

        pub refused_by : (e : LiftFault) → Checks (Err e) f (strip c.version t) → Causes e (lift_tree c aim t)
        refused_by fault.Bytes h = absurd h
        refused_by (fault.Version k) h = absurd h
        refused_by (fault.Schema p) h = by_place (Some p) h
        refused_by fault.Memory h = tt

        pub lifted : place f f.root (strip c.version t) ≡ None → lift_tree c aim t ≡ Ok (lifted_from c aim t v)
        lifted h = by_place None h
