-- The family with other types: it is formed, or the first flaw refuses it.
use Rattle.std.proofs.Common.{◌≡◌, ℕ, zero, suc, ◌+◌, List, [], ◌∷◌, ◌++◌, take, Bool, true, false, refl, sym, ap, subst, ◌∙◌, arith}
use Rattle.std.proofs.lemmas.Option.{same_Some}
use Rattle.std.specs.Prelude.{Option, Some, None, Result, Ok, Err, option_map, if◌then◌else◌}
use Rattle.std.specs.List.{slice_get, filter}
use Rattle.mig_model.specs.Family.{Family, Flaw, IsFormed, first_flaw}
use Rattle.mig_schema.specs.Fault.{IsFamilyFault}
use Rattle.mig_schema.specs.declared.fault.SchemaFault.{SchemaFault}
use Rattle.mig_schema.specs.declared.fault.SchemaFault.TheVariants as S
use Rattle.mig_schema.specs.Types.{Named}
use Rattle.mig_rule.specs.Rule.{Fix}
use Rattle.mig_rule.specs.Fix.{Refusal, no_name, missed, if_formed, with_types, names_nothing, misses, family_after, next}
use Rattle.mig_rule.specs.Fault.{IsRefused, refused_by}
use Rattle.mig_rule.specs.declared.fault.StepFault.TheVariants as F

pub formed_is : (f g : Family) → g ≡ f → IsFormed g → if_formed f (first_flaw f) ≡ Ok g
formed_is f g e k = ap (λ o. if_formed f o) (subst (λ h. first_flaw h ≡ None) e k) ∙ ap Ok (sym e)

-- a first flaw refuses the family
pub refused_by_flaw : (f : Family) (e : SchemaFault) (first : Option Flaw) → IsFamilyFault e first → IsRefused (refused_by e) (if_formed f first)
refused_by_flaw f S.TwiceNamed first p = ap (λ o. Some (if_formed f o)) (sym p)
refused_by_flaw f S.TooMany first p = ap (λ o. Some (if_formed f o)) (sym p)
refused_by_flaw f S.TooDeep first p = ap (λ o. Some (if_formed f o)) (sym p)
refused_by_flaw f S.WrongKind first p = ap (λ o. Some (if_formed f o)) (sym p)
refused_by_flaw f S.UnknownName first p = ap (λ o. Some (if_formed f o)) (sym p)
refused_by_flaw f S.Unguarded first p = ap (λ o. Some (if_formed f o)) (sym p)
refused_by_flaw f S.SumOverlap first p = ap (λ o. Some (if_formed f o)) (sym p)
refused_by_flaw f S.MixedList first p = ap (λ o. Some (if_formed f o)) (sym p)
refused_by_flaw f S.RootNotRecord first p = ap (λ o. Some (if_formed f o)) (sym p)
refused_by_flaw f S.VersionPath first p = ap (λ o. Some (if_formed f o)) (sym p)
refused_by_flaw f S.VersionNameUsed first p = ap (λ o. Some (if_formed f o)) (sym p)
refused_by_flaw f S.Memory first p = tt

pub other_faults : (e : SchemaFault) → (e ≡ S.Memory → ⊥) → F.IllFormed e ≡ refused_by e
other_faults S.TwiceNamed h = refl
other_faults S.TooMany h = refl
other_faults S.TooDeep h = refl
other_faults S.WrongKind h = refl
other_faults S.UnknownName h = refl
other_faults S.Unguarded h = refl
other_faults S.SumOverlap h = refl
other_faults S.MixedList h = refl
other_faults S.RootNotRecord h = refl
other_faults S.VersionPath h = refl
other_faults S.VersionNameUsed h = refl
other_faults S.Memory h = absurd (h refl)

filter_next : {X : Type 0} (p : X → Bool) (xs : List X) (i : ℕ) (x : X) → slice_get xs i ≡ Some x → option_map p (slice_get xs i) ≡ Some true → filter p (take (suc i) xs) ≡ filter p (take i xs) ++ x ∷ []
filter_next p [] i x e t = absurd cc
filter_next p (y ∷ xs) zero x e t = ap (λ b. if b then y ∷ [] else []) (same_Some (p y) true t) ∙ ap (λ z. z ∷ []) (same_Some y x e)
filter_next {X} p (y ∷ xs) (suc i) x e t = by (p y) (filter_next p xs i x e t)
  where
    by : (b : Bool) → filter p (take (suc i) xs) ≡ filter p (take i xs) ++ x ∷ []
        → (if b then y ∷ filter p (take (suc i) xs) else filter p (take (suc i) xs)) ≡ (if b then y ∷ filter p (take i xs) else filter p (take i xs)) ++ x ∷ []
    by true h = ap (λ l. y ∷ l) h
    by false h = h

-- one place more: its item has the test
pub filter_more : {X : Type 0} (p : X → Bool) (xs : List X) (i : ℕ) (x : X) → slice_get xs i ≡ Some x → option_map p (slice_get xs i) ≡ Some true → filter p (take (i + 1) xs) ≡ filter p (take i xs) ++ x ∷ []
filter_more p xs i x e t =
    let next : i + 1 ≡ suc i = omega arith in
    ap (λ k. filter p (take k xs)) next ∙ filter_next p xs i x e t

filter_past : {X : Type 0} (p : X → Bool) (xs : List X) (i : ℕ) → option_map p (slice_get xs i) ≡ Some false → filter p (take (suc i) xs) ≡ filter p (take i xs)
filter_past p [] i t = absurd cc
filter_past p (y ∷ xs) zero t = ap (λ b. if b then y ∷ [] else []) (same_Some (p y) false t)
filter_past p (y ∷ xs) (suc i) t = ap (λ l. if p y then y ∷ l else l) (filter_past p xs i t)

-- one place more: its item doesn't have the test
pub filter_same : {X : Type 0} (p : X → Bool) (xs : List X) (i : ℕ) → option_map p (slice_get xs i) ≡ Some false → filter p (take (i + 1) xs) ≡ filter p (take i xs)
filter_same p xs i t =
    let next : i + 1 ≡ suc i = omega arith in
    ap (λ k. filter p (take k xs)) next ∙ filter_past p xs i t

take_next : {X : Type 0} (xs : List X) (i : ℕ) (x : X) → slice_get xs i ≡ Some x → take (suc i) xs ≡ take i xs ++ x ∷ []
take_next [] i x e = absurd cc
take_next (y ∷ xs) zero x e = ap (λ z. z ∷ []) (same_Some y x e)
take_next (y ∷ xs) (suc i) x e = ap (λ l. y ∷ l) (take_next xs i x e)

-- one place more
pub take_one : {X : Type 0} (xs : List X) (i : ℕ) (x : X) → slice_get xs i ≡ Some x → take (i + 1) xs ≡ take i xs ++ x ∷ []
take_one xs i x e =
    let next : i + 1 ≡ suc i = omega arith in
    ap (λ k. take k xs) next ∙ take_next xs i x e

-- the family with these types, or the flaw that it has
abbrev pub with_types_formed : List Named → Family → Result Family Refusal
with_types_formed ts f = if_formed (with_types ts f) (first_flaw (with_types ts f))

-- where the fix names what is there and fits, it is a matter of the types after it
pub next_is : (x : Fix) (f : Family) (ts : List Named) → names_nothing x f ≡ false → misses x f ≡ false → family_after x f ≡ with_types ts f → next x f ≡ with_types_formed ts f
next_is x f ts n m e =
    let after = family_after x f in
    ap (λ b. if b then Err no_name else (if misses x f then Err missed else if_formed after (first_flaw after))) n
    ∙ ap (λ b. if b then Err missed else if_formed after (first_flaw after)) m
    ∙ ap (λ g. if_formed g (first_flaw g)) e
