-- Versions that rise, and the greatest of them that isn't above a number.
use Rattle.std.proofs.Common.{◌≡◌, ◌<◌, ◌≤◌, ◌-◌, ◌⊎◌, inl, inr, ℕ, zero, suc, true, false, List, [], ◌∷◌, length, get_or, leb, leb-true, Option, Some, None, refl, sym, arith}
use Rattle.std.proofs.lemmas.Bool.{cases_lt, leb-false}
use Rattle.std.specs.Prelude.{slice_get, Contains}
use Rattle.std.specs.List.Sorted.{IsNonDecreasingBy, IsPartitionPoint}
use Rattle.mig_model.specs.declared.form.Form.{Form}
use Rattle.mig_model.proofs.Searches.{same_read}
use Rattle.mig_rule.specs.Chain.{ChainStep, Path, Known, IsAbove, ArePassed, AreAccepted, IsFloor, family_next, known_version, versions, schema, fix}

-- each is above the one before
abbrev pub Rises : Option ℕ → List ℕ → Type 0
Rises u [] = Unit {0}
Rises u (v ∷ vs) = IsAbove u v × Rises (Some v) vs

all_above : (u : ℕ) (vs : List ℕ) → Rises (Some u) vs → (j : ℕ) (d : ℕ) → j < length vs → u < get_or vs j d
all_above u [] r j d l = absurd (omega arith)
all_above u (v ∷ vs) r zero d l = r.0
all_above u (v ∷ vs) r (suc j) d l = omega (arith, r.0, all_above v vs r.1 j d (omega arith))

pub never_falls : (u : Option ℕ) (vs : List ℕ) → Rises u vs → IsNonDecreasingBy (λ v. v) vs
never_falls u [] r i j d h l = absurd (omega arith)
never_falls u (v ∷ vs) r zero zero d h l = omega arith
never_falls u (v ∷ vs) r zero (suc j) d h l = omega (arith, all_above v vs r.1 j d (omega arith))
never_falls u (v ∷ vs) r (suc i) zero d h l = absurd (omega arith)
never_falls u (v ∷ vs) r (suc i) (suc j) d h l = never_falls (Some v) vs r.1 i j d (omega arith) (omega arith)

module _ (form : Form) (path : Path) where
  rises : (s : Known) (xs : List ChainStep) → ArePassed form path s xs → Rises (known_version s) (versions xs)
  rises s [] h = tt
  rises None (schema v (Some f) ∷ xs) h = (h.0.above, rises (Some (v, f)) xs h.1)
  rises None (schema v None ∷ xs) h = absurd h.0
  rises None (fix n x ∷ xs) h = absurd h.0
  rises (Some s) (schema v (Some f) ∷ xs) h = (h.0.0.above, rises (Some (v, f)) xs h.1)
  rises (Some s) (schema v None ∷ xs) h = (h.0.0.above, rises (Some (v, s.1)) xs h.1)
  rises (Some s) (fix n x ∷ xs) h = rises (Some (s.0, family_next x s.1)) xs h.1

  pub versions_rise : (xs : List ChainStep) → AreAccepted form path xs → IsNonDecreasingBy (λ v. v) (versions xs)
  versions_rise [] h = absurd h
  versions_rise (x ∷ xs) h = never_falls None (versions (x ∷ xs)) (rises None (x ∷ xs) h)

there : (vs : List ℕ) (k : ℕ) → k < length vs → slice_get vs k ≡ Some (get_or vs k 0)
there [] k l = absurd (omega arith)
there (v ∷ vs) zero l = refl
there (v ∷ vs) (suc k) l = there vs k (omega arith)

module _ (vs : List ℕ) (t p : ℕ) (point : IsPartitionPoint (λ v. leb v t ≡ true) (λ v. leb v t ≡ false) vs p) where
  -- one that isn't above t stands before the point
  before_point : (u j : ℕ) → j < length vs → get_or vs j u ≡ u → u ≤ t → j < p
  before_point u j l e h = by (cases_lt j p)
    where
      by : (j < p) ⊎ (p ≤ j) → j < p
      by (inl b) = b
      by (inr b) = absurd (let above : t < get_or vs j u = leb-false (get_or vs j u) t (point.1 j u b l) in omega (arith, e, h, above))

  pub none_below : p ≡ 0 → (u : ℕ) → Contains vs u → t < u
  none_below e u c = by (cases_lt t u)
    where
      by : (t < u) ⊎ (u ≤ t) → t < u
      by (inl b) = b
      by (inr b) = absurd (let early : c.0 < p = before_point u c.0 c.1 c.2 b in omega (arith, e, early))

  pub floor_is : IsNonDecreasingBy (λ v. v) vs → p ≤ length vs → 0 < p → IsFloor vs t (p - 1)
  floor_is rise l some = record {
    version = get_or vs (p - 1) 0;
    there = there vs (p - 1) (omega arith);
    not_above = leb-true (get_or vs (p - 1) 0) t (point.0 (p - 1) 0 (omega arith) (omega arith));
    greatest = λ u c h. greatest u c h;
  }
    where
      greatest : (u : ℕ) → Contains vs u → u ≤ t → u ≤ get_or vs (p - 1) 0
      greatest u c h =
          let early : c.0 < p = before_point u c.0 c.1 c.2 h in
          let same : get_or vs c.0 0 ≡ u = same_read vs c.0 0 u c.1 (sym c.2) in
          let below : get_or vs c.0 0 ≤ get_or vs (p - 1) 0 = rise c.0 (p - 1) 0 (omega arith) (omega arith) in
          omega (arith, same, below)
