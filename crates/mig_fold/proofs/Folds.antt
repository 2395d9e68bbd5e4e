-- Folds over families: more points change nothing, types are kept, and a fold is one level and the folds of the trees at points.
use Rattle.std.proofs.Common.{◌≡◌, inl, inr, refl, sym, ap, ◌∙◌, ℕ, zero, suc, ◌≤◌, max, arith, List, Bool, true, false}
use Rattle.std.specs.Prelude.{if◌then◌else◌}
use Rattle.mig_model.specs.declared.form.Form.{Form}
use Rattle.mig_model.specs.Plain.{Plain}
use Rattle.mig_model.specs.Template.{Template}
use Rattle.mig_model.specs.Inhabits.{depth, InhabitsWithin, Inhabits}
use Rattle.mig_model.specs.Family.{Family, body, IsFormed}
use Rattle.mig_laws.specs.Sides.{SumsApart}
use Rattle.mig_laws.proofs.Inhabitants.{within_or_at, inhabits_up, deep_enough}
use Rattle.mig_laws.proofs.Formed.{body_guarded, body_apart}
use Rattle.mig_fold.specs.Fold.{unless_skipped, fold_within, fold, none_skipped}
use Rattle.mig_fold.specs.Laws.{LeadsTo, SkippedStay, FoldUnfolds, FoldInhabits, SkippedAreIdle, SkippingIsIdle}
use Rattle.mig_fold.proofs.Treats.{Treatment, treat_agree, treat_fits}

-- a skipped tree stays on both sides
unless_same : (b : Bool) (t x y : Plain) → x ≡ y → (if b then t else x) ≡ (if b then t else y)
unless_same true t x y e = refl
unless_same false t x y e = e

-- a skipped tree is as it is what the fold would make of it
skipped_same : (b : Bool) (t x y : Plain) → (b ≡ true → y ≡ t) → x ≡ y → (if b then t else x) ≡ y
skipped_same true t x y idle e = sym (idle refl)
skipped_same false t x y idle e = e

unless_is : (Q : Plain → Type 0) (b : Bool) (t x : Plain) → (b ≡ true → Q t) → Q x → Q (if b then t else x)
unless_is Q true t x stays made = stays refl
unless_is Q false t x stays made = made

module _ (form : Form) (bodies : List ℕ → Template) (apart : (n : List ℕ) → SumsApart form (bodies n)) (skipped : List ℕ → Bool) (arm : Treatment) where
  -- the fold with at most k points on each way down
  abbrev folded : ℕ → Treatment
  folded = fold_within form bodies skipped arm

  more_points : (k : ℕ) (n : List ℕ) (t : Plain) → InhabitsWithin form bodies k n t → folded (suc k) n t ≡ folded k n t
  more_points zero n t s = absurd s
  more_points (suc k) n t s =
      ap (arm n) (treat_agree form (InhabitsWithin form bodies k) (unless_skipped skipped (folded (suc k))) (unless_skipped skipped (folded k))
      (λ m u w. unless_same (skipped m) u (folded (suc k) m u) (folded k m u) (more_points k m u w)) (bodies n) (apart n) t s)

  up_points : (j k : ℕ) → j ≤ k → (n : List ℕ) (t : Plain) → InhabitsWithin form bodies j n t → folded k n t ≡ folded j n t
  up_points j zero le n t s = let e : 0 ≡ j = omega arith in ap (λ i. folded i n t) e
  up_points j (suc k) le n t s =
      elim (within_or_at j k le) [ inl lt ↦ more_points k n t (inhabits_up form bodies j k lt n t s) ∙ up_points j k lt n t s | inr e ↦ ap (λ i. folded i n t) (sym e) ]

  -- any number of points that is enough gives the same
  pub same_points : (j k : ℕ) (n : List ℕ) (t : Plain) → InhabitsWithin form bodies j n t → InhabitsWithin form bodies k n t → folded j n t ≡ folded k n t
  same_points j k n t s s' = sym (up_points j (max j k) (omega arith) n t s) ∙ up_points k (max j k) (omega arith) n t s'

pub fold_unfolds : FoldUnfolds
fold_unfolds f e skipped arm n t s =
    ap (arm n) (treat_agree f.form (InhabitsWithin f.form (body f) (depth t)) (unless_skipped skipped (fold_within f.form (body f) skipped arm (depth t)))
    (unless_skipped skipped (fold f.form (body f) skipped arm))
    (λ m u w. unless_same (skipped m) u (fold_within f.form (body f) skipped arm (depth t) m u) (fold f.form (body f) skipped arm m u)
    (same_points f.form (body f) (body_apart f e) skipped arm (depth t) (suc (depth u)) m u w (deep_enough f.form (body f) (body_guarded f e) (depth t) m u w)))
    (body f n) (body_apart f e n) t s)

-- ---- types
module _ (f g : Family) (e : IsFormed f) (skipped : List ℕ → Bool) (arm : Treatment) (stay : SkippedStay f g skipped) (leads : LeadsTo f g arm) where
  made_within : (k : ℕ) (n : List ℕ) (t : Plain) → InhabitsWithin f.form (body f) k n t → Inhabits g.form (body g) n (fold_within f.form (body f) skipped arm k n t)
  made_within zero n t s = absurd s
  made_within (suc k) n t s =
      leads n _ (treat_fits f.form (InhabitsWithin f.form (body f) k) (Inhabits g.form (body g)) (unless_skipped skipped (fold_within f.form (body f) skipped arm k))
      (λ m u w. unless_is (Inhabits g.form (body g) m) (skipped m) u (fold_within f.form (body f) skipped arm k m u)
      (λ is. stay m u is (deep_enough f.form (body f) (body_guarded f e) k m u w)) (made_within k m u w)) (body f n) (body_apart f e n) t s)

pub fold_inhabits : FoldInhabits
fold_inhabits f g e d skipped arm stay leads n t s = made_within f g e skipped arm stay leads (suc (depth t)) n t s

-- ---- names that may be skipped
module _ (f : Family) (e : IsFormed f) (skipped : List ℕ → Bool) (arm : Treatment) (idle : SkippedAreIdle f skipped arm) where
  abbrev whole : ℕ → Treatment
  whole = fold_within f.form (body f) none_skipped arm

  idle_within : (k : ℕ) (n : List ℕ) (t : Plain) → InhabitsWithin f.form (body f) k n t → skipped n ≡ true → whole k n t ≡ t
  idle_within k n t s is =
      let all = deep_enough f.form (body f) (body_guarded f e) k n t s in
      same_points f.form (body f) (body_apart f e) none_skipped arm k (suc (depth t)) n t s all ∙ idle n t is all

  same_within : (k : ℕ) (n : List ℕ) (t : Plain) → InhabitsWithin f.form (body f) k n t → fold_within f.form (body f) skipped arm k n t ≡ whole k n t
  same_within zero n t s = absurd s
  same_within (suc k) n t s =
      ap (arm n) (treat_agree f.form (InhabitsWithin f.form (body f) k) (unless_skipped skipped (fold_within f.form (body f) skipped arm k)) (whole k)
      (λ m u w. skipped_same (skipped m) u (fold_within f.form (body f) skipped arm k m u) (whole k m u) (idle_within k m u w) (same_within k m u w)) (body f n) (body_apart f e n) t s)

pub skipping_is_idle : SkippingIsIdle
skipping_is_idle f e skipped arm idle n t s = same_within f e skipped arm idle (suc (depth t)) n t s
