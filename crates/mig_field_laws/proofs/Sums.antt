-- Sums over the pairs of a map.
use Rattle.std.proofs.Common.{◌≡◌, ◌≤◌, ◌+◌, ℕ, List, [], ◌∷◌, Bool, true, false, Option, Some, None, refl, ap, ap₂, ◌∙◌, arith}
use Rattle.std.specs.Prelude.{not, if◌then◌else◌}
use Rattle.std.specs.List.{filter}
use Rattle.mig_model.specs.Plain.{Plain}
use Rattle.mig_model.specs.Names.{Ascends, same_name, under, put, bring, put_all}
use Rattle.mig_model.specs.Inhabits.{Entries}
use Rattle.mig_model.proofs.Rising.{nothing_ascends}
use Rattle.mig_model.proofs.SameNames.{same_name_is}
use Rattle.mig_value.specs.Nodes.{sum_entries}
use Rattle.mig_model.proofs.Edits.{under-itself, under_past, ascends-tail, under-filter, under-bring, ascends-bring, ascends-filter, same_under}
use Rattle.mig_field_laws.proofs.Scopes.{EditAt}

abbrev pub Weight : Type 0
Weight = List ℕ → Plain → ℕ

abbrev pub of_some : (Plain → ℕ) → Option Plain → ℕ
of_some g None = 0
of_some g (Some t) = g t

pub sum_same : (g k : Weight) → ((n : List ℕ) (t : Plain) → g n t ≡ k n t) → (es : Entries) → sum_entries g es ≡ sum_entries k es
sum_same g k e [] = refl
sum_same g k e (x ∷ es) = ap₂ ◌+◌ (e x.0 x.1) (sum_same g k e es)

pub sum_agree : (g k : Weight) (es : Entries) → Ascends es → ((n : List ℕ) (t : Plain) → under n es ≡ Some t → g n t ≡ k n t) → sum_entries g es ≡ sum_entries k es
sum_agree g k [] a e = refl
sum_agree g k (x ∷ es) a e = ap₂ ◌+◌ (e x.0 x.1 (under-itself x es)) (sum_agree g k es (ascends-tail x es a) (λ n t h. e n t (under_past x es n t a h)))

sum_nothing : (es : Entries) → sum_entries (λ n t. 0) es ≡ 0
sum_nothing [] = refl
sum_nothing (x ∷ es) = let rest = sum_nothing es in omega arith

pub sum_zero : (g : Weight) (es : Entries) → Ascends es → ((n : List ℕ) (t : Plain) → under n es ≡ Some t → g n t ≡ 0) → sum_entries g es ≡ 0
sum_zero g es a e = sum_agree g (λ n t. 0) es a e ∙ sum_nothing es

module _ (g : Weight) where
  pub sum_put : (x : List ℕ) (t : Plain) (es : Entries) → sum_entries g (put x t es) ≤ sum_entries g es + g x t
  sum_put x t [] = omega arith
  sum_put x t (e ∷ es) = grind (arith, sum_put x t es, same_name_is x e.0)

  pub sum_put_all : (ns es : Entries) → sum_entries g (put_all ns es) ≤ sum_entries g ns + sum_entries g es
  sum_put_all [] es = omega arith
  sum_put_all (n ∷ ns) es = let a = sum_put n.0 n.1 (put_all ns es) in let b = sum_put_all ns es in omega arith

  -- some of the pairs
  pub sum_filter : (q : List ℕ → Bool) (es : Entries) → sum_entries g (filter (λ e. q e.0) es) ≤ sum_entries g es
  sum_filter q [] = omega arith
  sum_filter q (e ∷ es) = grind (arith, sum_filter q es)

  pub sum_fewer : (q r : List ℕ → Bool) → ((n : List ℕ) → q n ≡ true → r n ≡ true) → (es : Entries) → sum_entries g (filter (λ e. q e.0) es) ≤ sum_entries g (filter (λ e. r e.0) es)
  sum_fewer q r i [] = omega arith
  sum_fewer q r i (e ∷ es) = let a = i e.0 in grind (arith, sum_fewer q r i es, a)

  sum_parted : (q : List ℕ → Bool) (es : Entries) → sum_entries g es ≡ sum_entries g (filter (λ e. q e.0) es) + sum_entries g (filter (λ e. not (q e.0)) es)
  sum_parted q [] = refl
  sum_parted q (e ∷ es) = grind (arith, sum_parted q es)

  pub sum_brought : (x : List ℕ) (o : Option Plain) → sum_entries g (bring x o []) ≡ of_some (g x) o
  sum_brought x None = refl
  sum_brought x (Some t) = omega arith

  -- the pair of one name
  pub sum_one : (x : List ℕ) (es : Entries) → Ascends es → sum_entries g (filter (λ e. same_name e.0 x) es) ≡ of_some (g x) (under x es)
  sum_one x es a = ap (sum_entries g) (same_under (filter (λ e. same_name e.0 x) es) (bring x (under x es) []) (ascends-filter (λ n. same_name n x) es a)
      (ascends-bring x (under x es) [] (nothing_ascends Plain)) at) ∙ sum_brought x (under x es)
    where
      at : (n : List ℕ) → under n (filter (λ e. same_name e.0 x) es) ≡ under n (bring x (under x es) [])
      at n = grind (arith, under-filter (λ m. same_name m x) es n, under-bring x (under x es) [] n, same_name_is n x)

others_same : (g k : Weight) (q : List ℕ → Bool) → ((n : List ℕ) (t : Plain) → q n ≡ false → g n t ≡ k n t) → (es : Entries)
    → sum_entries g (filter (λ e. not (q e.0)) es) ≡ sum_entries k (filter (λ e. not (q e.0)) es)
others_same g k q e [] = refl
others_same g k q e (x ∷ es) = by (q x.0) refl (others_same g k q e es)
  where
    by : (b : Bool) → q x.0 ≡ b → sum_entries g (filter (λ e. not (q e.0)) es) ≡ sum_entries k (filter (λ e. not (q e.0)) es)
        → sum_entries g (if not b then x ∷ filter (λ e. not (q e.0)) es else filter (λ e. not (q e.0)) es) ≡ sum_entries k
        (if not b then x ∷ filter (λ e. not (q e.0)) es else filter (λ e. not (q e.0)) es)
    by true h rest = rest
    by false h rest = ap₂ ◌+◌ (e x.0 x.1 h) rest

-- an edit at some names makes the sum no greater, where it makes that of those names no greater
pub sum_edited : (at : List ℕ → Bool) (E : Entries → Entries) (T : List ℕ → Entries → Option Plain) → EditAt at E T → (g k : Weight) → ((n : List ℕ) (t : Plain) → at n ≡ false → k n t ≡ g n t)
    → (es : Entries) → Ascends es
    → sum_entries k (filter (λ e. at e.0) (E es)) ≤ sum_entries g (filter (λ e. at e.0) es) → sum_entries k (E es) ≤ sum_entries g es
sum_edited at E T d g k e es a le =
    let before = sum_parted g at es in
    let after = sum_parted k at (E es) in
    let kept : sum_entries k (filter (λ e. not (at e.0)) (E es)) ≡ sum_entries g (filter (λ e. not (at e.0)) es) = ap (sum_entries k) same ∙ others_same k g at e es in
    omega arith
  where
    same : filter (λ e. not (at e.0)) (E es) ≡ filter (λ e. not (at e.0)) es
    same = same_under (filter (λ e. not (at e.0)) (E es)) (filter (λ e. not (at e.0)) es) (ascends-filter (λ n. not (at n)) (E es) (d.ascend es a)) (ascends-filter (λ n. not (at n)) es a)
        (λ n. grind (arith, under-filter (λ m. not (at m)) (E es) n, under-filter (λ m. not (at m)) es n, d.is es a n))
