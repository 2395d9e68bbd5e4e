-- The loops of an optic after another.
use Rattle.std.proofs.Common.{◌≡◌, ◌+◌, ◌<◌, ◌≤◌, ◌∙◌, sym, ap, ap₂, subst, refl, ℕ, zero, suc, List, [], ◌∷◌, ◌++◌, length, map, take, drop, reverse, get_or, append_assoc, arith}
use Rattle.std.specs.List.{flat_map, AllByRecursion}
use Rattle.std.proofs.lemmas.List.{append-nil, drop-map, length-drop, length-take-le, length_push, map-append, reverse-append, take-map}
use Rattle.mig_value.specs.Typed.{Typed}
use Rattle.mig_value.specs.View.{typed_of}
use Rattle.mig_value.specs.declared.value.Value.{Value}
use Rattle.mig_path.specs.Path.{Path, then_, foci, crossed, total_of}
use Rattle.mig_path.specs.Rest.{Residual, rest_for, both, Groups, no_group, group, part_of, groups_of, joins, join, AreFormed, group_count, total, FitsFoci}
use Rattle.std.proofs.Math.Seq.{drop-cons}
use Rattle.std.proofs.lemmas.Grind.{flat_map-append}
use Rattle.mig_typed_optic.proofs.Views.{length_views}

-- ---- values that are parted one after another
flat_more : {A B : Type 0} (f : A → List B) (xs : List A) (y : A) → flat_map f (xs ++ y ∷ []) ≡ flat_map f xs ++ f y
flat_more f xs y = flat_map-append f xs (y ∷ []) ∙ ap (λ l. flat_map f xs ++ l) (append-nil (f y))

total_more : {A : Type 0} (f : A → ℕ) (xs : List A) (y : A) → total_of f (xs ++ y ∷ []) ≡ total_of f xs + f y
total_more f [] y = omega arith
total_more f (x ∷ xs) y = let i = total_more f xs y in omega (arith, i)

-- the foci, the groups and the count after some of the values
pub record Parted (q : Path) (fs : List Typed) (gs : List (ℕ × Residual)) (n start : ℕ) (vs : List Typed) : Type 0 where
  pub foci_are : fs ≡ flat_map (foci q) vs
  pub groups_are : gs ≡ map (part_of q) vs
  pub counts : n ≡ start + total_of (crossed q) vs

parted_step : (q : Path) (fs : List Typed) (gs : List (ℕ × Residual)) (n start : ℕ) (vs : List Typed) (w : Typed) → Parted q fs gs n start vs → Parted q (fs ++ foci q w) (gs ++ part_of q w ∷ []) (n + crossed q w) start (vs ++ w ∷ [])
parted_step q fs gs n start vs w h = record {
  foci_are = ap (λ l. l ++ foci q w) h.foci_are ∙ sym (flat_more (foci q) vs w);
  groups_are = ap (λ l. l ++ part_of q w ∷ []) h.groups_are ∙ sym (map-append (part_of q) vs (w ∷ []));
  counts = let c = h.counts in let t = total_more (crossed q) vs w in omega (arith, c, t);
}

pub parted_next : {G : Type 0} (q : Path) (f : G → ℕ × Residual) (n m start : ℕ) (fs fs' more : List Value) (r : Residual) (gs gs' : List G) (x : G) (vs : List Value) (w : Value) → fs' ≡ fs ++ more → gs' ≡ gs ++ x ∷ [] → f x ≡ (length more, r) → map typed_of more ≡ foci q (typed_of w) → r ≡ rest_for q (typed_of w) → m ≡ n + crossed q (typed_of w) → Parted q (map typed_of fs) (map f gs) n start (map typed_of vs) → Parted q (map typed_of fs') (map f gs') m start (map typed_of (vs ++ w ∷ []))
parted_next q f n m start fs fs' more r gs gs' x vs w ef eg ex em er en h =
    let many : length more ≡ length (foci q (typed_of w)) = sym (length_views more) ∙ ap length em in
    let y : f x ≡ part_of q (typed_of w) = ex ∙ ap₂ (λ (k : ℕ) (s : Residual). (k, s)) many er in
    let a : map typed_of fs' ≡ map typed_of fs ++ foci q (typed_of w) = ap (map typed_of) ef ∙ map-append typed_of fs more ∙ ap (λ (l : List Typed). map typed_of fs ++ l) em in
    let b : map f gs' ≡ map f gs ++ part_of q (typed_of w) ∷ [] = ap (map f) eg ∙ map-append f gs (x ∷ []) ∙ ap (λ (z : ℕ × Residual). map f gs ++ z ∷ []) y in
    let d : map typed_of (vs ++ w ∷ []) ≡ map typed_of vs ++ typed_of w ∷ [] = map-append typed_of vs (w ∷ []) in
    rw (a, b, en, d) (parted_step q (map typed_of fs) (map f gs) n start (map typed_of vs) (typed_of w) h)

-- the rest of an optic after another
pub both_are : (p q : Path) (v : Typed) (r : Residual) (gs : List (ℕ × Residual)) (vs : List Typed) → r ≡ rest_for p v → gs ≡ map (part_of q) vs → vs ≡ foci p v → both r (groups_of gs) ≡ rest_for (then_ p q) v
both_are p q v r gs vs a b e = ap₂ (λ (x : Residual) (l : List (ℕ × Residual)). both x (groups_of l)) a (b ∙ ap (map (part_of q)) e)

-- what was crossed so far with what may be crossed in the value in hand is no more than all
pub no_more : (f : Typed → ℕ) (all xs : List Value) (w : Value) → (rest : List Value) × (all ≡ xs ++ w ∷ rest) → total_of f (map typed_of xs) + f (typed_of w) ≤ total_of f (map typed_of all)
no_more f all xs w s = subst (λ (l : List Value). total_of f (map typed_of xs) + f (typed_of w) ≤ total_of f (map typed_of l)) (sym s.1) (bound xs)
  where
    bound : (ys : List Value) → total_of f (map typed_of ys) + f (typed_of w) ≤ total_of f (map typed_of (ys ++ w ∷ s.0))
    bound [] = omega arith
    bound (y ∷ ys) = let i = bound ys in omega (arith, i)

pub no_more_crossed : (f : Typed → ℕ) (all xs : List Value) (w : Value) (n m start : ℕ) → (rest : List Value) × (all ≡ xs ++ w ∷ rest) → m ≤ n + f (typed_of w) → n ≡ start + total_of f (map typed_of xs) → m ≤ start + total_of f (map typed_of all)
no_more_crossed f all xs w n m start s less is = let within = no_more f all xs w s in omega (arith, within, less, is)

-- each of the values is taken
pub taken : (P : Typed → Type 0) (vs : List Value) (k : ℕ) (w : Value) → AllByRecursion P (map typed_of vs) → k < length vs → w ≡ get_or vs k w → P (typed_of w)
taken P [] k w h l e = absurd (omega arith)
taken P (v ∷ vs) zero w h l e = subst (λ (u : Value). P (typed_of u)) (sym e) h.0
taken P (v ∷ vs) (suc k) w h l e = taken P vs k w h.1 (omega arith) e

-- ---- residues that are rejoined one after another
-- the values so far with those of the groups and foci that are left
pub record Rejoins (vs : List Typed) (gs : List (ℕ × Residual)) (fs all : List Typed) : Type 0 where
  pub values_are : vs ++ joins (groups_of gs) fs ≡ all
  pub formed : AreFormed (groups_of gs)
  pub enough : length fs ≡ total (groups_of gs)

rejoins_step : (vs : List Typed) (n : ℕ) (s : Residual) (gs : List (ℕ × Residual)) (fs all : List Typed) → Rejoins vs ((n, s) ∷ gs) fs all → Rejoins (vs ++ join s (take n fs) ∷ []) gs (drop n fs) all
rejoins_step vs n s gs fs all h = record {
  values_are = append_assoc vs (join s (take n fs) ∷ []) (joins (groups_of gs) (drop n fs)) ∙ h.values_are;
  formed = h.formed.2;
  enough = omega (arith, h.enough, length-drop n fs);
}

next_group : {G : Type 0} (gs : List G) (k : ℕ) (x : G) → k < length gs → x ≡ get_or gs k x → drop k gs ≡ x ∷ drop (suc k) gs
next_group gs k x l e = drop-cons gs k x l ∙ ap (λ y. y ∷ drop (suc k) gs) (sym e)

module _ {G : Type 0} (f : G → ℕ × Residual) (gs : List G) (all : List Typed) where
  -- the next group, whose foci are there
  pub first_group : (vs fs : List Typed) (k : ℕ) (x : G) → k < length gs → x ≡ get_or gs k x → Rejoins vs (map f (drop k gs)) fs all → Rejoins vs (f x ∷ map f (drop (suc k) gs)) fs all
  first_group vs fs k x l e h = subst (λ (hs : List G). Rejoins vs (map f hs) fs all) (next_group gs k x l e) h

  -- its foci are as many as its rest wants
  pub front_fits : (vs : List Typed) (fs ls : List Value) (k : ℕ) (x : G) → k < length gs → x ≡ get_or gs k x → ls ≡ take (f x).0 (reverse fs) → Rejoins vs (map f (drop k gs)) (map typed_of (reverse fs)) all → FitsFoci (f x).1 (length ls)
  front_fits vs fs ls k x l e el h =
      let first = first_group vs (map typed_of (reverse fs)) k x l e h in
      let enough : (f x).0 ≤ length (reverse fs) = omega (arith, first.enough, length_views (reverse fs)) in
      (first.formed.0, ap length el ∙ length-take-le (f x).0 (reverse fs) enough ∙ first.formed.1)

  pub rejoins_next : (vs vs' fs fs' ls : List Value) (u : Value) (k m : ℕ) (x : G) → k < length gs → x ≡ get_or gs k x → m ≡ k + 1 → vs' ≡ vs ++ u ∷ [] → reverse fs' ≡ drop (f x).0 (reverse fs) → ls ≡ take (f x).0 (reverse fs) → typed_of u ≡ join (f x).1 (map typed_of ls) → Rejoins (map typed_of vs) (map f (drop k gs)) (map typed_of (reverse fs)) all → Rejoins (map typed_of vs') (map f (drop m gs)) (map typed_of (reverse fs')) all
  rejoins_next vs vs' fs fs' ls u k m x l e em ev ef el eu h =
      let n : ℕ = (f x).0 in
      let a : map typed_of vs' ≡ map typed_of vs ++ join (f x).1 (take n (map typed_of (reverse fs))) ∷ [] =
      ap (map typed_of) ev ∙ map-append typed_of vs (u ∷ []) ∙ ap (λ (w : Typed). map typed_of vs ++ w ∷ []) (eu ∙ ap (join (f x).1) (ap (map typed_of) el ∙ sym (take-map typed_of n (reverse fs)))) in
      let b : map typed_of (reverse fs') ≡ drop n (map typed_of (reverse fs)) = ap (map typed_of) ef ∙ sym (drop-map typed_of n (reverse fs)) in
      let next : m ≡ suc k = omega (arith, em) in
      rw (a, b, next) (rejoins_step (map typed_of vs) n (f x).1 (map f (drop (suc k) gs)) (map typed_of (reverse fs)) all (first_group (map typed_of vs) (map typed_of (reverse fs)) k x l e h))

-- ---- the first values of a list that lies there in reverse
pub record Front (list rest : List Value) (k n : ℕ) (all : List Value) : Type 0 where
  pub front : list ++ take k (reverse rest) ≡ take n (reverse all)
  pub back : drop k (reverse rest) ≡ drop n (reverse all)
  pub enough : k ≤ length rest

pub front_step : (list rest new : List Value) (x : Value) (k n : ℕ) (all : List Value) → Front list rest (suc k) n all → rest ≡ new ++ x ∷ [] → Front (list ++ x ∷ []) new k n all
front_step list rest new x k n all h e =
    let r : reverse rest ≡ x ∷ reverse new = ap reverse e ∙ reverse-append new (x ∷ []) in
    let l : length rest ≡ suc (length new) = omega (arith, ap length e, length_push new x) in
    let m = h.enough in
    record {
      front = append_assoc list (x ∷ []) (take k (reverse new)) ∙ ap (λ (t : List Value). list ++ take (suc k) t) (sym r) ∙ h.front;
      back = ap (λ (t : List Value). drop (suc k) t) (sym r) ∙ h.back;
      enough = omega (arith, l, m);
    }

-- ---- the values that the second optic gives back to the first
joins_length : (gs : Groups) (fs : List Typed) → length (joins gs fs) ≡ group_count gs
joins_length no_group fs = refl
joins_length (group n r gs) fs = ap suc (joins_length gs (drop n fs))

pub outer_fits : (r : Residual) (gs : Groups) (fs : List Typed) (vs : List Value) (n : ℕ) → FitsFoci (both r gs) n → map typed_of vs ≡ joins gs fs → FitsFoci r (length vs)
outer_fits r gs fs vs n h e = (h.0.0, sym (length_views vs) ∙ ap length e ∙ joins_length gs fs ∙ h.0.1)
