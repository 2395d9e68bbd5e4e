-- Edits by name: what stands under each name afterwards, and that names still ascend.
use Rattle.std.proofs.Common.{◌≡◌, ℕ, List, [], ◌∷◌, ◌++◌, Bool, true, false, true≢false, Option, Some, None, refl, sym, ap, subst, ◌∙◌, arith}
use Rattle.std.specs.Prelude.{not, ◌&&◌, is_some, option_map, IsPermutation, if◌then◌else◌}
use Rattle.std.specs.List.{AllByRecursion, filter, list_all, list_any}
use Rattle.std.specs.BTreeMap.{is_at}
use Rattle.std.proofs.lemmas.Map.Made.{is_some-lookup}
use Rattle.std.specs.List.Sorted.{IsStrictlySortedBy}
use Rattle.std.specs.Map.{keys_of}
use Rattle.std.specs.Ordering.{is_eq, match_ordering, ordering_reverse}
use Rattle.std.specs.declared.cmp.Ordering.{Ordering}
use Rattle.std.specs.declared.cmp.Ordering.TheVariants.{Less, Equal, Greater}
use Rattle.std.proofs.lemmas.Cmp.{nat_list_cmp_total}
use Rattle.std.proofs.lemmas.Map.Lookups.{exact_bytes}
use Rattle.std.proofs.lemmas.Map.Keys.{sorted_head, sorted_tail}
use Rattle.std.proofs.lemmas.List.Kept.{IsStrictlySortedBy-filter}
use Rattle.std.proofs.lemmas.List.Sorted.{IsPermutation-refl, IsPermutation-trans, IsPermutation-cons, IsPermutation-middle, IsPermutation-append_comm}
use Rattle.mig_model.specs.Record.{IsOrderOf}
use Rattle.mig_model.specs.Names.{by_bytes, Ascends, same_name, is_among, has_twice, under, has, without, put, bring, put_all, moved, those, others, changed}
use Rattle.mig_model.proofs.Bools.{right_or, split_or}
use Rattle.mig_model.proofs.Rising.{nothing_ascends}
use Rattle.mig_model.proofs.SameNames.{same_name_is, same_name_itself, same_name_flips}

-- ---- names
-- of two names, one is before the other or they are equal
pub greater_name : (x y : List ℕ) → by_bytes x y ≡ Greater → by_bytes y x ≡ Less
greater_name x y h = nat_list_cmp_total.antisymm y x ∙ ap ordering_reverse h

-- ---- what stands under a name
pub under-put : {A : Type 0} (x : List ℕ) (a : A) (es : List (List ℕ × A)) (n : List ℕ) → under n (put x a es) ≡ (if same_name n x then Some a else under n es)
under-put x a [] n = refl
under-put x a (e ∷ es) n = grind (arith, under-put x a es n, exact_bytes x e.0, same_name_is n x)

-- no pair has a name before x or x itself
abbrev pub Above : {A : Type 0} → List ℕ → List (List ℕ × A) → Type 0
Above x es = AllByRecursion (λ y. by_bytes x y ≡ Less) (keys_of es)

pub above-none : {A : Type 0} (x : List ℕ) (es : List (List ℕ × A)) → Above x es → under x es ≡ None
above-none x [] h = refl
above-none x (e ∷ es) h = grind (arith, above-none x es h.1, h.0)

pub above-further : {A : Type 0} (x y : List ℕ) (es : List (List ℕ × A)) → by_bytes x y ≡ Less → Above y es → Above x es
above-further x y [] l h = tt
above-further x y (e ∷ es) l h = (nat_list_cmp_total.trans x y e.0 l h.0, above-further x y es l h.1)

pub ascends-head : {A : Type 0} (e : List ℕ × A) (es : List (List ℕ × A)) → Ascends (e ∷ es) → Above e.0 es
ascends-head e es s = sorted_head by_bytes e.0 (keys_of es) s

pub ascends-tail : {A : Type 0} (e : List ℕ × A) (es : List (List ℕ × A)) → Ascends (e ∷ es) → Ascends es
ascends-tail e es s = sorted_tail by_bytes e.0 (keys_of es) s

pub ascends-cons : {A : Type 0} (e : List ℕ × A) (es : List (List ℕ × A)) → Above e.0 es → Ascends es → Ascends (e ∷ es)
unfolding IsStrictlySortedBy
ascends-cons e es h s = (h, s)

pub under-without : {A : Type 0} (x : List ℕ) (es : List (List ℕ × A)) (n : List ℕ) → Ascends es → under n (without x es) ≡ (if same_name n x then None else under n es)
under-without x [] n s = grind arith
under-without x (e ∷ es) n s =
    grind (arith, under-without x es n (ascends-tail e es s), above-none e.0 es (ascends-head e es s), same_name_is x e.0, same_name_is n x)

pub under-bring : {A : Type 0} (x : List ℕ) (o : Option A) (es : List (List ℕ × A)) (n : List ℕ) → under n (bring x o es) ≡ (if same_name n x && is_some o then o else under n es)
under-bring x None es n = grind arith
under-bring x (Some a) es n = grind (arith, under-put x a es n)

-- all that holds of a list holds of what stands under a name there
pub found_in : {A : Type 0} (K : List (List ℕ × A) → Type 0) (Q : List ℕ → A → Type 0) → ((e : List ℕ × A) (es : List (List ℕ × A)) → K (e ∷ es) → Q e.0 e.1 × K es)
    → (es : List (List ℕ × A)) → K es → (x : List ℕ) (a : A) → under x es ≡ Some a → Q x a
found_in K Q step [] k x a h = cc
found_in K Q step (e ∷ es) k x a h = grind (arith, same_name_is x e.0, (step e es k).0, found_in K Q step es (step e es k).1 x a)

pub under-changed : {A : Type 0} (x : List ℕ) (f : A → A) (es : List (List ℕ × A)) (n : List ℕ) → under n (changed x f es) ≡ (if same_name n x then option_map f (under n es) else under n es)
under-changed x f [] n = grind arith
under-changed x f (e ∷ es) n = grind (arith, under-changed x f es n, same_name_is n x, same_name_is n e.0, same_name_flips x n)

pub under-filter : {A : Type 0} (p : List ℕ → Bool) (es : List (List ℕ × A)) (n : List ℕ) → under n (filter (λ e. p e.0) es) ≡ (if p n then under n es else None)
under-filter p [] n = grind arith
under-filter p (e ∷ es) n = grind (arith, under-filter p es n, same_name_is n e.0)

pub under-those : {A : Type 0} (xs : List (List ℕ)) (es : List (List ℕ × A)) (n : List ℕ) → under n (those xs es) ≡ (if is_among xs n then under n es else None)
under-those xs es n = under-filter (is_among xs) es n

pub under-others : {A : Type 0} (xs : List (List ℕ)) (es : List (List ℕ × A)) (n : List ℕ) → under n (others xs es) ≡ (if is_among xs n then None else under n es)
under-others xs es n = grind (arith, under-filter (λ m. not (is_among xs m)) es n)

-- the first of two
abbrev pub first : {A : Type 0} → Option A → Option A → Option A
first None o = o
first (Some a) o = Some a

pub under-put_all : {A : Type 0} (ns es : List (List ℕ × A)) (n : List ℕ) → under n (put_all ns es) ≡ first (under n ns) (under n es)
under-put_all [] es n = refl
under-put_all (e ∷ ns) es n = grind (arith, under-put e.0 e.1 (put_all ns es) n, under-put_all ns es n)

pub under-append : {A : Type 0} (ns es : List (List ℕ × A)) (n : List ℕ) → under n (ns ++ es) ≡ first (under n ns) (under n es)
under-append [] es n = refl
under-append (e ∷ ns) es n = grind (arith, under-append ns es n)

-- ---- names still ascend
above-put : {A : Type 0} (y x : List ℕ) (a : A) (es : List (List ℕ × A)) → by_bytes y x ≡ Less → Above y es → Above y (put x a es)
above-put y x a [] l h = (l, tt)
above-put y x a (e ∷ es) l h = grind (arith, l, h.0, h.1, above-put y x a es l h.1)

above-without : {A : Type 0} (y x : List ℕ) (es : List (List ℕ × A)) → Above y es → Above y (without x es)
above-without y x [] h = tt
above-without y x (e ∷ es) h = grind (arith, h.0, h.1, above-without y x es h.1)

pub ascends-put : {A : Type 0} (x : List ℕ) (a : A) (es : List (List ℕ × A)) → Ascends es → Ascends (put x a es)
ascends-put {A} x a [] s = ascends-cons (x, a) [] tt (nothing_ascends A)
ascends-put {A} x a (e ∷ es) s = by (by_bytes x e.0) refl (ascends-put x a es (ascends-tail e es s))
  where
    by : (o : Ordering) → by_bytes x e.0 ≡ o → Ascends (put x a es) → Ascends (match_ordering o ((x, a) ∷ e ∷ es) ((e.0, a) ∷ es) (e ∷ put x a es))
    by Less h rest = ascends-cons (x, a) (e ∷ es) (h, above-further x e.0 es h (ascends-head e es s)) s
    by Equal h rest = ascends-cons (e.0, a) es (ascends-head e es s) (ascends-tail e es s)
    by Greater h rest = ascends-cons e (put x a es) (above-put e.0 x a es (greater_name x e.0 h) (ascends-head e es s)) rest

pub ascends-without : {A : Type 0} (x : List ℕ) (es : List (List ℕ × A)) → Ascends es → Ascends (without x es)
ascends-without x [] s = s
ascends-without {A} x (e ∷ es) s = by (same_name x e.0) (ascends-without x es (ascends-tail e es s))
  where
    by : (b : Bool) → Ascends (without x es) → Ascends (if b then es else e ∷ without x es)
    by true rest = ascends-tail e es s
    by false rest = ascends-cons e (without x es) (above-without e.0 x es (ascends-head e es s)) rest

pub ascends-bring : {A : Type 0} (x : List ℕ) (o : Option A) (es : List (List ℕ × A)) → Ascends es → Ascends (bring x o es)
ascends-bring x None es s = s
ascends-bring x (Some a) es s = ascends-put x a es s

pub ascends-put_all : {A : Type 0} (ns es : List (List ℕ × A)) → Ascends es → Ascends (put_all ns es)
ascends-put_all [] es s = s
ascends-put_all (n ∷ ns) es s = ascends-put n.0 n.1 (put_all ns es) (ascends-put_all ns es s)

pub keys-filter : {A : Type 0} (p : List ℕ → Bool) (es : List (List ℕ × A)) → keys_of (filter (λ e. p e.0) es) ≡ filter p (keys_of es)
keys-filter p [] = refl
keys-filter p (e ∷ es) = grind (arith, keys-filter p es)

pub ascends-filter : {A : Type 0} (p : List ℕ → Bool) (es : List (List ℕ × A)) → Ascends es → Ascends (filter (λ e. p e.0) es)
ascends-filter p es s = subst (IsStrictlySortedBy by_bytes) (sym (keys-filter p es)) (IsStrictlySortedBy-filter by_bytes p (keys_of es) s)

pub ascends-those : {A : Type 0} (xs : List (List ℕ)) (es : List (List ℕ × A)) → Ascends es → Ascends (those xs es)
ascends-those xs es s = ascends-filter (is_among xs) es s

pub ascends-others : {A : Type 0} (xs : List (List ℕ)) (es : List (List ℕ × A)) → Ascends es → Ascends (others xs es)
ascends-others xs es s = ascends-filter (λ n. not (is_among xs n)) es s

pub changed-keys : {A : Type 0} (x : List ℕ) (f : A → A) (es : List (List ℕ × A)) → keys_of (changed x f es) ≡ keys_of es
changed-keys x f [] = refl
changed-keys x f (e ∷ es) = ap (λ ks. e.0 ∷ ks) (changed-keys x f es)

pub ascends-changed : {A : Type 0} (x : List ℕ) (f : A → A) (es : List (List ℕ × A)) → Ascends es → Ascends (changed x f es)
ascends-changed x f es s = subst (IsStrictlySortedBy by_bytes) (sym (changed-keys x f es)) s

-- what stands behind the first stands there also with the first
pub under_past : {A : Type 0} (e : List ℕ × A) (es : List (List ℕ × A)) (n : List ℕ) (a : A) → Ascends (e ∷ es) → under n es ≡ Some a → under n (e ∷ es) ≡ Some a
under_past e es n a s h = grind (arith, above-none e.0 es (ascends-head e es s), same_name_is n e.0)

-- ---- permutations
pub put-permutes : {A : Type 0} (x : List ℕ) (a : A) (es : List (List ℕ × A)) → under x es ≡ None → IsPermutation ((x, a) ∷ es) (put x a es)
put-permutes x a [] h = IsPermutation-refl _
put-permutes {A} x a (e ∷ es) h = by (by_bytes x e.0) h (put-permutes x a es)
  where
    by : (o : Ordering) → (if is_eq o then Some e.1 else under x es) ≡ None → (under x es ≡ None → IsPermutation ((x, a) ∷ es) (put x a es))
        → IsPermutation ((x, a) ∷ e ∷ es) (match_ordering o ((x, a) ∷ e ∷ es) ((e.0, a) ∷ es) (e ∷ put x a es))
    by Less k rest = IsPermutation-refl _
    by Equal k rest = cc
    by Greater k rest =
        IsPermutation-trans ((x, a) ∷ e ∷ es) (e ∷ (x, a) ∷ es) (e ∷ put x a es) (IsPermutation-middle ((x, a) ∷ []) e es)
        (IsPermutation-cons e ((x, a) ∷ es) (put x a es) (rest k))

-- ---- two lists whose names ascend are equal where the same stands under each name
pub under-itself : {A : Type 0} (e : List ℕ × A) (es : List (List ℕ × A)) → under e.0 (e ∷ es) ≡ Some e.1
under-itself e es = grind (arith, same_name_itself e.0)

pub same_under : {A : Type 0} (xs ys : List (List ℕ × A)) → Ascends xs → Ascends ys → ((n : List ℕ) → under n xs ≡ under n ys) → xs ≡ ys
same_under [] [] s t h = refl
same_under [] (b ∷ bs) s t h = grind (arith, h b.0, under-itself b bs)
same_under (a ∷ xs) [] s t h = grind (arith, h a.0, under-itself a xs)
same_under {A} (a ∷ xs) (b ∷ bs) s t h = by (by_bytes a.0 b.0) refl (same_under xs bs (ascends-tail a xs s) (ascends-tail b bs t))
  where
    up : Above a.0 xs
    up = ascends-head a xs s

    over : Above b.0 bs
    over = ascends-head b bs t

    by : (o : Ordering) → by_bytes a.0 b.0 ≡ o → (((n : List ℕ) → under n xs ≡ under n bs) → xs ≡ bs) → a ∷ xs ≡ b ∷ bs
    by Less l rest = let none = above-none a.0 (b ∷ bs) (l, above-further a.0 b.0 bs l over) in grind (arith, h a.0, under-itself a xs, none)
    by Greater l rest =
        let k = greater_name a.0 b.0 l in
        let none = above-none b.0 (a ∷ xs) (k, above-further b.0 a.0 xs k up) in
        grind (arith, h b.0, under-itself b bs, none)
    by Equal l rest =
        let e = exact_bytes a.0 b.0 l in
        let w : a.1 ≡ b.1 = grind (arith, h a.0, under-itself a xs, under-itself b bs, e) in
        let r = rest (λ n. grind (arith, h n, above-none a.0 xs up, above-none b.0 bs over, same_name_is n a.0, e)) in
        λ i. (e i, w i) ∷ r i

-- ---- what stands under one name stands under another
pub under-moved : {A : Type 0} (x y : List ℕ) (es : List (List ℕ × A)) (n : List ℕ) → Ascends es → under n (moved x y es) ≡ (if same_name n y then under x es else (if same_name n x then None else under n es))
under-moved x y es n s =
    grind (arith, under-bring y (under x es) (without y (without x es)) n, under-without y (without x es) n (ascends-without x es s), under-without x es n s)

-- ---- the same, told by what stood under that one name
pub at_name : (P : List ℕ → Type 0) (n x : List ℕ) → same_name n x ≡ true → P x → P n
at_name P n x h p = subst P (sym (same_name_is n x h)) p

pub unaffected : {A : Type 0} (x : List ℕ) (es : List (List ℕ × A)) (n : List ℕ) → under n es ≡ (if same_name n x then under x es else under n es)
unaffected x es n = grind (arith, same_name_is n x)

pub changed_at : {A : Type 0} (x : List ℕ) (f : A → A) (es : List (List ℕ × A)) (n : List ℕ) → under n (changed x f es) ≡ (if same_name n x then option_map f (under x es) else under n es)
changed_at x f es n = grind (arith, under-changed x f es n, same_name_is n x)

-- an edit that leaves out what it takes out at once
pub put_without : {A : Type 0} (x : List ℕ) (a : A) (es : List (List ℕ × A)) (n : List ℕ) → Ascends es → under n (put x a (without x es)) ≡ (if same_name n x then Some a else under n es)
put_without x a es n s = grind (arith, under-put x a (without x es) n, under-without x es n s)

pub bring_without : {A : Type 0} (x : List ℕ) (o : Option A) (es : List (List ℕ × A)) (n : List ℕ) → Ascends es → under n (bring x o (without x es)) ≡ (if same_name n x then o else under n es)
bring_without x None es n s = under-without x es n s
bring_without x (Some a) es n s = put_without x a es n s

-- something is brought where nothing stands
pub bring_at : {A : Type 0} (x : List ℕ) (o : Option A) (es : List (List ℕ × A)) (n : List ℕ) → under x es ≡ None → under n (bring x o es) ≡ (if same_name n x then o else under n es)
bring_at x o es n h = grind (arith, under-bring x o es n, same_name_is n x)

-- ---- names of a list
pub among_is : {A : Type 0} (es : List (List ℕ × A)) (n : List ℕ) → is_among (keys_of es) n ≡ has n es
among_is es n = sym (is_some-lookup (is_at (by_bytes n)) es)

-- what a test says of each of some names
pub all_names : (p : List ℕ → Bool) (xs : List (List ℕ)) → list_all p xs ≡ true → (n : List ℕ) → is_among xs n ≡ true → p n ≡ true
all_names p [] h n k = cc
all_names p (x ∷ xs) h n k = let rest = all_names p xs in grind (arith, rest, same_name_is n x)

pub none_of : (p : List ℕ → Bool) (xs : List (List ℕ)) → list_any p xs ≡ false → (n : List ℕ) → is_among xs n ≡ true → p n ≡ false
none_of p [] h n k = cc
none_of p (x ∷ xs) h n k = let rest = none_of p xs in grind (arith, rest, same_name_is n x)

pub none_among : (p : List ℕ → Bool) (xs : List (List ℕ)) → ((n : List ℕ) → is_among xs n ≡ true → p n ≡ false) → list_any p xs ≡ false
none_among p [] h = refl
none_among p (x ∷ xs) h = let rest = none_among p xs (λ n k. h n (right_or (same_name n x) (is_among xs n) k)) in grind (arith, rest, h x, same_name_itself x)

-- entries whose names are distinct, and aren't there, are put among the others
pub put_all-permutes : {A : Type 0} (ads base : List (List ℕ × A)) → has_twice (keys_of ads) ≡ false → list_any (λ n. has n base) (keys_of ads) ≡ false → IsPermutation (ads ++ base) (put_all ads base)
put_all-permutes [] base once apart = IsPermutation-refl base
put_all-permutes (n ∷ ns) base once apart =
    let o = split_or (is_among (keys_of ns) n.0) (has_twice (keys_of ns)) once in
    let a = split_or (has n.0 base) (list_any (λ m. has m base) (keys_of ns)) apart in
    let none : under n.0 (put_all ns base) ≡ None = grind (arith, o, a, under-put_all ns base n.0, among_is ns n.0) in
    IsPermutation-trans (n ∷ (ns ++ base)) (n ∷ put_all ns base) (put n.0 n.1 (put_all ns base))
    (IsPermutation-cons n (ns ++ base) (put_all ns base) (put_all-permutes ns base o.1 a.1))
    (put-permutes n.0 n.1 (put_all ns base) none)

-- entries whose names are distinct, in the order of their names
pub order_all : {A : Type 0} (base ads : List (List ℕ × A)) → Ascends base → has_twice (keys_of ads) ≡ false → list_any (λ n. has n base) (keys_of ads) ≡ false → IsOrderOf (base ++ ads) (put_all ads base)
order_all base ads s once apart = record {
  same = IsPermutation-trans (base ++ ads) (ads ++ base) (put_all ads base) (IsPermutation-append_comm base ads) (put_all-permutes ads base once apart);
  ascend = ascends-put_all ads base s;
}
