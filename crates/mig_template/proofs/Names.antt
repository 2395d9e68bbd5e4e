-- Names of which none stands twice, and what moving them keeps.
use Rattle.std.proofs.Common.{◌≡◌, ℕ, ◌||◌, List, [], ◌∷◌, ◌++◌, Bool, true, false, true≢false, refl, sym, ap, ◌∙◌}
use Rattle.std.proofs.lemmas.Bool.{false_from_ne_true}
use Rattle.std.specs.Prelude.{IsPermutation}
use Rattle.std.specs.List.{AllByRecursion, IsDistinct, list_any}
use Rattle.std.specs.Map.{keys_of}
use Rattle.std.proofs.lemmas.List.Folds.{list_any-append}
use Rattle.std.proofs.lemmas.List.Sorted.{IsPermutation-map, IsPermutation-sym, list_any-IsPermutation}
use Rattle.std.proofs.lemmas.Map.Keys.{IsDistinct-head, IsDistinct-tail, IsDistinct-cons, IsDistinct-IsPermutation}
use Rattle.mig_model.proofs.Ascending.{flips}
use Rattle.mig_model.specs.Names.{has_twice, same_name, is_among}
use Rattle.mig_model.proofs.Bools.{split_or, right_or, first_false, second_false}
use Rattle.mig_model.proofs.SameNames.{same_name_is}

abbrev Apart : List (List ℕ) → Type 0
Apart ns = IsDistinct same_name ns

none_among : (n : List ℕ) (ns : List (List ℕ)) → AllByRecursion (λ m. same_name n m ≡ false) ns → is_among ns n ≡ false
none_among n [] h = refl
none_among n (m ∷ ns) h = rw h.0 (none_among n ns h.1)

not_among : (n : List ℕ) (ns : List (List ℕ)) → is_among ns n ≡ false → AllByRecursion (λ m. same_name n m ≡ false) ns
not_among n [] h = tt
not_among n (m ∷ ns) h = (first_false (same_name n m) (is_among ns n) h, not_among n ns (second_false (same_name n m) (is_among ns n) h))

pub once_if_apart : (ns : List (List ℕ)) → Apart ns → has_twice ns ≡ false
once_if_apart [] h = refl
once_if_apart (n ∷ ns) h = rw (none_among n ns (IsDistinct-head same_name n ns h)) (once_if_apart ns (IsDistinct-tail same_name n ns h))

none_apart : Apart []
unfolding IsDistinct
none_apart = tt

pub apart_if_once : (ns : List (List ℕ)) → has_twice ns ≡ false → Apart ns
apart_if_once [] h = none_apart
apart_if_once (n ∷ ns) h =
    IsDistinct-cons same_name n ns (not_among n ns (first_false (is_among ns n) (has_twice ns) h)) (apart_if_once ns (second_false (is_among ns n) (has_twice ns) h))

once_moved : (ms ns : List (List ℕ)) → IsPermutation ms ns → has_twice ms ≡ false → has_twice ns ≡ false
once_moved ms ns p h = once_if_apart ns (IsDistinct-IsPermutation same_name flips ms ns p (apart_if_once ms h))

-- moving names makes none stand twice
pub twice_moved : (ms ns : List (List ℕ)) → IsPermutation ms ns → has_twice ms ≡ has_twice ns
twice_moved ms ns p = by (has_twice ms) (has_twice ns) (once_moved ms ns p) (once_moved ns ms (IsPermutation-sym ms ns p))
  where
    by : (a b : Bool) → (a ≡ false → b ≡ false) → (b ≡ false → a ≡ false) → a ≡ b
    by false b f g = sym (f refl)
    by true false f g = g refl
    by true true f g = refl

-- of two lists of names in each of which none stands twice, one stands twice in both together where one of the first is among the second
pub twice_in_both : (ms ns : List (List ℕ)) → has_twice ms ≡ false → has_twice ns ≡ false → has_twice (ms ++ ns) ≡ list_any (is_among ns) ms
twice_in_both [] ns h k = k
twice_in_both (m ∷ ms) ns h k =
    let apart : is_among ms m ≡ false = first_false (is_among ms m) (has_twice ms) h in
    let here : is_among (ms ++ ns) m ≡ is_among ns m = list_any-append (same_name m) ms ns ∙ ap (λ b. b || is_among ns m) apart in
    λ i. here i || twice_in_both ms ns (second_false (is_among ms m) (has_twice ms) h) k i

more_among : (m : List ℕ) (ms ns : List (List ℕ)) → is_among ms m ≡ true → is_among (ms ++ ns) m ≡ true
more_among m ms ns h = list_any-append (same_name m) ms ns ∙ ap (λ b. b || is_among ns m) h

pub twice_in_more : (ms ns : List (List ℕ)) → has_twice ms ≡ true → has_twice (ms ++ ns) ≡ true
twice_in_more [] ns h = absurd cc
twice_in_more (m ∷ ms) ns h = by (is_among ms m) refl h (twice_in_more ms ns)
  where
    by : (a : Bool) → is_among ms m ≡ a → (a || has_twice ms) ≡ true → (has_twice ms ≡ true → has_twice (ms ++ ns) ≡ true) → (is_among (ms ++ ns) m || has_twice (ms ++ ns)) ≡ true
    by true e f rest = ap (λ b. b || has_twice (ms ++ ns)) (more_among m ms ns e)
    by false e f rest = right_or (is_among (ms ++ ns) m) (has_twice (ms ++ ns)) (rest f)

-- moving what has names makes none stand twice
pub keys_moved : {A : Type 0} (es ds : List (List ℕ × A)) → IsPermutation es ds → has_twice (keys_of es) ≡ has_twice (keys_of ds)
keys_moved es ds p = twice_moved (keys_of es) (keys_of ds) (IsPermutation-map (λ e. e.0) es ds p)

-- the names of a case are apart from others where none of them is among the others, in any order
pub taken_in : {A : Type 0} (es ds : List (List ℕ × A)) (others : List (List ℕ)) → IsPermutation es ds → has_twice (keys_of es) ≡ false → has_twice others ≡ false
    → has_twice (keys_of es ++ others) ≡ list_any (is_among others) (keys_of ds)
taken_in es ds others p h k = twice_in_both (keys_of es) others h k ∙ list_any-IsPermutation (is_among others) (keys_of es) (keys_of ds) (IsPermutation-map (λ e. e.0) es ds p)

-- where no name stands twice, none of the first is among the others
pub apart_from_others : (ms ns : List (List ℕ)) (x : List ℕ) → has_twice (ms ++ ns) ≡ false → is_among ms x ≡ true → is_among ns x ≡ false
apart_from_others [] ns x h a = absurd (true≢false (sym a))
apart_from_others (m ∷ ms) ns x h a = by (same_name x m) refl a (apart_from_others ms ns x both.1)
  where
    both : (is_among (ms ++ ns) m ≡ false) × (has_twice (ms ++ ns) ≡ false)
    both = split_or (is_among (ms ++ ns) m) (has_twice (ms ++ ns)) h

    by : (b : Bool) → same_name x m ≡ b → (b || is_among ms x) ≡ true → (is_among ms x ≡ true → is_among ns x ≡ false) → is_among ns x ≡ false
    by true e k rest = ap (is_among ns) (same_name_is x m e) ∙ (split_or (is_among ms m) (is_among ns m) (sym (list_any-append (same_name m) ms ns) ∙ both.0)).1
    by false e k rest = rest k

-- and none of the others is among the first
pub apart_from_first : (ms ns : List (List ℕ)) (x : List ℕ) → has_twice (ms ++ ns) ≡ false → is_among ns x ≡ true → is_among ms x ≡ false
apart_from_first ms ns x h a = false_from_ne_true (is_among ms x) (λ e. true≢false (sym a ∙ apart_from_others ms ns x h e))

-- and in the first none stands twice
pub first_once : (ms ns : List (List ℕ)) → has_twice (ms ++ ns) ≡ false → has_twice ms ≡ false
first_once [] ns h = refl
first_once (m ∷ ms) ns h =
    let both = split_or (is_among (ms ++ ns) m) (has_twice (ms ++ ns)) h in
    let here : is_among ms m ≡ false = (split_or (is_among ms m) (is_among ns m) (sym (list_any-append (same_name m) ms ns) ∙ both.0)).0 in
    λ i. here i || first_once ms ns both.1 i
