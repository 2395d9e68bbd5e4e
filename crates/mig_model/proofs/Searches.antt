-- In a list that ascends by key, a binary search finds what `seek` finds, and an edit at that place is the edit by key.
use Rattle.std.proofs.Common.{◌≡◌, ℕ, zero, suc, ◌<◌, ◌≤◌, ◌⊎◌, inl, inr, true, List, [], ◌∷◌, length, map, get_or, slice_set, Some, None, Ok, Err, refl, sym, ap, subst, ◌∙◌, arith}
use Rattle.std.specs.Prelude.{slice_get, is_some}
use Rattle.std.specs.Result.{is_ok}
use Rattle.std.specs.declared.result.Result.{Result}
use Rattle.std.specs.Cmp.{IsTotalOrder}
use Rattle.std.specs.Ordering.{is_le, ordering_index, ordering_reverse, match_ordering}
use Rattle.std.specs.declared.cmp.Ordering.{Ordering}
use Rattle.std.specs.declared.cmp.Ordering.TheVariants.{Less, Equal, Greater}
use Rattle.std.specs.List.{insert, remove, AllByRecursion}
use Rattle.std.specs.List.Sorted.{IsStrictlySortedBy, IsNonDecreasingBy, IsPartitionPoint, IsSearchInRange, IsBinarySearchResult}
use Rattle.std.specs.Map.{keys_of, values_of, lookup, remove_entry}
use Rattle.std.specs.BTreeMap.{insert_entry, is_at}
use Rattle.std.proofs.lemmas.Cmp.{alike_right}
use Rattle.std.proofs.lemmas.Bool.{cases_lt, false≢true}
use Rattle.std.proofs.lemmas.List.{length-map}
use Rattle.std.proofs.lemmas.Map.Keys.{Less-from_sorted}
use Rattle.std.proofs.lemmas.Map.Lookups.{CmpEqualImpliesEq}
use Rattle.std_collections.specs.Layout.BTreeMap.{seek, one_further}
use Rattle.std_collections.specs.Layout.Columns.{set_value_at}
use Rattle.std_collections.proofs.Seek.{AboveFirst, AnswersAt, found_at, missing_at, by_ordering, insert_entry-Ok, insert_entry_err, sorted_insert, seek-Ok}
use Rattle.std_collections.proofs.Entries.{NonePasses, lookup-none, remove_entry_none}

-- what is read at a place doesn't depend on the default
pub same_read : {X : Type 0} (xs : List X) (i : ℕ) (d x : X) → i < length xs → x ≡ get_or xs i x → get_or xs i d ≡ x
same_read [] i d x l h = absurd (omega arith)
same_read (y ∷ xs) zero d x l h = sym h
same_read (y ∷ xs) (suc i) d x l h = same_read xs i d x (omega arith) h

-- ---- an edit at a place of a list and of what it maps to
module _ {X Y : Type 0} (f : X → Y) where
  map-remove : (xs : List X) (i : ℕ) → map f (remove xs i) ≡ remove (map f xs) i
  map-remove [] zero = refl
  map-remove (x ∷ xs) zero = refl
  map-remove [] (suc i) = refl
  map-remove (x ∷ xs) (suc i) = ap (λ l. f x ∷ l) (map-remove xs i)

  pub map-insert : (xs : List X) (i : ℕ) (x : X) → map f (insert xs i x) ≡ insert (map f xs) i (f x)
  map-insert xs zero x = refl
  map-insert [] (suc i) x = refl
  map-insert (y ∷ xs) (suc i) x = ap (λ l. f y ∷ l) (map-insert xs i x)

-- ---- what an edit at a place keeps
module _ {K A : Type 0} (cmp : K → K → Ordering) where
  set_keys : (es : List (K × A)) (i : ℕ) (a : A) → keys_of (set_value_at es i a) ≡ keys_of es
  set_keys [] i a = refl
  set_keys (e ∷ es) zero a = refl
  set_keys (e ∷ es) (suc i) a = ap (λ l. e.0 ∷ l) (set_keys es i a)

  others_stay : (P : K → Type 0) (es : List (K × A)) (i : ℕ) → AllByRecursion P (keys_of es) → AllByRecursion P (keys_of (remove es i))
  others_stay P [] zero h = tt
  others_stay P [] (suc i) h = tt
  others_stay P (e ∷ es) zero h = h.1
  others_stay P (e ∷ es) (suc i) h = (h.0, others_stay P es i h.1)

  sorted_remove : (es : List (K × A)) (i : ℕ) → IsStrictlySortedBy cmp (keys_of es) → IsStrictlySortedBy cmp (keys_of (remove es i))
  unfolding IsStrictlySortedBy
  sorted_remove [] zero s = tt
  sorted_remove [] (suc i) s = tt
  sorted_remove (e ∷ es) zero s = s.1
  sorted_remove (e ∷ es) (suc i) s = (others_stay (λ k. cmp e.0 k ≡ Less) es i s.0, sorted_remove es i s.1)

pub removed_sorted : {K X A : Type 0} (cmp : K → K → Ordering) (view : X → K × A) (xs : List X) (i : ℕ) → IsStrictlySortedBy cmp (keys_of (map view xs)) → IsStrictlySortedBy cmp (keys_of (map view (remove xs i)))
removed_sorted cmp view xs i s = subst (λ es. IsStrictlySortedBy cmp (keys_of es)) (sym (map-remove view xs i)) (sorted_remove cmp (map view xs) i s)

index_falls : (r s : Ordering) → (s ≡ Less → r ≡ Less) → (s ≡ Equal → r ≡ Less) → ordering_index r ≤ ordering_index s
index_falls r Less f g = let e = f refl in omega (arith, ap ordering_index e)
index_falls r Equal f g = let e = g refl in omega (arith, ap ordering_index e)
index_falls Less Greater f g = omega arith
index_falls Equal Greater f g = omega arith
index_falls Greater Greater f g = omega arith

module _ {K : Type 0} {cmp : K → K → Ordering} (total : IsTotalOrder cmp) where
  flipped : (x y : K) (r : Ordering) → cmp x y ≡ r → cmp y x ≡ ordering_reverse r
  flipped x y r h = total.antisymm y x ∙ ap ordering_reverse h

  pub below : (key x y : K) → is_le (cmp key x) ≡ true → cmp x y ≡ Less → cmp key y ≡ Less
  below key x y a b = by_ordering (cmp key x)
      (λ h. total.trans key x y h b)
      (λ h. total.congr key x y h ∙ b)
      (λ h. absurd (false≢true (ap is_le (sym h) ∙ a)))

module _ {K X A : Type 0} {cmp : K → K → Ordering} (total : IsTotalOrder cmp) (view : X → K × A) (key : K) where
  abbrev key_of : X → K
  key_of x = (view x).0

  abbrev order : X → Ordering
  order x = cmp (key_of x) key

  key_at : (xs : List X) (k : ℕ) (d : X) → get_or (keys_of (map view xs)) k (key_of d) ≡ key_of (get_or xs k d)
  key_at [] k d = refl
  key_at (x ∷ xs) zero d = refl
  key_at (x ∷ xs) (suc k) d = key_at xs k d

  keys_length : (xs : List X) → length (keys_of (map view xs)) ≡ length xs
  keys_length [] = refl
  keys_length (x ∷ xs) = ap suc (keys_length xs)

  ascends_at : (xs : List X) (i j : ℕ) (d : X) → IsStrictlySortedBy cmp (keys_of (map view xs)) → i < j → j < length xs → cmp (key_of (get_or xs i d)) (key_of (get_or xs j d)) ≡ Less
  ascends_at xs i j d s a b =
      sym (λ t. cmp (key_at xs i d t) (key_at xs j d t))
      ∙ Less-from_sorted cmp (keys_of (map view xs)) i j (key_of d) s a (omega (arith, keys_length xs))

  -- what stands below an equal key is below the key
  below_equal : (x y : X) → cmp (key_of x) (key_of y) ≡ Less → order y ≡ Equal → order x ≡ Less
  below_equal x y up e = alike_right total key (key_of y) (key_of x) (flipped total (key_of y) key Equal e) ∙ up

  never_falls : (xs : List X) → IsStrictlySortedBy cmp (keys_of (map view xs)) → IsNonDecreasingBy (λ x. ordering_index (order x)) xs
  never_falls xs s i j d a b = by (cases_lt i j)
    where
      by : (i < j) ⊎ (j ≤ i) → ordering_index (order (get_or xs i d)) ≤ ordering_index (order (get_or xs j d))
      by (inl q) =
          let up = ascends_at xs i j d s q b in
          index_falls (order (get_or xs i d)) (order (get_or xs j d))
          (λ e. total.trans (key_of (get_or xs i d)) (key_of (get_or xs j d)) key up e)
          (λ e. below_equal (get_or xs i d) (get_or xs j d) up e)
      by (inr q) = let e : i ≡ j = omega arith in subst (λ k. ordering_index (order (get_or xs i d)) ≤ ordering_index (order (get_or xs k d))) e (omega arith)

  above : (xs : List X) (i : ℕ) → i ≤ length xs → ((k : ℕ) (d : X) → k < i → order (get_or xs k d) ≡ Less) → AboveFirst (cmp key) (map view xs) i
  above xs zero l h = tt
  above [] (suc i) l h = absurd (omega arith)
  above (x ∷ xs) (suc i) l h = (flipped total (key_of x) key Less (h 0 x (omega arith)), above xs i (omega arith) (λ k d q. h (suc k) d (omega arith)))

  at_place : (xs : List X) (i : ℕ) (r : Ordering) → ((d : X) → i < length xs → order (get_or xs i d) ≡ r) → AnswersAt (cmp key) (map view xs) i (ordering_reverse r)
  at_place [] i r h = tt
  at_place (x ∷ xs) zero r h = flipped total (key_of x) key r (h x (omega arith))
  at_place (x ∷ xs) (suc i) r h = at_place xs i r (λ d q. h d (omega arith))

  step : (e : K × A) (es : List (K × A)) (r : Ordering) → cmp key e.0 ≡ r → seek (cmp key) (e ∷ es) ≡ match_ordering r (Err 0) (Ok 0) (one_further (seek (cmp key) es))
  step e es r h = ap (λ o. match_ordering o (Err 0) (Ok 0) (one_further (seek (cmp key) es))) h

  seek_Ok : (es : List (K × A)) (i : ℕ) → i < length es → AboveFirst (cmp key) es i → AnswersAt (cmp key) es i Equal → seek (cmp key) es ≡ Ok i
  seek_Ok [] i l a b = absurd (omega arith)
  seek_Ok (e ∷ es) zero l a b = step e es Equal b
  seek_Ok (e ∷ es) (suc i) l a b = step e es Greater a.0 ∙ ap one_further (seek_Ok es i (omega arith) a.1 b)

  seek_Err : (es : List (K × A)) (i : ℕ) → AboveFirst (cmp key) es i → AnswersAt (cmp key) es i Less → seek (cmp key) es ≡ Err i
  seek_Err [] zero a b = refl
  seek_Err [] (suc i) a b = absurd a
  seek_Err (e ∷ es) zero a b = step e es Less b
  seek_Err (e ∷ es) (suc i) a b = step e es Greater a.0 ∙ ap one_further (seek_Err es i a.1 b)

  found_here : (xs : List X) (i : ℕ) → IsStrictlySortedBy cmp (keys_of (map view xs)) → i < length xs → ((d : X) → order (get_or xs i d) ≡ Equal) → Ok i ≡ seek (cmp key) (map view xs)
  found_here xs i s l is =
      sym (seek_Ok (map view xs) i (omega (arith, length-map xs view))
      (above xs i (omega arith) (λ k d q. below_equal (get_or xs k d) (get_or xs i d) (ascends_at xs k i d s q l) (is d)))
      (at_place xs i Equal (λ d q. is d)))

  gap_here : (xs : List X) (i : ℕ) → i ≤ length xs → IsPartitionPoint (λ x. order x ≡ Less) (λ x. order x ≡ Greater) xs i → Err i ≡ seek (cmp key) (map view xs)
  gap_here xs i l p =
      sym (seek_Err (map view xs) i (above xs i l (λ k d q. p.0 k d (omega arith) q)) (at_place xs i Greater (λ d q. p.1 i d (omega arith) q)))

  -- a binary search finds the place
  pub searched : (xs : List X) (r : Result ℕ ℕ) → IsStrictlySortedBy cmp (keys_of (map view xs)) → IsSearchInRange r (length xs) → IsBinarySearchResult order xs r → r ≡ seek (cmp key) (map view xs)
  searched xs (Ok i) s l is = found_here xs i s l is
  searched xs (Err i) s l is = gap_here xs i l (is (never_falls xs s))

  -- ---- what stands at the place
  value_at : (xs : List X) (i : ℕ) (d : X) → i < length xs → d ≡ get_or xs i d → slice_get (values_of (map view xs)) i ≡ Some (view d).1
  value_at [] i d l h = absurd (omega arith)
  value_at (x ∷ xs) zero d l h = ap (λ z. Some (view z).1) (sym h)
  value_at (x ∷ xs) (suc i) d l h = value_at xs i d (omega arith) h

  pub found_there : (xs : List X) (i : ℕ) (d : X) → seek (cmp key) (map view xs) ≡ Ok i → i < length xs → d ≡ get_or xs i d → lookup (is_at (cmp key)) (map view xs) ≡ Some (view d).1
  found_there xs i d h l is = (found_at (cmp key) (map view xs) i h).value ∙ value_at xs i d l is

  pub none_there : (xs : List X) (i : ℕ) → IsStrictlySortedBy cmp (keys_of (map view xs)) → seek (cmp key) (map view xs) ≡ Err i → NonePasses (is_at (cmp key)) (map view xs)
  none_there xs i s h = missing_at (cmp key) {cmp = cmp} (below total key) (map view xs) i s h

  pub not_found : (xs : List X) (i : ℕ) → IsStrictlySortedBy cmp (keys_of (map view xs)) → seek (cmp key) (map view xs) ≡ Err i → lookup (is_at (cmp key)) (map view xs) ≡ None
  not_found xs i s h = lookup-none (is_at (cmp key)) (map view xs) (none_there xs i s h)

  pub nothing_removed : (xs : List X) (i : ℕ) → IsStrictlySortedBy cmp (keys_of (map view xs)) → seek (cmp key) (map view xs) ≡ Err i → remove_entry (is_at (cmp key)) (map view xs) ≡ map view xs
  nothing_removed xs i s h = remove_entry_none (is_at (cmp key)) (map view xs) (none_there xs i s h)

  -- a key is there where its place is found
  pub has_is : (xs : List X) (r : Result ℕ ℕ) → IsStrictlySortedBy cmp (keys_of (map view xs)) → r ≡ seek (cmp key) (map view xs) → is_ok r ≡ is_some (lookup (is_at (cmp key)) (map view xs))
  has_is xs (Ok i) s h = sym (found_at (cmp key) (map view xs) i (sym h)).there
  has_is xs (Err i) s h = sym (ap is_some (not_found xs i s (sym h)))

  pub removed : (xs : List X) (i : ℕ) → seek (cmp key) (map view xs) ≡ Ok i → map view (remove xs i) ≡ remove_entry (is_at (cmp key)) (map view xs)
  removed xs i h = map-remove view xs i ∙ (found_at (cmp key) (map view xs) i h).removes

-- ---- where only a key itself compares equal to it
module _ {K X A : Type 0} {cmp : K → K → Ordering} (exact : CmpEqualImpliesEq cmp) (view : X → K × A) where
  key_there_at : (key : K) (xs : List X) (i : ℕ) (d : X) → i < length xs → d ≡ get_or xs i d → AnswersAt (cmp key) (map view xs) i Equal → (view d).0 ≡ key
  key_there_at key [] i d l h a = absurd (omega arith)
  key_there_at key (x ∷ xs) zero d l h a = ap (λ z. (view z).0) h ∙ sym (exact key (view x).0 a)
  key_there_at key (x ∷ xs) (suc i) d l h a = key_there_at key xs i d (omega arith) h a

  -- what stands at the place of a key has the key
  pub key_there : (key : K) (xs : List X) (i : ℕ) (d : X) → seek (cmp key) (map view xs) ≡ Ok i → i < length xs → d ≡ get_or xs i d → (view d).0 ≡ key
  key_there key xs i d h l is = key_there_at key xs i d l is (seek-Ok (cmp key) (map view xs) i h).2

  pub inserted : (xs : List X) (i : ℕ) (e : X) → seek (cmp (view e).0) (map view xs) ≡ Err i → map view (insert xs i e) ≡ insert_entry cmp (map view xs) (view e).0 (view e).1
  inserted xs i e h = map-insert view xs i e ∙ insert_entry_err cmp (view e).0 (view e).1 (map view xs) i h

  set_is : (xs : List X) (i : ℕ) (e : X) → AnswersAt (cmp (view e).0) (map view xs) i Equal → map view (slice_set xs i e) ≡ set_value_at (map view xs) i (view e).1
  set_is [] i e h = refl
  set_is (x ∷ xs) zero e h = ap (λ (k : K). (k, (view e).1) ∷ map view xs) (exact (view e).0 (view x).0 h)
  set_is (x ∷ xs) (suc i) e h = ap (λ l. view x ∷ l) (set_is xs i e h)

  pub replaced : (xs : List X) (i : ℕ) (e : X) → seek (cmp (view e).0) (map view xs) ≡ Ok i → map view (slice_set xs i e) ≡ insert_entry cmp (map view xs) (view e).0 (view e).1
  replaced xs i e h = set_is xs i e (seek-Ok (cmp (view e).0) (map view xs) i h).2 ∙ insert_entry-Ok cmp (view e).0 (view e).1 (map view xs) i h

  pub inserted_sorted : (total : IsTotalOrder cmp) (xs : List X) (i : ℕ) (e : X) → IsStrictlySortedBy cmp (keys_of (map view xs)) → seek (cmp (view e).0) (map view xs) ≡ Err i → IsStrictlySortedBy cmp (keys_of (map view (insert xs i e)))
  inserted_sorted total xs i e s h =
      subst (λ es. IsStrictlySortedBy cmp (keys_of es)) (sym (map-insert view xs i e)) (sorted_insert cmp (view e).0 (view e).1 total (map view xs) i s h)

  pub replaced_sorted : (xs : List X) (i : ℕ) (e : X) → IsStrictlySortedBy cmp (keys_of (map view xs)) → seek (cmp (view e).0) (map view xs) ≡ Ok i → IsStrictlySortedBy cmp (keys_of (map view (slice_set xs i e)))
  replaced_sorted xs i e s h =
      subst (λ ks. IsStrictlySortedBy cmp ks) (sym (ap keys_of (set_is xs i e (seek-Ok (cmp (view e).0) (map view xs) i h).2) ∙ set_keys cmp (map view xs) i (view e).1)) s
