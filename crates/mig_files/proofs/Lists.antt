-- Edits of a list of entries, as edits of a map.
use Rattle.std.proofs.Common.{◌≡◌, refl, sym, ◌∙◌, ap, subst, ℕ, suc, zero, ◌+◌, ◌<◌, Bool, true, false, ◌&&◌, ◌||◌, cond, List, [], ◌∷◌, ◌++◌, Option, Some, None, Ok, Err, length, get_or, map, set, take}
use Rattle.std.specs.Prelude.{IsSome, is_some, bytes_eq}
use Rattle.std.specs.List.{IsDistinct, AllByRecursion, list_any, filter, insert}
use Rattle.std.specs.List.Sorted.{IsStrictlySortedBy}
use Rattle.std.specs.Ordering.{nat_cmp, eq_by_cmp}
use Rattle.std.specs.Cmp.{IsEquivalence, IsTotalOrder, tied_then}
use Rattle.std.proofs.lemmas.Cmp.{nat_list_cmp_total, then_total, on_total}
use Rattle.std.specs.Cmp.Lexicographic.{slice_cmp}
use Rattle.std.specs.BTreeMap.{is_at}
use Rattle.std.specs.Map.{lookup, keys_of, set_value}
use Rattle.std.proofs.lemmas.Map.{lookup-set_value, keys-set_value, lookup-insert, lookup-none, NonePasses}
use Rattle.std.proofs.lemmas.Map.Keys.{IsDistinct-from_sorted}
use Rattle.std.proofs.lemmas.Map.Text.{is_eq-slice_cmp}
use Rattle.std.proofs.lemmas.Slice.Eq.{bytes_eq-Decides}
use Rattle.std.proofs.lemmas.List.{map-append, take_more}
use Rattle.std.proofs.lemmas.List.Elements.{filter-append}
use Rattle.std_collections.specs.Layout.BTreeMap.{seek}
use Rattle.std_collections.specs.Layout.Columns.{set_value_at}
use Rattle.std_collections.proofs.Seek.{found_at, sorted_insert}
use Rattle.mig_model.proofs.Searches.{found_there, none_there, map-insert}
use Rattle.mig_files.specs.Held.{Key, same_key, assign, Lists}
use Rattle.mig_files.specs.Entries.{by_key, AreOrdered, names_in}
use Rattle.mig_files.specs.Numbered.{held_by}
use Rattle.mig_model.proofs.Bools.{split_and}

pub by_key_total : IsTotalOrder by_key
by_key_total = then_total (on_total (λ (k : Key). k.0) nat_list_cmp_total) (on_total (λ (k : Key). k.1) nat_list_cmp_total)

pub fun_ext : {A B : Type 0} (f g : A → B) → ((x : A) → f x ≡ g x) → f ≡ g
fun_ext f g same = λ i x. same x i

pub is_same : (k q : Key) → same_key k q ≡ true → k ≡ q
is_same k q h =
    let p = split_and _ _ h in
    let f : k.0 ≡ q.0 = (bytes_eq-Decides k.0 q.0).0 p.0 in
    let n : k.1 ≡ q.1 = (bytes_eq-Decides k.1 q.1).0 p.1 in
    (λ i. (f i, n i))

pub same_refl : (k : Key) → same_key k k ≡ true
same_refl k = (λ i. (bytes_eq-Decides k.0 k.0).1 refl i && (bytes_eq-Decides k.1 k.1).1 refl i)

pub same_sym : (k q : Key) → same_key k q ≡ same_key q k
same_sym k q = elim (same_key k q) as (λ b. same_key k q ≡ b → b ≡ same_key q k) [
  | true ↦ (λ h. sym (subst (λ (p : Key). same_key p k ≡ true) (is_same k q h) (same_refl k)))
  | false ↦ (λ h. elim (same_key q k) as (λ b. same_key q k ≡ b → false ≡ b) [
    | true ↦ (λ t. absurd (cc (h, subst (λ (p : Key). same_key p q ≡ true) (is_same q k t) (same_refl q))))
    | false ↦ (λ t. refl)
  ] refl)
] refl

pub same_laws : IsEquivalence same_key
same_laws = record {
  refl = same_refl;
  symm = same_sym;
  congr = (λ x y z h. ap (λ (p : Key). same_key p z) (is_same x y h));
}

-- the first entry of a key gets other bytes
pub changed : (es : List (Key × List ℕ)) (k : Key) (b : List ℕ) (q : Key) → IsSome (lookup (same_key k) es)
    → lookup (same_key q) (set_value (same_key k) es b) ≡ cond (same_key k q) (Some b) (lookup (same_key q) es)
changed es k b q some = lookup-set_value same_laws (same_key k) (λ x y h. ap (λ (p : Key). same_key p y) (is_same k x h)) q b es some

pub changed_map : (es : List (Key × List ℕ)) (k : Key) (b : List ℕ) → IsSome (lookup (same_key k) es) → held_by (set_value (same_key k) es b) ≡ assign (held_by es) k (Some b)
changed_map es k b some = fun_ext _ _ (λ q. changed es k b q some)

pub none_ordered : AreOrdered []
unfolding IsStrictlySortedBy
none_ordered = tt

-- ---- the order and the equality of keys
same_test : (k q : Key) → is_at (by_key k) q ≡ same_key k q
same_test k q =
    sym (tied_then (slice_cmp nat_cmp k.0 q.0) (slice_cmp nat_cmp k.1 q.1))
    ∙ (λ i. is_eq-slice_cmp k.0 q.0 i && is_eq-slice_cmp k.1 q.1 i)

same_tests : (k : Key) → is_at (by_key k) ≡ same_key k
same_tests k = fun_ext _ _ (same_test k)

pub ordered_distinct : (es : List (Key × List ℕ)) → AreOrdered es → IsDistinct same_key (keys_of es)
ordered_distinct es s =
    let same : eq_by_cmp by_key ≡ same_key = λ i k q. same_test k q i in
    subst (λ e. IsDistinct e (keys_of es)) same (IsDistinct-from_sorted by_key (keys_of es) s)

-- ---- what a place means for the look-ups, and what a store there leaves
module _ {X : Type 0} (f : X → Key × List ℕ) (k : Key) where
  pub place_found : (xs : List X) (i : ℕ) (d : X) → seek (by_key k) (map f xs) ≡ Ok i → i < length xs → d ≡ get_or xs i d → lookup (same_key k) (map f xs) ≡ Some (f d).1
  place_found xs i d h l is =
      ap (λ t. lookup t (map f xs)) (sym (same_tests k)) ∙ found_there by_key_total f k xs i d h l is

  none_passes : (xs : List X) (i : ℕ) → AreOrdered (map f xs) → seek (by_key k) (map f xs) ≡ Err i → NonePasses (same_key k) (map f xs)
  none_passes xs i s h = subst (λ t. NonePasses t (map f xs)) (same_tests k) (none_there by_key_total f k xs i s h)

  pub no_place : (xs : List X) (i : ℕ) → AreOrdered (map f xs) → seek (by_key k) (map f xs) ≡ Err i → lookup (same_key k) (map f xs) ≡ None
  no_place xs i s h = lookup-none (same_key k) (map f xs) (none_passes xs i s h)

  set_is : (b : List ℕ) (xs : List X) (i : ℕ) (d y : X) → d ≡ get_or xs i d → (f y).0 ≡ (f d).0 → (f y).1 ≡ b → map f (set xs i y) ≡ set_value_at (map f xs) i b
  set_is b [] i d y is key bytes = refl
  set_is b (x ∷ xs) zero d y is key bytes = λ j. ((key ∙ ap (λ z. (f z).0) is) j, bytes j) ∷ map f xs
  set_is b (x ∷ xs) (suc i) d y is key bytes = ap (λ l. f x ∷ l) (set_is b xs i d y is key bytes)

  as_set : (b : List ℕ) (xs : List X) (i : ℕ) (d y : X) → seek (by_key k) (map f xs) ≡ Ok i → d ≡ get_or xs i d → (f y).0 ≡ (f d).0 → (f y).1 ≡ b → map f (set xs i y) ≡ set_value (same_key k) (map f xs) b
  as_set b xs i d y h is key bytes =
      set_is b xs i d y is key bytes ∙ (found_at (by_key k) (map f xs) i h).writes b ∙ ap (λ t. set_value t (map f xs) b) (same_tests k)

  pub held_set : (b : List ℕ) (xs : List X) (i : ℕ) (d y : X) → seek (by_key k) (map f xs) ≡ Ok i → i < length xs → d ≡ get_or xs i d → (f y).0 ≡ (f d).0 → (f y).1 ≡ b → held_by (map f (set xs i y)) ≡ assign (held_by (map f xs)) k (Some b)
  held_set b xs i d y h l is key bytes =
      ap held_by (as_set b xs i d y h is key bytes)
      ∙ changed_map (map f xs) k b (subst (λ o. IsSome o) (sym (place_found xs i d h l is)) refl)

  pub ordered_set : (b : List ℕ) (xs : List X) (i : ℕ) (d y : X) → seek (by_key k) (map f xs) ≡ Ok i → d ≡ get_or xs i d → (f y).0 ≡ (f d).0 → (f y).1 ≡ b → AreOrdered (map f xs) → AreOrdered (map f (set xs i y))
  ordered_set b xs i d y h is key bytes s =
      subst (λ ks. IsStrictlySortedBy by_key ks) (sym (ap keys_of (as_set b xs i d y h is key bytes) ∙ keys-set_value (same_key k) (map f xs) b)) s

  as_insert : (b : List ℕ) (xs : List X) (i : ℕ) (y : X) → f y ≡ (k, b) → map f (insert xs i y) ≡ insert (map f xs) i (k, b)
  as_insert b xs i y is = map-insert f xs i y ∙ ap (insert (map f xs) i) is

  pub held_insert : (b : List ℕ) (xs : List X) (i : ℕ) (y : X) → AreOrdered (map f xs) → seek (by_key k) (map f xs) ≡ Err i → f y ≡ (k, b) → held_by (map f (insert xs i y)) ≡ assign (held_by (map f xs)) k (Some b)
  held_insert b xs i y s h is =
      ap held_by (as_insert b xs i y is)
      ∙ fun_ext _ _ (λ q. lookup-insert same_laws k b q (map f xs) i (none_passes xs i s h))

  pub ordered_insert : (b : List ℕ) (xs : List X) (i : ℕ) (y : X) → AreOrdered (map f xs) → seek (by_key k) (map f xs) ≡ Err i → f y ≡ (k, b) → AreOrdered (map f (insert xs i y))
  ordered_insert b xs i y s h is = subst AreOrdered (sym (as_insert b xs i y is)) (sorted_insert by_key k b by_key_total (map f xs) i s h)

-- ---- the names in a folder
abbrev name_of : Key × List ℕ → List ℕ
name_of e = e.0.1

last : (b : Bool) (e : Key × List ℕ) → map name_of (cond b (e ∷ []) []) ≡ cond b (e.0.1 ∷ []) []
last true e = refl
last false e = refl

pub names_push : (folder : List ℕ) (es : List (Key × List ℕ)) (e : Key × List ℕ) → names_in folder (es ++ e ∷ []) ≡ names_in folder es ++ cond (bytes_eq folder e.0.0) (e.0.1 ∷ []) []
names_push folder es e =
    ap (map name_of) (filter-append (λ x. bytes_eq folder x.0.0) es (e ∷ []))
    ∙ map-append name_of (filter (λ x. bytes_eq folder x.0.0) es) (cond (bytes_eq folder e.0.0) (e ∷ []) [])
    ∙ ap (λ l. names_in folder es ++ l) (last (bytes_eq folder e.0.0) e)

pub names_more : {X : Type 0} (f : X → Key × List ℕ) (folder : List ℕ) (xs : List X) (i : ℕ) (x : X) → i < length xs → x ≡ get_or xs i x → names_in folder (map f (take (i + 1) xs)) ≡ names_in folder (map f (take i xs)) ++ cond (bytes_eq folder (f x).0.0) ((f x).0.1 ∷ []) []
names_more f folder xs i x below is =
    ap (λ l. names_in folder (map f l)) (take_more xs i x below)
    ∙ ap (λ y. names_in folder (map f (take i xs ++ y ∷ []))) (sym is)
    ∙ ap (names_in folder) (map-append f (take i xs) (x ∷ []))
    ∙ names_push folder (map f (take i xs)) (f x)

second : (a b : Bool) → a ≡ true → (a && b) ≡ false → b ≡ false
second true b h g = g
second false b h g = absurd (cc h)

same_folder : (folder other third : List ℕ) → bytes_eq folder other ≡ true → bytes_eq folder third ≡ true → bytes_eq other third ≡ true
same_folder folder other third h g = subst (λ o. bytes_eq o third ≡ true) ((bytes_eq-Decides folder other).0 h) g

apart_names : (folder : List ℕ) (k : Key) (es : List (Key × List ℕ)) → bytes_eq folder k.0 ≡ true → AllByRecursion (λ q. same_key k q ≡ false) (keys_of es) → AllByRecursion (λ n. bytes_eq k.1 n ≡ false) (names_in folder es)
apart_names folder k [] here apart = tt
apart_names folder k (e ∷ es) here apart = more (bytes_eq folder e.0.0) refl (apart_names folder k es here apart.1)
  where
    more : (b : Bool) → bytes_eq folder e.0.0 ≡ b → AllByRecursion (λ n. bytes_eq k.1 n ≡ false) (names_in folder es) → AllByRecursion (λ n. bytes_eq k.1 n ≡ false) (map name_of (cond b (e ∷ filter (λ x. bytes_eq folder x.0.0) es) (filter (λ x. bytes_eq folder x.0.0) es)))
    more true is rest = (second (bytes_eq k.0 e.0.0) (bytes_eq k.1 e.0.1) (same_folder folder k.0 e.0.0 here is) apart.0, rest)
    more false is rest = rest

once : (folder : List ℕ) (es : List (Key × List ℕ)) → IsDistinct same_key (keys_of es) → IsDistinct bytes_eq (names_in folder es)
unfolding IsDistinct
once folder [] apart = tt
once folder (e ∷ es) apart = more (bytes_eq folder e.0.0) refl (once folder es apart.1)
  where
    more : (b : Bool) → bytes_eq folder e.0.0 ≡ b → IsDistinct bytes_eq (names_in folder es) → IsDistinct bytes_eq (map name_of (cond b (e ∷ filter (λ x. bytes_eq folder x.0.0) es) (filter (λ x. bytes_eq folder x.0.0) es)))
    more true is rest = (apart_names folder e.0 es is apart.0, rest)
    more false is rest = rest

one_name : (b c : Bool) (v : List ℕ) (among : Bool) (found : Option (List ℕ)) → among ≡ is_some found → cond b (c || among) among ≡ is_some (cond (b && c) (Some v) found)
one_name true true v among found h = refl
one_name true false v among found h = h
one_name false c v among found h = h

among_more : (b : Bool) (n : List ℕ) (e : Key × List ℕ) (rest : List (Key × List ℕ)) → list_any (bytes_eq n) (map name_of (cond b (e ∷ rest) rest)) ≡ cond b (bytes_eq n e.0.1 || list_any (bytes_eq n) (map name_of rest)) (list_any (bytes_eq n) (map name_of rest))
among_more true n e rest = refl
among_more false n e rest = refl

among : (folder n : List ℕ) (es : List (Key × List ℕ)) → list_any (bytes_eq n) (names_in folder es) ≡ is_some (lookup (same_key (folder, n)) es)
among folder n [] = refl
among folder n (e ∷ es) =
    among_more (bytes_eq folder e.0.0) n e (filter (λ x. bytes_eq folder x.0.0) es)
    ∙ one_name (bytes_eq folder e.0.0) (bytes_eq n e.0.1) e.1 _ _ (among folder n es)

pub lists_names : (folder : List ℕ) (es : List (Key × List ℕ)) → AreOrdered es → Lists (held_by es) folder (names_in folder es)
lists_names folder es s = record { once = once folder es (ordered_distinct es s); all = λ n. among folder n es }
