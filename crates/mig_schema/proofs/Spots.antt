-- A change under one name of a map, and what a path of names leads to.
use Rattle.std.proofs.Common.{◌≡◌, ◌<◌, ℕ, length, arith, List, [], ◌∷◌, Bool, true, false, Option, Some, None, refl, sym, ap, subst, ◌∙◌}
use Rattle.std.specs.Prelude.{◌==◌, IsSome, is_some, option_and_then, if◌then◌else◌}
use Rattle.std.specs.declared.cmp.Ordering.{Ordering}
use Rattle.std.specs.declared.cmp.Ordering.TheVariants.{Less, Equal, Greater}
use Rattle.std.specs.Map.{keys_of}
use Rattle.std.specs.BTreeMap.{is_at}
use Rattle.std.proofs.lemmas.Bool.Decides.{nat_tests}
use Rattle.std.proofs.lemmas.Cmp.{nat_list_cmp_total, tied_itself}
use Rattle.std.proofs.lemmas.Map.{lookup-none}
use Rattle.std.proofs.lemmas.Map.Entries.{none_below_head}
use Rattle.std.specs.List.{AllByRecursion}
use Rattle.std.proofs.lemmas.Map.Keys.{sorted_head, sorted_tail}
use Rattle.mig_model.specs.Plain as plain
use Rattle.mig_model.specs.Plain.{Plain, Pairs, no_pair, pair, pairs_of, entries, on_entries, each_entry}
use Rattle.mig_model.specs.Family.{last_name}
use Rattle.mig_model.specs.Kinds.{IsMap, get_in, removed, entries_of_pairs}
use Rattle.mig_model.specs.Version.{map_entries, spot, on_spot, version_in, strip}
use Rattle.mig_model.specs.Names.{by_bytes, without, Ascends, put, under, same_name}
use Rattle.mig_model.specs.Inhabits.{Entries}

abbrev at_name : List ℕ → (Plain → Plain) → List ℕ → Plain → Plain
at_name x g n t = if same_name x n then g t else t

-- ---- one pair of a map

pub with_again : (x : List ℕ) (a b : Plain) (es : Entries) → put x a (put x b es) ≡ put x a es
with_again x a b [] = rw (tied_itself nat_list_cmp_total x) refl
with_again x a b (e ∷ es) = by (by_bytes x e.0) refl (with_again x a b es)
  where
    by : (r : Ordering) → by_bytes x e.0 ≡ r → put x a (put x b es) ≡ put x a es → put x a (put x b (e ∷ es)) ≡ put x a (e ∷ es)
    by Less q rest = rw q (rw (tied_itself nat_list_cmp_total x) refl)
    by Equal q rest = rw q (rw q refl)
    by Greater q rest = rw q (rw q (ap (λ l. e ∷ l) rest))

pub found_with : (x : List ℕ) (a : Plain) (es : Entries) → under x (put x a es) ≡ Some a
found_with x a [] = rw (tied_itself nat_list_cmp_total x) refl
found_with x a (e ∷ es) = by (by_bytes x e.0) refl (found_with x a es)
  where
    by : (r : Ordering) → by_bytes x e.0 ≡ r → under x (put x a es) ≡ Some a → under x (put x a (e ∷ es)) ≡ Some a
    by Less q rest = rw q (rw (tied_itself nat_list_cmp_total x) refl)
    by Equal q rest = rw q (rw q refl)
    by Greater q rest = rw q (rw q rest)

-- where the name isn't there, nothing changes
pub change_none : (x : List ℕ) (g : Plain → Plain) (es : Entries) → under x es ≡ None → each_entry (at_name x g) es ≡ es
change_none x g [] h = refl
change_none x g (e ∷ es) h = by (by_bytes x e.0) refl h (change_none x g es)
  where
    by : (r : Ordering) → by_bytes x e.0 ≡ r → under x (e ∷ es) ≡ None → (under x es ≡ None → each_entry (at_name x g) es ≡ es) → each_entry (at_name x g) (e ∷ es) ≡ e ∷ es
    by Less q k rest = rw q (ap (λ l. e ∷ l) (rest (rw q at k)))
    by Equal q k rest = absurd (let never : Some e.1 ≡ None = rw q at k in cc)
    by Greater q k rest = rw q (ap (λ l. e ∷ l) (rest (rw q at k)))

-- a name stands once among those that ascend
none_behind : (x k : List ℕ) → by_bytes x k ≡ Equal → (es : Entries) → AllByRecursion (λ y. by_bytes k y ≡ Less) (keys_of es) → under x es ≡ None
none_behind x k q [] h = refl
none_behind x k q (e ∷ es) h = rw (nat_list_cmp_total.congr x k e.0 q ∙ h.0) (none_behind x k q es h.1)

-- where it is there, its tree changes
pub change_one : (x : List ℕ) (g : Plain → Plain) (es : Entries) (u : Plain) → Ascends es → under x es ≡ Some u → each_entry (at_name x g) es ≡ put x (g u) es
change_one x g [] u s h = absurd cc
change_one x g (e ∷ es) u s h = by (by_bytes x e.0) refl h (change_one x g es u (sorted_tail by_bytes e.0 (keys_of es) s))
  where
    by : (r : Ordering) → by_bytes x e.0 ≡ r → under x (e ∷ es) ≡ Some u → (under x es ≡ Some u → each_entry (at_name x g) es ≡ put x (g u) es) → each_entry (at_name x g) (e ∷ es) ≡ put x (g u) (e ∷ es)
    by Less q k rest = let none = lookup-none (is_at (by_bytes x)) (e ∷ es) (none_below_head nat_list_cmp_total x e es s q) in absurd (let never : None ≡ Some u = sym none ∙ k in cc)
    by Equal q k rest =
        let is : Some e.1 ≡ Some u = rw q at k in
        let same : e.1 ≡ u = cc in
        let stay : each_entry (at_name x g) es ≡ es = change_none x g es (none_behind x e.0 q es (sorted_head by_bytes e.0 (keys_of es) s)) in
        rw q (λ i. (e.0, g (same i)) ∷ stay i)
    by Greater q k rest = rw q (ap (λ l. e ∷ l) (rest (rw q at k)))

-- what stays itself stays
same_again : (x : List ℕ) (es : Entries) → each_entry (at_name x (λ t. t)) es ≡ es
same_again x [] = refl
same_again x (e ∷ es) = by (same_name x e.0) (same_again x es)
  where
    by : (b : Bool) → each_entry (at_name x (λ t. t)) es ≡ es → (e.0, (if b then e.1 else e.1)) ∷ each_entry (at_name x (λ t. t)) es ≡ e ∷ es
    by true rest = ap (λ l. e ∷ l) rest
    by false rest = ap (λ l. e ∷ l) rest

-- a tree that is put where it stands changes nothing
pub with_same : (x : List ℕ) (es : Entries) (u : Plain) → Ascends es → under x es ≡ Some u → put x u es ≡ es
with_same x es u s h = sym (change_one x (λ t. t) es u s h) ∙ same_again x es

-- ---- a path of names, in a map whose pairs are es

abbrev pub at : Entries → Plain
at es = plain.map (pairs_of es)

spot_goes : (x y : List ℕ) (xs : List (List ℕ)) (t : Plain) (o : Option Plain) → get_in x t ≡ o → spot (x ∷ y ∷ xs) t ≡ option_and_then (spot (y ∷ xs)) o
spot_goes x y xs t o h = ap (option_and_then (spot (y ∷ xs))) h

-- one name: the tree under it
pub version_here : (x : List ℕ) (t : Plain) → version_in (x ∷ []) t ≡ get_in x t
version_here x (plain.map ps) = refl
version_here x _ = refl

-- more names: what they lead to in the tree under the first
pub version_inside : (x : List ℕ) (xs : List (List ℕ)) (t u : Plain) → 0 < length xs → get_in x t ≡ Some u → version_in (x ∷ xs) t ≡ version_in xs u
version_inside x [] t u l h = absurd (omega arith)
version_inside x (y ∷ xs) t u l h = ap (λ o. option_and_then (under (last_name (y ∷ xs))) o) (spot_goes x y xs t (Some u) h)

pub version_absent : (x : List ℕ) (xs : List (List ℕ)) (t : Plain) → get_in x t ≡ None → version_in (x ∷ xs) t ≡ None
version_absent x [] t h = version_here x t ∙ h
version_absent x (y ∷ xs) t h = ap (λ o. option_and_then (under (last_name (y ∷ xs))) o) (spot_goes x y xs t None h)

-- what is done to the spot behind a name is done to the tree under that name
pub spot_inside : (f : Plain → Plain) (x : List ℕ) (xs : List (List ℕ)) (es : Entries) (u : Plain) → Ascends es → 0 < length xs → under x es ≡ Some u → at (put x (on_spot f xs u) es) ≡ on_spot f (x ∷ xs) (at es)
spot_inside f x [] es u s l h = absurd (omega arith)
spot_inside f x (y ∷ xs) es u s l h = ap at (sym (change_one x (on_spot f (y ∷ xs)) es u s h)) ∙ ap (λ l. at (each_entry (at_name x (on_spot f (y ∷ xs))) l)) (sym (entries_of_pairs es))

pub spot_absent : (f : Plain → Plain) (x : List ℕ) (xs : List (List ℕ)) (es : Entries) → 0 < length xs → under x es ≡ None → at es ≡ on_spot f (x ∷ xs) (at es)
spot_absent f x [] es l h = absurd (omega arith)
spot_absent f x (y ∷ xs) es l h = ap at (sym (change_none x (on_spot f (y ∷ xs)) es h)) ∙ ap (λ l. at (each_entry (at_name x (on_spot f (y ∷ xs))) l)) (sym (entries_of_pairs es))

pub taken : (x : List ℕ) (u v : Plain) (es ds : Entries) → under x es ≡ Some u → ds ≡ (if is_some (under x es) then put x v es else es) → ds ≡ put x v es
taken x u v es ds h d = d ∙ ap (λ o. if is_some o then put x v es else es) h

-- a map from which a tree was taken, and into which it is put again
pub put_again : (x : List ℕ) (u v w : Plain) (es ds bs : Entries) → under x es ≡ Some u → ds ≡ (if is_some (under x es) then put x v es else es) → bs ≡ put x w ds → bs ≡ put x w es
put_again x u v w es ds bs h d b = b ∙ ap (put x w) (taken x u v es ds h d) ∙ with_again x w v es

pub still_there : (x : List ℕ) (u v : Plain) (es ds : Entries) → under x es ≡ Some u → ds ≡ (if is_some (under x es) then put x v es else es) → is_some (under x ds) ≡ true
still_there x u v es ds h d = ap (λ l. is_some (under x l)) (taken x u v es ds h d) ∙ ap is_some (found_with x v es)

pub nothing_taken : (x : List ℕ) (v : Plain) (es ds : Entries) → under x es ≡ None → ds ≡ (if is_some (under x es) then put x v es else es) → ds ≡ es
nothing_taken x v es ds h d = d ∙ ap (λ o. if is_some o then put x v es else es) h

-- ---- the steps of a walk along a path, whose names are x and the rest
module _ (names : List (List ℕ)) (x : List ℕ) (rest : List (List ℕ)) (t : Plain) (es : Entries) (path : names ≡ x ∷ rest) (tree : t ≡ at es) where
  get_is : get_in x t ≡ under x es
  get_is = ap (get_in x) tree ∙ ap (under x) (entries_of_pairs es)

  pub version_one : (o : Option Plain) → rest ≡ [] → o ≡ under x es → o ≡ version_in names t
  version_one o last h = h ∙ sym get_is ∙ sym (version_here x t) ∙ ap (λ xs. version_in (x ∷ xs) t) (sym last) ∙ ap (λ xs. version_in xs t) (sym path)

  pub version_none : under x es ≡ None → None ≡ version_in names t
  version_none h = sym (ap (λ xs. version_in xs t) path ∙ version_absent x rest t (get_is ∙ h))

  pub version_more : (o : Option Plain) (u : Plain) → 0 < length rest → under x es ≡ Some u → o ≡ version_in rest u → o ≡ version_in names t
  version_more o u l h is = is ∙ sym (version_inside x rest t u l (get_is ∙ h)) ∙ ap (λ xs. version_in xs t) (sym path)

  pub strip_one : rest ≡ [] → at (without x es) ≡ strip names t
  strip_one last =
      ap (λ l. at (without x l)) (sym (entries_of_pairs es))
      ∙ ap (removed x) (sym tree)
      ∙ ap (λ xs. strip (x ∷ xs) t) (sym last) ∙ ap (λ xs. strip xs t) (sym path)

  pub spot_none : (f : Plain → Plain) → 0 < length rest → under x es ≡ None → at es ≡ on_spot f names t
  spot_none f l h = spot_absent f x rest es l h ∙ ap (on_spot f (x ∷ rest)) (sym tree) ∙ ap (λ xs. on_spot f xs t) (sym path)

  pub spot_more : (f : Plain → Plain) (u w : Plain) → Ascends es → 0 < length rest → under x es ≡ Some u → w ≡ on_spot f rest u → at (put x w es) ≡ on_spot f names t
  spot_more f u w s l h is =
      ap (λ v. at (put x v es)) is ∙ spot_inside f x rest es u s l h ∙ ap (on_spot f (x ∷ rest)) (sym tree) ∙ ap (λ xs. on_spot f xs t) (sym path)

  -- where there is a spot, the walk leads to it
  pub spot_found : 0 < length rest → IsSome (spot names t) → under x es ≡ None → ⊥
  spot_found l some h = never rest l (subst (λ xs. IsSome (spot xs t)) path some)
    where
      never : (xs : List (List ℕ)) → 0 < length xs → IsSome (spot (x ∷ xs) t) → ⊥
      never [] l some = absurd (omega arith)
      never (y ∷ xs) l some = let none : false ≡ true = ap is_some (sym (spot_goes x y xs t None (get_is ∙ h))) ∙ some in cc

  pub spot_behind : (u : Plain) → 0 < length rest → IsSome (spot names t) → under x es ≡ Some u → IsSome (spot rest u)
  spot_behind u l some h = behind rest l (subst (λ xs. IsSome (spot xs t)) path some)
    where
      behind : (xs : List (List ℕ)) → 0 < length xs → IsSome (spot (x ∷ xs) t) → IsSome (spot xs u)
      behind [] l some = absurd (omega arith)
      behind (y ∷ xs) l some = subst IsSome (spot_goes x y xs t (Some u) (get_is ∙ h)) some

  last_is : 0 < length rest → last_name rest ≡ last_name names
  last_is l = behind rest l ∙ ap last_name (sym path)
    where
      behind : (xs : List (List ℕ)) → 0 < length xs → last_name xs ≡ last_name (x ∷ xs)
      behind [] l = absurd (omega arith)
      behind (y ∷ xs) l = refl

  pub strip_none : 0 < length rest → under x es ≡ None → at es ≡ strip names t
  strip_none l h = spot_none (removed (last_name names)) l h

  pub strip_more : (u w : Plain) → Ascends es → 0 < length rest → under x es ≡ Some u → w ≡ strip rest u → at (put x w es) ≡ strip names t
  strip_more u w s l h is = spot_more (removed (last_name names)) u w s l h (is ∙ ap (λ n. on_spot (removed n) rest u) (last_is l))

pub no_rest : {A : Type 0} (xs : List A) (b : Bool) → b ≡ (length xs == 0) → b ≡ true → xs ≡ []
no_rest [] b e h = refl
no_rest (x ∷ xs) b e h = absurd (let never : true ≡ false = sym h ∙ e ∙ grind (arith, nat_tests) in cc)

pub some_rest : {A : Type 0} (xs : List A) (b : Bool) → b ≡ (length xs == 0) → b ≡ false → 0 < length xs
some_rest [] b e h = absurd (let never : true ≡ false = sym e ∙ h in cc)
some_rest (x ∷ xs) b e h = omega arith

-- a spot at the last name is a map
map_there : (t : Plain) → IsSome (map_entries t) → IsMap t
map_there (plain.map ps) h = tt
map_there t h = absurd (let never : false ≡ true = h in cc)

pub map_at_last : (names : List (List ℕ)) (x : List ℕ) (rest : List (List ℕ)) (t : Plain) → names ≡ x ∷ rest → rest ≡ [] → IsSome (spot names t) → IsMap t
map_at_last names x rest t path last some =
    map_there t (subst (λ xs. IsSome (spot (x ∷ xs) t)) last (subst (λ xs. IsSome (spot xs t)) path some))

pub done : (f : Plain → Plain) (names : List (List ℕ)) (x : List ℕ) (rest : List (List ℕ)) (t : Plain) → names ≡ x ∷ rest → rest ≡ [] → f t ≡ on_spot f names t
done f names x rest t path last = ap (λ xs. on_spot f (x ∷ xs) t) (sym last) ∙ ap (λ xs. on_spot f xs t) (sym path)

pub some_if_not_none : {A : Type 0} (o : Option A) → (o ≡ None → ⊥) → IsSome o
some_if_not_none None h = absurd (h refl)
some_if_not_none (Some x) h = refl
