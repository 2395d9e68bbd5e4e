-- The places of named types that a name reaches, and of those that reach one of some names.
use Rattle.std.proofs.Common.{◌≡◌, ℕ, zero, suc, ◌<◌, ◌≤◌, ◌⊎◌, inl, inr, List, [], ◌∷◌, Bool, true, false, length, get_or, Option, Some, None, Contains, refl, sym, ap, subst, ◌∙◌, arith}
use Rattle.std.specs.Prelude.{◌↔◌, is_some, unwrap_or, IsTrue}
use Rattle.std.specs.List.{list_any, cons_option, slice_get}
use Rattle.std.specs.Map.{keys_of, values_of}
use Rattle.std.proofs.lemmas.List.Folds.{list_any_at}
use Rattle.std.proofs.lemmas.List.Quantifiers.{position-Some}
use Rattle.std.proofs.lemmas.Map.Entries.{length-keys_of, length-values_of}
use Rattle.std.proofs.lemmas.Map.Made.{is_some-lookup}
use Rattle.std.proofs.lemmas.Option.{slice_get_within, slice_get-get_or}
use Rattle.indexmap.proofs.MapLemmas.{some_index}
use Rattle.mig_model.specs.Family.{Family, body, find_type, is_named}
use Rattle.mig_model.specs.Names.{has_twice, same_name}
use Rattle.mig_model.specs.Template as model
use Rattle.mig_model.specs.Template.{any}
use Rattle.mig_schema.specs.Reach.{points, places, Reaches, itself, onward, Uses, AreUsers, ReachesSome, ArePlacesReached, ArePlacesReaching}
use Rattle.mig_schema.specs.Types.{Named, type_place}
use Rattle.mig_schema.proofs.Inserted.{none_in_nil, is_first, is_later, first_or_later}
use Rattle.mig_schema.proofs.Searched.{Leads, stays, along, turned, Searched, found_if_led}
use Rattle.mig_schema.proofs.Types.{found_here, found_later, is_some_find, same_name_laws, none_if_not_some}
use Rattle.mig_model.proofs.SameNames.{same_name_is}
use Rattle.mig_model.proofs.Bools.{first_false, second_false}

-- ---- places of names

place_among : (ts : List Named) (ns : List (List ℕ)) (q : ℕ) → Contains (places ts ns) q → (m : List ℕ) × (Contains ns m × (type_place ts m ≡ Some q))
place_among ts [] q h = absurd (none_in_nil q h)
place_among ts (n ∷ ns) q h = by (type_place ts n) refl h (place_among ts ns q)
  where
    more : (m : List ℕ) × (Contains ns m × (type_place ts m ≡ Some q)) → (m : List ℕ) × (Contains (n ∷ ns) m × (type_place ts m ≡ Some q))
    more g = (g.0, (is_later n ns g.0 g.1.0, g.1.1))

    by : (o : Option ℕ) → type_place ts n ≡ o → Contains (cons_option o (places ts ns)) q → (Contains (places ts ns) q → (m : List ℕ) × (Contains ns m × (type_place ts m ≡ Some q)))
        → (m : List ℕ) × (Contains (n ∷ ns) m × (type_place ts m ≡ Some q))
    by None e c rest = more (rest c)
    by (Some p) e c rest = at (first_or_later p (places ts ns) q c)
      where
        at : (p ≡ q) ⊎ Contains (places ts ns) q → (m : List ℕ) × (Contains (n ∷ ns) m × (type_place ts m ≡ Some q))
        at (inl s) = (n, (is_first n ns, e ∙ ap Some s))
        at (inr d) = more (rest d)

among_places : (ts : List Named) (ns : List (List ℕ)) (m : List ℕ) (q : ℕ) → Contains ns m → type_place ts m ≡ Some q → Contains (places ts ns) q
among_places ts [] m q h e = absurd (none_in_nil m h)
among_places ts (n ∷ ns) m q h e = by (first_or_later n ns m h) (λ c. among_places ts ns m q c e)
  where
    later : (o : Option ℕ) → Contains (places ts ns) q → Contains (cons_option o (places ts ns)) q
    later None c = c
    later (Some p) c = is_later p (places ts ns) q c

    by : (n ≡ m) ⊎ Contains ns m → (Contains ns m → Contains (places ts ns) q) → Contains (places ts (n ∷ ns)) q
    by (inl s) rest = subst (λ o. Contains (cons_option o (places ts ns)) q) (sym (ap (type_place ts) s ∙ e)) (is_first q (places ts ns))
    by (inr c) rest = later (type_place ts n) (rest c)

-- ---- names and bodies at places

abbrev pub name_in : List Named → ℕ → List ℕ
name_in ts p = get_or (keys_of ts) p []

placed : (ts : List Named) (n : List ℕ) (p : ℕ) → type_place ts n ≡ Some p → (p < length ts) × (name_in ts p ≡ n)
placed ts n p e =
    let at = position-Some (same_name n) (keys_of ts) p [] e in
    (omega (arith, at.0, length-keys_of ts), sym (same_name_is n (name_in ts p) at.1))

body_placed : (ts : List Named) (p : ℕ) (V : model.Template) → has_twice (keys_of ts) ≡ false → slice_get (values_of ts) p ≡ Some V → find_type (name_in ts p) ts ≡ Some V
body_placed [] p V h e = absurd cc
body_placed (t ∷ ts) zero V h e = found_here t.0 t ts (same_name_laws.refl t.0) ∙ e
body_placed (t ∷ ts) (suc p) V h e =
    let inside : p < length ts = omega (arith, slice_get_within (values_of ts) p V e, length-values_of ts) in
    by (same_name (name_in ts p) t.0) refl inside (body_placed ts p V (second_false (list_any (same_name t.0) (keys_of ts)) (has_twice (keys_of ts)) h) e)
  where
    by : (b : Bool) → same_name (name_in ts p) t.0 ≡ b → p < length ts → find_type (name_in ts p) ts ≡ Some V → find_type (name_in ts p) (t ∷ ts) ≡ Some V
    by false q l rest = found_later (name_in ts p) t ts q ∙ rest
    by true q l rest =
        let twice : list_any (same_name t.0) (keys_of ts) ≡ true = list_any_at (same_name t.0) (keys_of ts) p [] (omega (arith, l, length-keys_of ts)) (same_name_laws.symm t.0 (name_in ts p) ∙ q) in
        let once : list_any (same_name t.0) (keys_of ts) ≡ false = first_false (list_any (same_name t.0) (keys_of ts)) (has_twice (keys_of ts)) h in
        absurd cc

no_place : (ts : List Named) (n : List ℕ) → type_place ts n ≡ None → is_some (find_type n ts) ≡ false
no_place ts n e = is_some_find n ts ∙ sym (is_some-lookup (same_name n) ts) ∙ sym (some_index (same_name n) ts) ∙ ap is_some e

pub place_is_some : (ts : List Named) (n : List ℕ) → is_some (find_type n ts) ≡ true → is_some (type_place ts n) ≡ true
place_is_some ts n h = some_index (same_name n) ts ∙ is_some-lookup (same_name n) ts ∙ sym (is_some_find n ts) ∙ h

-- ---- edges between places, and reach between names

pub place_below : (ts : List Named) (ns : List (List ℕ)) (q : ℕ) → Contains (places ts ns) q → q < length ts
place_below ts ns q c = let g = place_among ts ns q c in (placed ts g.0 q g.1.1).0

pub used_below : (ts : List Named) (p q : ℕ) → Uses ts p q → q < length ts
used_below ts p q (V, is, c) = place_below ts (points V) q c

pub user_below : (ts : List Named) (p q : ℕ) → Uses ts p q → p < length ts
user_below ts p q (V, is, c) = omega (arith, slice_get_within (values_of ts) p V is, length-values_of ts)

-- what the points in the body at a place name is what uses lead to from there
pub uses_of_body : (ts : List Named) (p : ℕ) (V : model.Template) → slice_get (values_of ts) p ≡ Some V → (q : ℕ) → Contains (places ts (points V)) q ↔ Uses ts p q
uses_of_body ts p V is q = (λ c. (V, is, c), λ u. let same : Some u.0 ≡ Some V = sym u.1 ∙ is in let at : u.0 ≡ V = cc in subst (λ W. Contains (places ts (points W)) q) at u.2)

-- the users of a type are what uses lead to, turned
pub users_at : (ts : List Named) (users : List (List ℕ)) → AreUsers ts (length ts) users → (q p : ℕ) → Contains (get_or users q []) p ↔ Uses ts p q
users_at ts users are q p = (λ c. ((are.all p q).0 c).1, λ u. (are.all p q).1 (user_below ts p q u, u))

module _ (f : Family) (once : has_twice (keys_of f.types) ≡ false) where
  body_is : (p : ℕ) (V : model.Template) → slice_get (values_of f.types) p ≡ Some V → body f (name_in f.types p) ≡ V
  body_is p V is = ap (λ o. unwrap_or o any) (body_placed f.types p V once is)

  reaches_if_led : {p q : ℕ} → Leads (Uses f.types) p q → Reaches f (name_in f.types p) (name_in f.types q)
  reaches_if_led stays = itself
  reaches_if_led (along {p = p} {q = q} {r = r} (V, is, c) l) =
      let g = place_among f.types (points V) q c in
      let at = placed f.types g.0 q g.1.1 in
      onward (subst (λ W. Contains (points W) g.0) (sym (body_is p V is)) g.1.0) (subst (λ n. Reaches f n (name_in f.types r)) at.1 (reaches_if_led l))

  -- a name whose body has a point is a named type
  used_if_pointed : (a m : List ℕ) (q : ℕ) → Contains (points (body f a)) m → type_place f.types m ≡ Some q → (p : ℕ) × ((type_place f.types a ≡ Some p) × Uses f.types p q)
  used_if_pointed a m q c e = by (type_place f.types a) refl
    where
      by : (o : Option ℕ) → type_place f.types a ≡ o → (p : ℕ) × ((type_place f.types a ≡ Some p) × Uses f.types p q)
      by None g =
          let nothing : find_type a f.types ≡ None = none_if_not_some (find_type a f.types) true (no_place f.types a g) refl in
          absurd (none_in_nil m (subst (λ o. Contains (points (unwrap_or o any)) m) nothing c))
      by (Some p) g =
          let at = placed f.types a p g in
          let V = get_or (values_of f.types) p any in
          let inside : p < length (values_of f.types) = omega (arith, at.0, length-values_of f.types) in
          let is : slice_get (values_of f.types) p ≡ Some V = slice_get-get_or (values_of f.types) p any inside in
          let named : body f a ≡ V = ap (body f) (sym at.1) ∙ body_is p V is in
          (p, (g, (V, is, among_places f.types (points V) m q (subst (λ W. Contains (points W) m) named c) e)))

  led_if_reaches : {a k : List ℕ} → Reaches f a k → (q : ℕ) → type_place f.types k ≡ Some q → (p : ℕ) × ((type_place f.types a ≡ Some p) × Leads (Uses f.types) p q)
  led_if_reaches itself q e = (q, (e, stays))
  led_if_reaches (onward {n = a} {m = m} c r) q e =
      let g = led_if_reaches r q e in
      let u = used_if_pointed a m g.0 c g.1.0 in
      (u.0, (u.1.0, along u.1.1 g.1.1))

  named_if_placed : (n : List ℕ) (p : ℕ) → type_place f.types n ≡ Some p → IsTrue (is_named f n)
  named_if_placed n p e = is_some_find n f.types ∙ sym (is_some-lookup (same_name n) f.types) ∙ sym (some_index (same_name n) f.types) ∙ ap is_some e

  place_if_named : (n : List ℕ) → IsTrue (is_named f n) → (p : ℕ) × (type_place f.types n ≡ Some p)
  place_if_named n h = by (type_place f.types n) refl (place_is_some f.types n h)
    where
      by : (o : Option ℕ) → type_place f.types n ≡ o → is_some o ≡ true → (p : ℕ) × (type_place f.types n ≡ Some p)
      by None e s = absurd cc
      by (Some p) e s = (p, e)

  pub are_reached : (from : List ℕ) (found : List ℕ) (n : ℕ) → Searched (Uses f.types) (places f.types (from ∷ [])) found n → length found ≤ n → ArePlacesReached f from found
  are_reached from found n s all = λ to q is. (there to q is, back to q is)
    where
      is_from : (m : List ℕ) → (from ≡ m) ⊎ Contains [] m → from ≡ m
      is_from m (inl e) = e
      is_from m (inr c) = absurd (none_in_nil m c)

      there : (to : List ℕ) (q : ℕ) → type_place f.types to ≡ Some q → Contains found q → Reaches f from to
      there to q is c =
          let led = s.led q c in
          let g = place_among f.types (from ∷ []) led.0 led.1.0 in
          let start : name_in f.types led.0 ≡ from = (placed f.types g.0 led.0 g.1.1).1 ∙ sym (is_from g.0 (first_or_later from [] g.0 g.1.0)) in
          subst (λ n. Reaches f n to) start (subst (Reaches f (name_in f.types led.0)) (placed f.types to q is).1 (reaches_if_led led.1.1))

      back : (to : List ℕ) (q : ℕ) → type_place f.types to ≡ Some q → Reaches f from to → Contains found q
      back to q is r =
          let g = led_if_reaches r q is in
          found_if_led (Uses f.types) (places f.types (from ∷ [])) found n s all g.0 q (among_places f.types (from ∷ []) from g.0 (is_first from []) g.1.0) g.1.1

  pub are_reaching : (names : List (List ℕ)) (found : List ℕ) (n : ℕ) → Searched (λ q p. Uses f.types p q) (places f.types names) found n → length found ≤ n → ArePlacesReaching f names found
  are_reaching names found n s all = λ from q is. (there from q is, back from q is)
    where
      there : (from : List ℕ) (q : ℕ) → type_place f.types from ≡ Some q → Contains found q → ReachesSome f from names
      there from q is c =
          let led = s.led q c in
          let g = place_among f.types names led.0 led.1.0 in
          let way = reaches_if_led (turned {Edge = Uses f.types} led.1.1) in
          let ends = subst (Reaches f (name_in f.types q)) (placed f.types g.0 led.0 g.1.1).1 way in
          (g.0, g.1.0, named_if_placed g.0 led.0 g.1.1, subst (λ n. Reaches f n g.0) (placed f.types from q is).1 ends)

      back : (from : List ℕ) (q : ℕ) → type_place f.types from ≡ Some q → ReachesSome f from names → Contains found q
      back from q is (to, among, named, r) =
          let p = place_if_named to named in
          let g = led_if_reaches r p.0 p.1 in
          let same : g.0 ≡ q = (let two : Some g.0 ≡ Some q = sym g.1.0 ∙ is in cc) in
          let way = turned {Edge = λ a b. Uses f.types b a} (subst (λ (x : ℕ). Leads (Uses f.types) x p.0) same g.1.1) in
          found_if_led (λ a b. Uses f.types b a) (places f.types names) found n s all p.0 q (among_places f.types names to p.0 among p.1) way
