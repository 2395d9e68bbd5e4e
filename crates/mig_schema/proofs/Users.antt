-- The lists of the users of each type, as they are made: one body after the other, and for each body one list after the other.
use Rattle.std.proofs.Common.{◌≡◌, ℕ, zero, suc, ◌+◌, ◌<◌, ◌≤◌, ◌⊎◌, inl, inr, List, [], ◌∷◌, ◌++◌, length, get_or, Some, Contains, nat_eq, refl, sym, ap, subst, ◌∙◌, arith}
use Rattle.std.specs.Prelude.{◌↔◌}
use Rattle.std.specs.List.{slice_get}
use Rattle.std.specs.Map.{values_of}
use Rattle.std.proofs.Math.ListN.{set}
use Rattle.std.proofs.lemmas.Bool.{cases_lt}
use Rattle.std.proofs.lemmas.Grind.{get_or-set_at}
use Rattle.std.proofs.lemmas.List.{get_or-set_other, length-set, length-append}
use Rattle.std.proofs.lemmas.List.Elements.{Contains-append_left, Contains-push, Contains-push_cases}
use Rattle.indexmap.specs.IndexSet.{insert_all}
use Rattle.mig_model.specs.Template as model
use Rattle.mig_schema.specs.Reach.{points, places, Uses, AreEmpty, AreUsers, IsAddedToEach}
use Rattle.mig_schema.specs.Types.{Named}
use Rattle.mig_schema.proofs.Inserted.{none_in_nil, inserted_new, inserted_cases}
use Rattle.mig_schema.proofs.Reached.{uses_of_body}

pub none_added : (place : ℕ) (lists : List (List ℕ)) → IsAddedToEach [] place lists lists
none_added place lists = record { as_many = refl; all = λ p q. (λ c. inl c, λ e. by p q e) }
  where
    by : (p q : ℕ) → Contains (get_or lists q []) p ⊎ ((p ≡ place) × Contains [] q) → Contains (get_or lists q []) p
    by p q (inl c) = c
    by p q (inr e) = absurd (none_in_nil q e.1)

module _ (done : List ℕ) (list place : ℕ) (old now : List (List ℕ)) (s : IsAddedToEach done place old now) (l : list < length now) where
  abbrev more : List (List ℕ)
  more = set now list (get_or now list [] ++ place ∷ [])

  abbrev Put : ℕ → ℕ → Type 0
  Put p q = Contains (get_or old q []) p ⊎ ((p ≡ place) × Contains (done ++ list ∷ []) q)

  earlier : (p q : ℕ) → Contains (get_or now q []) p → Put p q
  earlier p q c = by ((s.all p q).0 c)
    where
      by : Contains (get_or old q []) p ⊎ ((p ≡ place) × Contains done q) → Put p q
      by (inl a) = inl a
      by (inr a) = inr (a.0, Contains-append_left done (list ∷ []) q a.1)

  here : (p : ℕ) → Contains (get_or now list [] ++ place ∷ []) p ↔ Put p list
  here p = (λ c. there (Contains-push_cases (get_or now list []) place p c), back)
    where
      there : Contains (get_or now list []) p ⊎ (place ≡ p) → Put p list
      there (inl c) = earlier p list c
      there (inr e) = inr (sym e, Contains-push done list)

      back : Put p list → Contains (get_or now list [] ++ place ∷ []) p
      back (inl c) = Contains-append_left (get_or now list []) (place ∷ []) p ((s.all p list).1 (inl c))
      back (inr e) = subst (Contains (get_or now list [] ++ place ∷ [])) (sym e.0) (Contains-push (get_or now list []) place)

  elsewhere : (p q : ℕ) → (q ≡ list → ⊥) → Contains (get_or now q []) p ↔ Put p q
  elsewhere p q other = (earlier p q, back)
    where
      back : Put p q → Contains (get_or now q []) p
      back (inl c) = (s.all p q).1 (inl c)
      back (inr e) = by (Contains-push_cases done list q e.1)
        where
          by : Contains done q ⊎ (list ≡ q) → Contains (get_or now q []) p
          by (inl c) = (s.all p q).1 (inr (e.0, c))
          by (inr same) = absurd (other (sym same))

  all_more : (p q : ℕ) → Contains (get_or more q []) p ↔ Put p q
  all_more p q = by (cases_lt q list) (cases_lt list q)
    where
      apart : (q ≡ list → ⊥) → Contains (get_or more q []) p ↔ Put p q
      apart other = subst (λ xs. Contains xs p ↔ Put p q) (sym (get_or-set_other now list q (get_or now list [] ++ place ∷ []) [] other)) (elsewhere p q other)

      by : (q < list) ⊎ (list ≤ q) → (list < q) ⊎ (q ≤ list) → Contains (get_or more q []) p ↔ Put p q
      by (inl a) b = apart (λ e. omega arith)
      by (inr a) (inl b) = apart (λ e. omega arith)
      by (inr a) (inr b) =
          let same : q ≡ list = omega arith in
          subst (λ (k : ℕ). Contains (get_or more k []) p ↔ Put p k) (sym same)
          (subst (λ xs. Contains xs p ↔ Put p list) (sym (get_or-set_at now list list (get_or now list [] ++ place ∷ []) [] refl l)) (here p))

  pub one_added : (new : List (List ℕ)) → new ≡ more → IsAddedToEach (done ++ list ∷ []) place old new
  one_added new e = subst (IsAddedToEach (done ++ list ∷ []) place old) (sym e) (record { as_many = length-set now list (get_or now list [] ++ place ∷ []) ∙ s.as_many; all = all_more })

-- ---- one body after the other

pub no_users : (ts : List Named) (lists : List (List ℕ)) → AreEmpty (length ts) lists → AreUsers ts 0 lists
no_users ts lists e = record { as_many = e.0; all = λ p q. (λ c. absurd (none_in_nil p (subst (λ xs. Contains xs p) (e.1 q) c)), λ u. absurd (omega (arith, u.0))) }

module _ (ts : List Named) (n : ℕ) (V : model.Template) (is : slice_get (values_of ts) n ≡ Some V) (used : List ℕ) (found : used ≡ insert_all nat_eq [] (places ts (points V))) where
  pub used_here : (q : ℕ) → Contains used q ↔ Contains (places ts (points V)) q
  used_here q = (λ c. by (inserted_cases [] (places ts (points V)) q (subst (λ l. Contains l q) found c)), λ c. subst (λ l. Contains l q) (sym found) (inserted_new [] (places ts (points V)) q c))
    where
      by : Contains [] q ⊎ Contains (places ts (points V)) q → Contains (places ts (points V)) q
      by (inl c) = absurd (none_in_nil q c)
      by (inr c) = c

  pub users_more : (old new : List (List ℕ)) → AreUsers ts n old → IsAddedToEach used n old new → AreUsers ts (n + 1) new
  users_more old new are s = record { as_many = s.as_many ∙ are.as_many; all = λ p q. (λ c. there p q ((s.all p q).0 c), λ u. (s.all p q).1 (back p q u.0 u.1 (cases_lt p n))) }
    where
      there : (p q : ℕ) → Contains (get_or old q []) p ⊎ ((p ≡ n) × Contains used q) → (p < n + 1) × Uses ts p q
      there p q (inl c) = let u = (are.all p q).0 c in (omega (arith, u.0), u.1)
      there p q (inr e) =
          let u : Uses ts n q = (uses_of_body ts n V is q).0 ((used_here q).0 e.1) in
          (omega (arith, e.0), subst (λ (k : ℕ). Uses ts k q) (sym e.0) u)

      back : (p q : ℕ) → p < n + 1 → Uses ts p q → (p < n) ⊎ (n ≤ p) → Contains (get_or old q []) p ⊎ ((p ≡ n) × Contains used q)
      back p q l u (inl b) = inl ((are.all p q).1 (b, u))
      back p q l u (inr b) =
          let same : p ≡ n = omega arith in
          inr (same, (used_here q).1 ((uses_of_body ts n V is q).1 (subst (λ (k : ℕ). Uses ts k q) same u)))

-- ---- lists with nothing in them

pub nothing_empty : (lists : List (List ℕ)) → lists ≡ [] → AreEmpty 0 lists
nothing_empty lists e = (ap length e, λ q. ap (λ l. get_or l q []) e)

pub one_more_empty : (n : ℕ) (old new : List (List ℕ)) (one : List ℕ) → new ≡ old ++ one ∷ [] → one ≡ [] → AreEmpty n old → AreEmpty (n + 1) new
one_more_empty n old new one e nothing are = (ap length e ∙ length-append old (one ∷ []) ∙ ap (λ (k : ℕ). k + 1) are.0, λ q. ap (λ l. get_or l q []) (e ∙ ap (λ x. old ++ x ∷ []) nothing) ∙ at old are.1 q)
  where
    at : (xs : List (List ℕ)) → ((q : ℕ) → get_or xs q [] ≡ []) → (q : ℕ) → get_or (xs ++ [] ∷ []) q [] ≡ []
    at [] h zero = refl
    at [] h (suc q) = refl
    at (x ∷ xs) h zero = h zero
    at (x ∷ xs) h (suc q) = at xs (λ k. h (suc k)) q
