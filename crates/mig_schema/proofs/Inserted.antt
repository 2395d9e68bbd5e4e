-- What a list of distinct numbers holds after others are inserted behind it.
use Rattle.std.proofs.Common.{◌≡◌, ℕ, zero, suc, ◌+◌, ◌<◌, ◌⊎◌, inl, inr, List, [], ◌∷◌, ◌++◌, Bool, true, false, nat_eq, Contains, refl, sym, ap, subst, ◌∙◌, arith}
use Rattle.std.specs.List.{list_any}
use borrow.Author.Tests.{eqb-true}
use Rattle.std.proofs.lemmas.List.{append-nil, append_assoc}
use Rattle.std.proofs.lemmas.List.Elements.{Contains-append_left, Contains-push_cases}
use Rattle.indexmap.specs.IndexSet.{insert_key, insert_all}
use Rattle.indexmap.proofs.CallerLemmas.{Contains-insert_key}

module _ {A : Type 0} where
  pub none_in_nil : (q : A) → Contains [] q → ⊥
  none_in_nil q h = omega (arith, h.1)

  pub is_first : (x : A) (xs : List A) → Contains (x ∷ xs) x
  is_first x xs = (0, omega arith, refl)

  pub is_later : (x : A) (xs : List A) (q : A) → Contains xs q → Contains (x ∷ xs) q
  is_later x xs q h = (suc h.0, omega (arith, h.1), h.2)

  pub first_or_later : (x : A) (xs : List A) (q : A) → Contains (x ∷ xs) q → (x ≡ q) ⊎ Contains xs q
  first_or_later x xs q (zero, l, e) = inl e
  first_or_later x xs q (suc k, l, e) = inr (k, omega (arith, l), e)

key_grown : (ks : List ℕ) (x : ℕ) → (more : List ℕ) × (insert_key nat_eq ks x ≡ ks ++ more)
key_grown ks x = by (list_any (nat_eq x) ks) refl
  where
    by : (b : Bool) → list_any (nat_eq x) ks ≡ b → (more : List ℕ) × (insert_key nat_eq ks x ≡ ks ++ more)
    by true e = ([], rw e (sym (append-nil ks)))
    by false e = (x ∷ [], rw e refl)

pub grown : (ks xs : List ℕ) → (more : List ℕ) × (insert_all nat_eq ks xs ≡ ks ++ more)
grown ks [] = ([], sym (append-nil ks))
grown ks (x ∷ xs) =
    let one = key_grown ks x in
    let rest = grown (insert_key nat_eq ks x) xs in
    (one.0 ++ rest.0, rest.1 ∙ ap (λ l. l ++ rest.0) one.1 ∙ append_assoc ks one.0 rest.0)

pub inserted_old : (ks xs : List ℕ) (q : ℕ) → Contains ks q → Contains (insert_all nat_eq ks xs) q
inserted_old ks xs q h = let g = grown ks xs in subst (λ l. Contains l q) (sym g.1) (Contains-append_left ks g.0 q h)

pub inserted_new : (ks xs : List ℕ) (q : ℕ) → Contains xs q → Contains (insert_all nat_eq ks xs) q
inserted_new ks [] q h = absurd (none_in_nil q h)
inserted_new ks (x ∷ xs) q h = by (first_or_later x xs q h) (inserted_new (insert_key nat_eq ks x) xs q)
  where
    by : (x ≡ q) ⊎ Contains xs q → (Contains xs q → Contains (insert_all nat_eq (insert_key nat_eq ks x) xs) q) → Contains (insert_all nat_eq (insert_key nat_eq ks x) xs) q
    by (inl e) rest = inserted_old (insert_key nat_eq ks x) xs q (subst (Contains (insert_key nat_eq ks x)) e (Contains-insert_key nat_eq (λ a b. eqb-true a b) ks x))
    by (inr c) rest = rest c

key_cases : (ks : List ℕ) (x q : ℕ) → Contains (insert_key nat_eq ks x) q → Contains ks q ⊎ (x ≡ q)
key_cases ks x q = by (list_any (nat_eq x) ks) refl
  where
    by : (b : Bool) → list_any (nat_eq x) ks ≡ b → Contains (insert_key nat_eq ks x) q → Contains ks q ⊎ (x ≡ q)
    by true e h = inl (rw e at h)
    by false e h = Contains-push_cases ks x q (rw e at h)

pub inserted_cases : (ks xs : List ℕ) (q : ℕ) → Contains (insert_all nat_eq ks xs) q → Contains ks q ⊎ Contains xs q
inserted_cases ks [] q h = inl h
inserted_cases ks (x ∷ xs) q h = by (inserted_cases (insert_key nat_eq ks x) xs q h)
  where
    first : Contains ks q ⊎ (x ≡ q) → Contains ks q ⊎ Contains (x ∷ xs) q
    first (inl c) = inl c
    first (inr e) = inr (subst (Contains (x ∷ xs)) e (is_first x xs))

    by : Contains (insert_key nat_eq ks x) q ⊎ Contains xs q → Contains ks q ⊎ Contains (x ∷ xs) q
    by (inl c) = first (key_cases ks x q c)
    by (inr c) = inr (is_later x xs q c)
