-- A search that goes on from each place that it has found, one after the other, finds exactly the places that its starts lead to.
use Rattle.std.proofs.Common.{◌≡◌, ℕ, ◌+◌, ◌<◌, ◌≤◌, ◌⊎◌, inl, inr, List, [], nat_eq, length, get_or, Contains, sym, ap, subst, ◌∙◌, arith}
use Rattle.std.specs.Prelude.{◌↔◌}
use Rattle.std.specs.List.{IsDistinct}
use borrow.Author.Tests.{eqb-true}
use Rattle.std.proofs.lemmas.List.{get_or_append_left, get_or_default}
use Rattle.std.proofs.lemmas.List.Elements.{Contains-get_or}
use Rattle.std.proofs.lemmas.Bool.{cases_lt}
use Rattle.std.proofs.lemmas.Map.Steps.{length-le_from_distinct_below}
use Rattle.indexmap.specs.IndexSet.{insert_all}
use Rattle.indexmap.proofs.CallerLemmas.{Contains-list_any}
use Rattle.mig_schema.proofs.Inserted.{none_in_nil, grown, inserted_old, inserted_new, inserted_cases}

-- the first place leads to the second, along none or more edges
pub data Leads (Edge : ℕ → ℕ → Type 0) : ℕ → ℕ → Type 0 where
  stays : {p : ℕ} → Leads Edge p p
  along : {p q r : ℕ} → Edge p q → Leads Edge q r → Leads Edge p r

longer : {Edge : ℕ → ℕ → Type 0} {p q r : ℕ} → Leads Edge p q → Edge q r → Leads Edge p r
longer stays e = along e stays
longer (along d l) e = along d (longer l e)

-- the way back, along the edges turned
pub turned : {Edge : ℕ → ℕ → Type 0} {p q : ℕ} → Leads (λ a b. Edge b a) p q → Leads Edge q p
turned stays = stays
turned (along d l) = longer (turned l) d

-- all starts are found, the starts lead to all that is found, and what the first n lead to at once is found
pub record Searched (Edge : ℕ → ℕ → Type 0) (starts found : List ℕ) (n : ℕ) : Type 0 where
  pub start : (q : ℕ) → Contains starts q → Contains found q
  pub led : (q : ℕ) → Contains found q → (p : ℕ) × (Contains starts p × Leads Edge p q)
  pub visited : (k : ℕ) → k < n → (q : ℕ) → Edge (get_or found k 0) q → Contains found q

module _ (Edge : ℕ → ℕ → Type 0) (starts : List ℕ) where
  pub searched_start : (found : List ℕ) → found ≡ insert_all nat_eq [] starts → Searched Edge starts found 0
  searched_start found e = subst (λ l. Searched Edge starts l 0) (sym e) first
    where
      by : (q : ℕ) → Contains [] q ⊎ Contains starts q → (p : ℕ) × (Contains starts p × Leads Edge p q)
      by q (inl c) = absurd (none_in_nil q c)
      by q (inr c) = (q, (c, stays))

      first : Searched Edge starts (insert_all nat_eq [] starts) 0
      first = record { start = λ q c. inserted_new [] starts q c; led = λ q c. by q (inserted_cases [] starts q c); visited = λ k l. absurd (omega arith) }

  module _ (found : List ℕ) (n : ℕ) (s : Searched Edge starts found n) where
    pub searched_more : (next new : List ℕ) → n < length found → ((q : ℕ) → Contains next q ↔ Edge (get_or found n 0) q) → new ≡ insert_all nat_eq found next → Searched Edge starts new (n + 1)
    searched_more next new l edges e = subst (λ ks. Searched Edge starts ks (n + 1)) (sym e) more
      where
        kept_at : (k : ℕ) → k < length found → get_or (insert_all nat_eq found next) k 0 ≡ get_or found k 0
        kept_at k b = let g = grown found next in ap (λ ks. get_or ks k 0) g.1 ∙ get_or_append_left found g.0 0 k b

        led_there : (q : ℕ) → Contains found q ⊎ Contains next q → (p : ℕ) × (Contains starts p × Leads Edge p q)
        led_there q (inl c) = s.led q c
        led_there q (inr c) =
            let here = s.led (get_or found n 0) (Contains-get_or found n 0 l) in
            (here.0, (here.1.0, longer here.1.1 ((edges q).0 c)))

        visited_there : (k : ℕ) → (k < n) ⊎ (n ≤ k) → k < n + 1 → (q : ℕ) → Edge (get_or found k 0) q → Contains (insert_all nat_eq found next) q
        visited_there k (inl b) h q c = inserted_old found next q (s.visited k b q c)
        visited_there k (inr b) h q c =
            let last : k ≡ n = omega arith in
            inserted_new found next q ((edges q).1 (subst (λ (j : ℕ). Edge (get_or found j 0) q) last c))

        more : Searched Edge starts (insert_all nat_eq found next) (n + 1)
        more =
            record {
              start = λ q c. inserted_old found next q (s.start q c);
              led = λ q c. led_there q (inserted_cases found next q c);
              visited = λ k h q c. let b : k < length found = omega arith in visited_there k (cases_lt k n) h q (subst (λ (p : ℕ). Edge p q) (kept_at k b) c);
            }

    -- where starts and edges stay below a number, so does all that is found
    module _ (m : ℕ) (starts_below : (q : ℕ) → Contains starts q → q < m) (edges_below : (p q : ℕ) → Edge p q → q < m) where
      leads_below : {p q : ℕ} → Leads Edge p q → p < m → q < m
      leads_below stays b = b
      leads_below (along {p = p} {q = q} e l) b = leads_below l (edges_below p q e)

      pub found_below : (q : ℕ) → Contains found q → q < m
      found_below q c = let g = s.led q c in leads_below g.1.1 (starts_below g.0 g.1.0)

      pub found_at_most : IsDistinct nat_eq found → length found ≤ m
      found_at_most d = length-le_from_distinct_below found m d (λ q h. found_below q (Contains-list_any nat_eq (λ a b. eqb-true a b) found q h))

    carried : length found ≤ n → {p q : ℕ} → Leads Edge p q → Contains found p → Contains found q
    carried l stays c = c
    carried l (along {p = p} {q = m} e r) c =
        carried l r (s.visited c.0 (omega (arith, l, c.1)) m (subst (λ (x : ℕ). Edge x m) (sym (get_or_default found c.0 0 p c.1 ∙ c.2)) e))

    pub found_if_led : length found ≤ n → (p q : ℕ) → Contains starts p → Leads Edge p q → Contains found q
    found_if_led l p q c r = carried l r (s.start p c)
