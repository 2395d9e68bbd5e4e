-- Pairs have one order in which their names ascend, and `gathered` gives it.
use Rattle.std.proofs.Common.{◌≡◌, ℕ, zero, suc, ◌<◌, ◌||◌, ◌⊎◌, inl, inr, List, [], ◌∷◌, Bool, true, false, Option, Some, None, Ok, Err, length, get_or, refl, sym, ap, subst, ◌∙◌, arith}
use Rattle.std.specs.Prelude.{IsPermutation, is_some, Contains, slice_get, option_and_then, if◌then◌else◌}
use Rattle.std.specs.Ordering.{ordering_reverse, is_eq, eq_by_cmp}
use Rattle.std.specs.declared.cmp.Ordering.{Ordering}
use Rattle.std.specs.declared.cmp.Ordering.TheVariants.{Less, Equal, Greater}
use Rattle.std.specs.declared.result.Result.{Result}
use Rattle.std.specs.List.{AllByRecursion, IsDistinct, insert, list_any}
use Rattle.std.specs.List.Sorted.{IsStrictlySortedBy}
use Rattle.std.specs.Map.{keys_of, values_of}
use Rattle.std.specs.BTreeMap.{is_at}
use Rattle.std.proofs.lemmas.Cmp.{nat_list_cmp_total}
use Rattle.std.proofs.lemmas.List.Sorted.{Contains-permutation, IsPermutation-refl, IsPermutation-sym, IsPermutation-trans, IsPermutation-map, IsPermutation-cons, IsPermutation-insert, list_any-IsPermutation}
use Rattle.std.proofs.lemmas.Map.Keys.{sorted_head, sorted_tail, IsDistinct-head, IsDistinct-tail, IsDistinct-from_sorted, IsDistinct-IsPermutation}
use Rattle.std_collections.specs.Layout.BTreeMap.{seek}
use Rattle.std_collections.proofs.Seek.{found_at, insert_entry_err, sorted_insert, seek-Ok}
use Rattle.std_collections.proofs.Entries.{NonePasses, lookup-none}
use Rattle.mig_model.specs.Names.{by_bytes, gathered, Ascends, put, under}
use Rattle.mig_model.proofs.OneOrder.{one_order}
use Rattle.mig_model.proofs.Rising.{nothing_ascends}
use Rattle.std.proofs.lemmas.Option.{same_Some}

module _ {A : Type 0} where
  -- a name that isn't there goes to a place
  place_of : (name : List ℕ) (t : A) (ps : List (List ℕ × A)) → under name ps ≡ None → (r : Result ℕ ℕ) → seek (by_bytes name) ps ≡ r → (i : ℕ) × (seek (by_bytes name) ps ≡ Err i)
  place_of name t ps none (Err i) h = (i, h)
  place_of name t ps none (Ok i) h = absurd (there ps i (seek-Ok (by_bytes name) ps i h).0 (sym (found_at (by_bytes name) ps i h).value ∙ none))
    where
      there : (es : List (List ℕ × A)) (i : ℕ) → i < length es → slice_get (values_of es) i ≡ None → ⊥
      there [] i l e = absurd (omega arith)
      there (x ∷ es) zero l e = absurd cc
      there (x ∷ es) (suc i) l e = there es i (omega arith) e

  pub put_new : (name : List ℕ) (t : A) (ps : List (List ℕ × A)) → Ascends ps → under name ps ≡ None → IsPermutation ((name, t) ∷ ps) (put name t ps) × Ascends (put name t ps)
  put_new name t ps s none =
      let at = place_of name t ps none (seek (by_bytes name) ps) refl in
      let is : insert ps at.0 (name, t) ≡ put name t ps = insert_entry_err by_bytes name t ps at.0 at.1 in (
        subst (IsPermutation ((name, t) ∷ ps)) is (IsPermutation-insert ps at.0 (name, t)),
        subst Ascends is (sorted_insert by_bytes name t nat_list_cmp_total ps at.0 s at.1),
      )

  abbrev step_at : (List ℕ × A) → List (List ℕ × A) → Option A → Option (List (List ℕ × A))
  step_at q ps o = if is_some o then None else Some (put q.0 q.1 ps)

  abbrev step : (List ℕ × A) → Option (List (List ℕ × A)) → Option (List (List ℕ × A))
  step q o = option_and_then (λ ps. step_at q ps (under q.0 ps)) o

  pub gathered_sound : (qs ps : List (List ℕ × A)) → gathered qs ≡ Some ps → IsPermutation qs ps × Ascends ps
  gathered_sound [] ps e = let is : [] ≡ ps = same_Some [] ps e in (subst (IsPermutation []) is (IsPermutation-refl []), subst Ascends is (nothing_ascends A))
  gathered_sound (q ∷ qs) ps e = by (gathered qs) refl (gathered_sound qs) e
    where
      new : (rs : List (List ℕ × A)) → IsPermutation qs rs × Ascends rs → (o : Option A) → under q.0 rs ≡ o → step_at q rs o ≡ Some ps → IsPermutation (q ∷ qs) ps × Ascends ps
      new rs known None none e' =
          let more = put_new q.0 q.1 rs known.1 none in
          let is : put q.0 q.1 rs ≡ ps = same_Some (put q.0 q.1 rs) ps e' in (
            subst (IsPermutation (q ∷ qs)) is (IsPermutation-trans (q ∷ qs) (q ∷ rs) (put q.0 q.1 rs) (IsPermutation-cons q qs rs known.0) more.0),
            subst Ascends is more.1,
          )
      new rs known (Some t) there e' = absurd cc

      by : (o : Option (List (List ℕ × A))) → gathered qs ≡ o → ((rs : List (List ℕ × A)) → gathered qs ≡ Some rs → IsPermutation qs rs × Ascends rs) → step q o ≡ Some ps → IsPermutation (q ∷ qs) ps × Ascends ps
      by None h rest e' = absurd cc
      by (Some rs) h rest e' = new rs (rest rs h) (under q.0 rs) refl e'

pub flips : (x y : List ℕ) → eq_by_cmp by_bytes x y ≡ eq_by_cmp by_bytes y x
flips x y = reversed (by_bytes y x) (by_bytes x y) (nat_list_cmp_total.antisymm x y)
  where
    reversed : (r s : Ordering) → s ≡ ordering_reverse r → is_eq s ≡ is_eq r
    reversed Less s h = ap is_eq h
    reversed Equal s h = ap is_eq h
    reversed Greater s h = ap is_eq h

abbrev pub Apart : List (List ℕ) → Type 0
Apart ks = IsDistinct (eq_by_cmp by_bytes) ks

none_is_any : (name : List ℕ) (ks : List (List ℕ)) → AllByRecursion (λ y. eq_by_cmp by_bytes name y ≡ false) ks → list_any (eq_by_cmp by_bytes name) ks ≡ false
none_is_any name [] h = refl
none_is_any name (k ∷ ks) h = rw h.0 (none_is_any name ks h.1)

module _ {A : Type 0} where
  none_passes : (name : List ℕ) (ps : List (List ℕ × A)) → list_any (eq_by_cmp by_bytes name) (keys_of ps) ≡ false → NonePasses (is_at (by_bytes name)) ps
  none_passes name [] h = tt
  none_passes name (p ∷ ps) h = let b = parts (eq_by_cmp by_bytes name p.0) (list_any (eq_by_cmp by_bytes name) (keys_of ps)) h in (b.0, none_passes name ps b.1)
    where
      parts : (a b : Bool) → (a || b) ≡ false → (a ≡ false) × (b ≡ false)
      parts false b e = (refl, e)
      parts true b e = absurd cc

  pub gathered_if_apart : (qs : List (List ℕ × A)) → Apart (keys_of qs) → (ps : List (List ℕ × A)) × (gathered qs ≡ Some ps)
  gathered_if_apart [] h = ([], refl)
  gathered_if_apart (q ∷ qs) h =
      let rest = gathered_if_apart qs (IsDistinct-tail (eq_by_cmp by_bytes) q.0 (keys_of qs) h) in
      let known = gathered_sound qs rest.0 rest.1 in
      let any : list_any (eq_by_cmp by_bytes q.0) (keys_of rest.0) ≡ false =
      sym (list_any-IsPermutation (eq_by_cmp by_bytes q.0) (keys_of qs) (keys_of rest.0) (IsPermutation-map (λ p. p.0) qs rest.0 known.0))
      ∙ none_is_any q.0 (keys_of qs) (IsDistinct-head (eq_by_cmp by_bytes) q.0 (keys_of qs) h) in
      let none : under q.0 rest.0 ≡ None = lookup-none (is_at (by_bytes q.0)) rest.0 (none_passes q.0 rest.0 any) in
      (put q.0 q.1 rest.0, ap (step q) rest.1 ∙ ap (step_at q rest.0) none)

  pub gathered_complete : (qs ps : List (List ℕ × A)) → IsPermutation qs ps → Ascends ps → gathered qs ≡ Some ps
  gathered_complete qs ps p s =
      let apart : Apart (keys_of qs) =
      IsDistinct-IsPermutation (eq_by_cmp by_bytes) flips (keys_of ps) (keys_of qs)
      (IsPermutation-sym (keys_of qs) (keys_of ps) (IsPermutation-map (λ q. q.0) qs ps p)) (IsDistinct-from_sorted by_bytes (keys_of ps) s) in
      let g = gathered_if_apart qs apart in
      let known = gathered_sound qs g.0 g.1 in
      g.1 ∙ ap (λ l. Some l) (one_order qs g.0 ps known.0 p known.1 s)

  -- where no order of the pairs ascends, nothing is gathered
  pub gathered_none : (qs : List (List ℕ × A)) → ((ps : List (List ℕ × A)) → IsPermutation qs ps → Ascends ps → ⊥) → gathered qs ≡ None
  gathered_none qs h = by (gathered qs) refl
    where
      by : (o : Option (List (List ℕ × A))) → gathered qs ≡ o → gathered qs ≡ None
      by None e = e
      by (Some ps) e = let known = gathered_sound qs ps e in absurd (h ps known.0 known.1)
