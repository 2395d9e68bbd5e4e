-- What stands under a name is changed at its place.
use Rattle.std.proofs.Common.{◌≡◌, ℕ, zero, suc, ◌<◌, List, [], ◌∷◌, length, map, Some, None, Ok, Err, refl, sym, ap, subst, ◌∙◌, arith}
use Rattle.std.specs.Prelude.{IfSome, if◌then◌else◌}
use Rattle.std.specs.Ordering.{is_eq}
use Rattle.std.specs.declared.cmp.Ordering.TheVariants.{Equal}
use Rattle.std.proofs.lemmas.Map.Lookups.{exact_bytes}
use Rattle.std_collections.specs.Layout.BTreeMap.{seek}
use Rattle.std_collections.proofs.Seek.{AboveFirst, AnswersAt, seek-Ok}
use Rattle.mig_model.specs.Names.{by_bytes, Ascends, under, changed}
use Rattle.mig_value.specs.Places.{value_at, with_value_at}
use Rattle.mig_value.specs.Typed.{Typed, Slot}
use Rattle.mig_value.specs.View.{slot_of}
use Rattle.mig_value.specs.declared.slots.Slot as code
use Rattle.mig_action.specs.Moves.{Moving}
use Rattle.mig_model.proofs.Edits.{Above, ascends-head, ascends-tail}
use Rattle.std.proofs.lemmas.Cmp.{nat_list_cmp_total}
use Rattle.mig_model.proofs.Searches.{not_found}

module _ (x : List ℕ) where
  pub value_here : (es : List Slot) (i : ℕ) → i < length es → AboveFirst (by_bytes x) es i → AnswersAt (by_bytes x) es i Equal → under x es ≡ Some (value_at i es)
  value_here [] i l a b = absurd (omega arith)
  value_here (e ∷ es) zero l a b = ap (λ o. if is_eq o then Some e.1 else under x es) b
  value_here (e ∷ es) (suc i) l a b = ap (λ o. if is_eq o then Some e.1 else under x es) a.0 ∙ value_here es i (omega arith) a.1 b

  changed-above : (f : Typed → Typed) (es : List Slot) → Above x es → changed x f es ≡ es
  changed-above f [] h = refl
  changed-above f (e ∷ es) h = grind (arith, h.0, changed-above f es h.1)

  changed-none : (f : Typed → Typed) (es : List Slot) → under x es ≡ None → changed x f es ≡ es
  changed-none f [] h = refl
  changed-none f (e ∷ es) h = grind (arith, changed-none f es)

  changed_here : (f : Typed → Typed) (u : Typed) (es : List Slot) (i : ℕ) → Ascends es → AboveFirst (by_bytes x) es i → AnswersAt (by_bytes x) es i Equal → with_value_at i (f (value_at i es)) (with_value_at i u es) ≡ changed x f es
  changed_here f u [] zero s a b = refl
  changed_here f u [] (suc i) s a b = absurd a
  changed_here f u (e ∷ es) zero s a b =
      let up : Above x es = subst (λ n. Above n es) (sym (exact_bytes x e.0 b)) (ascends-head e es s) in
      λ j. (e.0, if is_eq (sym b j) then f e.1 else e.1) ∷ sym (changed-above f es up) j
  changed_here f u (e ∷ es) (suc i) s a b = λ j. (e.0, if is_eq (sym a.0 j) then f e.1 else e.1) ∷ changed_here f u es i (ascends-tail e es s) a.1 b j

  -- the place in the list that was searched, which is this one
  at_place : (xs ys : List code.Slot) (n : List ℕ) (i : ℕ) → ys ≡ xs → n ≡ x → Ok i ≡ seek (by_bytes n) (map slot_of ys) → seek (by_bytes x) (map slot_of xs) ≡ Ok i
  at_place xs ys n i same named at = sym (at ∙ (λ j. seek (by_bytes (named j)) (map slot_of (same j))))

  -- what is asked of the value under the name is so of the one at its place
  pub asked_there : (P : Typed → Type 0) (xs ys : List code.Slot) (n : List ℕ) (i : ℕ) (v : Typed) → ys ≡ xs → n ≡ x → Ok i ≡ seek (by_bytes n) (map slot_of ys) → v ≡ value_at i (map slot_of xs) → IfSome (under x (map slot_of xs)) P → P v
  asked_there P xs ys n i v same named at value h =
      let r = seek-Ok (by_bytes x) (map slot_of xs) i (at_place xs ys n i same named at) in
      subst P (sym value) (subst (λ o. IfSome o P) (value_here (map slot_of xs) i r.0 r.1 r.2) h)

  -- the slots in hand with the unknown ones beside them
  abbrev In : List Slot → List Slot → Moving
  In ss rs = record { slots = ss; rest = rs }

  -- there is no such name
  pub unchanged : (f : Typed → Typed) (xs ys : List code.Slot) (n : List ℕ) (i : ℕ) (rs : List Slot) → Ascends (map slot_of xs) → ys ≡ xs → n ≡ x → Err i ≡ seek (by_bytes n) (map slot_of ys) → In (map slot_of xs) rs ≡ In (changed x f (map slot_of xs)) rs
  unchanged f xs ys n i rs s same named at =
      ap (λ ss. In ss rs) (sym (changed-none f (map slot_of xs) (not_found nat_list_cmp_total slot_of x xs i s (sym (at ∙ (λ j. seek (by_bytes (named j)) (map slot_of (same j))))))))

  -- the value was taken out, and the new one put there
  pub changed_by : (f : Typed → Typed) (xs ys : List code.Slot) (n : List ℕ) (i : ℕ) (u v w : Typed) (ts us rs : List Slot) → Ascends (map slot_of xs) → ys ≡ xs → n ≡ x → Ok i ≡ seek (by_bytes n) (map slot_of ys)
      → v ≡ value_at i (map slot_of xs) → ts ≡ with_value_at i u (map slot_of xs) → w ≡ f v → us ≡ with_value_at i w ts → In us rs ≡ In (changed x f (map slot_of xs)) rs
  changed_by f xs ys n i u v w ts us rs s same named at value taken is put =
      let r = seek-Ok (by_bytes x) (map slot_of xs) i (at_place xs ys n i same named at) in
      ap (λ ss. In ss rs) (put ∙ (λ j. with_value_at i ((is ∙ ap f value) j) (taken j)) ∙ changed_here f u (map slot_of xs) i s r.1 r.2)
