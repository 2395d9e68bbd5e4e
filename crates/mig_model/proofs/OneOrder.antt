-- Entries have at most one order in which their names ascend.
use Rattle.std.proofs.Common.{◌≡◌, ℕ, zero, suc, ◌<◌, ◌⊎◌, inl, inr, List, [], ◌∷◌, length, get_or, refl, sym, ap, subst, ◌∙◌, arith}
use Rattle.std.specs.Prelude.{IsPermutation, Contains}
use Rattle.std.specs.Ordering.{ordering_reverse}
use Rattle.std.specs.declared.cmp.Ordering.TheVariants.{Less, Greater}
use Rattle.std.specs.List.{AllByRecursion}
use Rattle.std.specs.Map.{keys_of}
use Rattle.std.proofs.lemmas.Cmp.{nat_list_cmp_total}
use Rattle.std.proofs.lemmas.List.Sorted.{Contains-permutation, IsPermutation-sym, IsPermutation-trans}
use Rattle.std.proofs.lemmas.Map.Keys.{sorted_head, sorted_tail}
use Rattle.mig_model.specs.Names.{Ascends, by_bytes}

pub not_both : (x y : List ℕ) → by_bytes x y ≡ Less → by_bytes y x ≡ Less → ⊥
not_both x y a b = let e : Less ≡ Greater = sym a ∙ nat_list_cmp_total.antisymm x y ∙ ap ordering_reverse b in absurd cc

pub not_itself : (x : List ℕ) → by_bytes x x ≡ Less → ⊥
not_itself x a = not_both x x a a

module _ {A : Type 0} where
  -- the pair is one of these
  abbrev Among : (List ℕ × A) → List (List ℕ × A) → Type 0
  Among x [] = ⊥
  Among x (y ∷ ys) = (y ≡ x) ⊎ Among x ys

  among_at : (ys : List (List ℕ × A)) (x : List ℕ × A) (k : ℕ) → k < length ys → get_or ys k x ≡ x → Among x ys
  among_at [] x k l e = absurd (omega arith)
  among_at (y ∷ ys) x zero l e = inl e
  among_at (y ∷ ys) x (suc k) l e = inr (among_at ys x k (omega arith) e)

  contained : (ys : List (List ℕ × A)) (x : List ℕ × A) → Among x ys → Contains ys x
  contained [] x a = absurd a
  contained (y ∷ ys) x (inl e) = (0, omega arith, e)
  contained (y ∷ ys) x (inr a) = let p = contained ys x a in (suc p.0, omega (arith, p.1), p.2)

  moved : (xs ys : List (List ℕ × A)) (x : List ℕ × A) → IsPermutation xs ys → Among x xs → Among x ys
  moved xs ys x p a = let c = Contains-permutation xs ys x p (contained xs x a) in among_at ys x c.0 c.1 c.2

  -- a pair behind the first has a greater name
  behind : (q : List ℕ × A) (ys : List (List ℕ × A)) (x : List ℕ × A) → AllByRecursion (λ y. by_bytes q.0 y ≡ Less) (keys_of ys) → Among x ys → by_bytes q.0 x.0 ≡ Less
  behind q [] x h a = absurd a
  behind q (y ∷ ys) x h (inl e) = ap (λ (z : List ℕ × A). by_bytes q.0 z.0) (sym e) ∙ h.0
  behind q (y ∷ ys) x h (inr a) = behind q ys x h.1 a

  same_members : (a b : List (List ℕ × A)) → Ascends a → Ascends b → ((x : List ℕ × A) → Among x a → Among x b) → ((x : List ℕ × A) → Among x b → Among x a) → a ≡ b
  same_members [] [] s t f g = refl
  same_members [] (q ∷ b) s t f g = absurd (g q (inl refl))
  same_members (p ∷ a) [] s t f g = absurd (f p (inl refl))
  same_members (p ∷ a) (q ∷ b) s t f g =
      let above_p = sorted_head by_bytes p.0 (keys_of a) s in
      let above_q = sorted_head by_bytes q.0 (keys_of b) t in
      let first : p ≡ q = one (f p (inl refl)) (g q (inl refl)) above_p above_q in
      λ i. first i ∷ same_members a b (sorted_tail by_bytes p.0 (keys_of a) s) (sorted_tail by_bytes q.0 (keys_of b) t)
      (λ x m. rest x p q above_p m (sym first) (f x (inr m)))
      (λ x m. rest' x q p above_q m first (g x (inr m))) i
    where
      one : Among p (q ∷ b) → Among q (p ∷ a) → AllByRecursion (λ y. by_bytes p.0 y ≡ Less) (keys_of a) → AllByRecursion (λ y. by_bytes q.0 y ≡ Less) (keys_of b) → p ≡ q
      one (inl e) n h k = sym e
      one (inr m) (inl e) h k = e
      one (inr m) (inr n) h k = absurd (not_both q.0 p.0 (behind q b p k m) (behind p a q h n))

      rest : (x p' q' : List ℕ × A) → AllByRecursion (λ y. by_bytes p'.0 y ≡ Less) (keys_of a) → Among x a → q' ≡ p' → Among x (q' ∷ b) → Among x b
      rest x p' q' h m same (inr n) = n
      rest x p' q' h m same (inl e) = absurd (not_itself p'.0 (subst (λ (z : List ℕ × A). by_bytes p'.0 z.0 ≡ Less) (sym e ∙ same) (behind p' a x h m)))

      rest' : (x q' p' : List ℕ × A) → AllByRecursion (λ y. by_bytes q'.0 y ≡ Less) (keys_of b) → Among x b → p' ≡ q' → Among x (p' ∷ a) → Among x a
      rest' x q' p' h m same (inr n) = n
      rest' x q' p' h m same (inl e) = absurd (not_itself q'.0 (subst (λ (z : List ℕ × A). by_bytes q'.0 z.0 ≡ Less) (sym e ∙ same) (behind q' b x h m)))

  -- pairs have at most one order in which their names ascend
  pub one_order : (xs a b : List (List ℕ × A)) → IsPermutation xs a → IsPermutation xs b → Ascends a → Ascends b → a ≡ b
  one_order xs a b p q s t =
      same_members a b s t
      (λ x m. moved a b x (IsPermutation-trans a xs b (IsPermutation-sym xs a p) q) m)
      (λ x m. moved b a x (IsPermutation-trans b xs a (IsPermutation-sym xs b q) p) m)
