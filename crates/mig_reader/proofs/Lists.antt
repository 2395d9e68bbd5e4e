-- Items with commas between them: what is in the grammar is read, what is read is in the grammar, and how a loop reads them.
use Rattle.std.proofs.Common.{◌≡◌, inl, inr, ℕ, zero, suc, ◌-◌, ◌+◌, ◌≤◌, ◌<◌, List, [], ◌∷◌, ◌++◌, length, drop, true, false, Some, None, refl, sym, ap, ◌∙◌, append_assoc, arith}
use Rattle.mig_token.specs.declared.mark.Mark.TheVariants as M
use Rattle.mig_token.specs.Token.{Tok, mark}
use Rattle.mig_reader.specs.declared.error.ParseError.{ParseError}
use Rattle.mig_reader.specs.declared.error.ParseError.TheVariants as errors
use Rattle.mig_reader.specs.Grammar as g
use Rattle.mig_reader.specs.Grammar.{Listed}
use Rattle.mig_reader.specs.Reading.{◌>>=◌, Fails, Read, Reader, begins, listed_at, after_items}
use Rattle.mig_reader.proofs.Fronts.{here, bind_some, moved, Sound, begins_is}
use Rattle.mig_model.proofs.Options.{chosen}

pub longer : (a b : List Tok) → length a ≤ length (a ++ b)
longer [] b = omega arith
longer (x ∷ a) b = omega (arith, longer a b)

pub comma_longer : (a b : List Tok) → length b < length (a ++ mark M.Comma ∷ b)
comma_longer [] b = omega arith
comma_longer (x ∷ a) b = omega (arith, comma_longer a b)

pub regroup : {A : Type 0} (front : List A) (x : A) (read : Read (List A)) → after_items front (read >>= λ y. Some (x ∷ y.0, y.1)) ≡ after_items (front ++ x ∷ []) read
regroup {A} front x (Some y) = ap (λ (l : List A). Some (l, y.1)) (sym (append_assoc front (x ∷ []) y.0))
regroup front x None = refl

module _ {A : Type 0} (R : Reader A) where
  -- ---- what is in the grammar is read
  pub listed_last : (n : ℕ) (ts rest : List Tok) (x : A) → 0 < n → R ts ≡ here x rest → begins M.Comma rest ≡ false → listed_at R n ts ≡ here (x ∷ []) rest
  unfolding listed_at
  listed_last zero ts rest x l e h = absurd (omega arith)
  listed_last (suc n) ts rest x l e h = rw (e, h) refl

  pub listed_more : (n : ℕ) (ts b rest : List Tok) (x : A) (xs : List A) → R ts ≡ here x (mark M.Comma ∷ b) → listed_at R n b ≡ here xs rest → listed_at R (suc n) ts ≡ here (x ∷ xs) rest
  unfolding listed_at
  listed_more n ts b rest x xs e f = rw (e, f) refl

  module _ (F : List Tok → A → Type 0) (some : (a : List Tok) (x : A) → F a x → 0 < length a) (one : (a : List Tok) (x : A) → F a x → (rest : List Tok) → R (a ++ rest) ≡ here x rest) where
    pub listed_read : {a : List Tok} {xs : List A} → Listed F a xs → (n : ℕ) (rest : List Tok) → length a ≤ n → begins M.Comma rest ≡ false → listed_at R n (a ++ rest) ≡ here xs rest
    listed_read (g.last a x p) n rest l h = listed_last n (a ++ rest) rest x (omega (arith, some a x p)) (one a x p rest) h
    listed_read (g.more a b x xs p q) zero rest l h = absurd (omega (arith, comma_longer a b))
    listed_read (g.more a b x xs p q) (suc n) rest l h =
        let e : (a ++ mark M.Comma ∷ b) ++ rest ≡ a ++ mark M.Comma ∷ (b ++ rest) = append_assoc a (mark M.Comma ∷ b) rest in
        ap (listed_at R (suc n)) e ∙ listed_more n (a ++ mark M.Comma ∷ (b ++ rest)) (b ++ rest) rest x xs (one a x p (mark M.Comma ∷ (b ++ rest))) (listed_read q n rest (omega (arith, comma_longer a b)) h)

  -- ---- what is read is in the grammar
  module _ (F : List Tok → A → Type 0) (sound : Sound R F) where
    pub listed_sound : (n : ℕ) → Sound (listed_at R n) (Listed F)
    unfolding listed_at
    listed_sound zero ts xs rest e = absurd cc
    listed_sound (suc n) ts xs rest e =
        let b = bind_some (R ts) _ (xs, rest) e in
        let s = sound ts b.0.0 b.0.1 b.1 in
        elim (chosen (begins M.Comma b.0.1) _ _ (here xs rest) b.2) [
          | inl p ↦
              let c = bind_some (listed_at R n (drop 1 b.0.1)) _ (xs, rest) p.1 in
              let r = listed_sound n (drop 1 b.0.1) c.0.0 c.0.1 c.1 in
              let comma : b.0.1 ≡ mark M.Comma ∷ (r.a ++ c.0.1) = begins_is M.Comma b.0.1 p.0 ∙ ap (λ (l : List Tok). mark M.Comma ∷ l) r.is in
              let all : ts ≡ (s.a ++ mark M.Comma ∷ r.a) ++ c.0.1 = s.is ∙ ap (λ (l : List Tok). s.a ++ l) comma ∙ sym (append_assoc s.a (mark M.Comma ∷ r.a) c.0.1) in
              moved (λ x a. Listed F a x) (b.0.0 ∷ c.0.0) xs (s.a ++ mark M.Comma ∷ r.a) ts c.0.1 rest all (g.more s.a r.a b.0.0 c.0.0 s.good r.good) c.2
          | inr p ↦ moved (λ x a. Listed F a x) (b.0.0 ∷ []) xs s.a ts b.0.1 rest s.is (g.last s.a b.0.0 s.good) p.1
        ]

  -- ---- a loop
  pub no_item : (e : ParseError) (front : List A) (count i : ℕ) (ts : List Tok) (total : Read (List A)) → i < count → Fails e (R ts)
      → after_items front (listed_at R (count - i) ts) ≡ total → Fails e total
  unfolding listed_at
  no_item errors.Memory front count i ts total lt f so_far = tt
  no_item errors.Wrong front count i ts total lt f so_far =
      let k : count - i ≡ suc (count - (i + 1)) = omega arith in
      let one : after_items front (listed_at R (count - i) ts) ≡ None = rw (k, f) refl in
      sym so_far ∙ one

  pub last_item : (front : List A) (count i : ℕ) (ts : List Tok) (x : A) (after : List Tok) (total : Read (List A)) → i < count → R ts ≡ Some (x, after) → begins M.Comma after ≡ false
      → after_items front (listed_at R (count - i) ts) ≡ total → total ≡ Some (front ++ x ∷ [], after)
  unfolding listed_at
  last_item front count i ts x after total lt is ends so_far =
      let k : count - i ≡ suc (count - (i + 1)) = omega arith in
      let one : after_items front (listed_at R (count - i) ts) ≡ Some (front ++ x ∷ [], after) = rw (k, is, ends) refl in
      sym so_far ∙ one

  pub further_item : (front : List A) (count i : ℕ) (ts : List Tok) (x : A) (after : List Tok) (total : Read (List A)) → i < count → R ts ≡ Some (x, after) → begins M.Comma after ≡ true
      → after_items front (listed_at R (count - i) ts) ≡ total → after_items (front ++ x ∷ []) (listed_at R (count - (i + 1)) (drop 1 after)) ≡ total
  unfolding listed_at
  further_item front count i ts x after total lt is more so_far =
      let k : count - i ≡ suc (count - (i + 1)) = omega arith in
      let one : after_items front (listed_at R (count - i) ts) ≡ after_items (front ++ x ∷ []) (listed_at R (count - (i + 1)) (drop 1 after)) = rw (k, is, more) (regroup front x (listed_at R (count - (i + 1)) (drop 1 after))) in
      sym one ∙ so_far

  pub no_turn : (front : List A) (count i : ℕ) (ts : List Tok) (total : Read (List A)) → count ≤ i → after_items front (listed_at R (count - i) ts) ≡ total → total ≡ None
  unfolding listed_at
  no_turn front count i ts total le so_far =
      let k : count - i ≡ 0 = omega arith in
      let one : after_items front (listed_at R (count - i) ts) ≡ None = rw k refl in
      sym so_far ∙ one
