-- The automaton tells groups.
use Rattle.std.proofs.Common.{◌≡◌, ℕ, zero, suc, ◌<◌, ◌≤◌, List, [], ◌∷◌, Bool, true, false, cond, Option, Some, None, refl, sym, ap, ◌∙◌, subst, ◌⊎◌, inl, inr, arith}
use Rattle.std.specs.Prelude.{nat_lt, nat_le, ◌&&◌, ◌==◌}
use Rattle.std.proofs.lemmas.Option.{same_Some}
use Rattle.std.proofs.Math.Dec.{eqb-suc-zero}
use Rattle.std.proofs.lemmas.Bool.{le-ltb, lt-ltb, le-leb, ltb-true, leb-true}
use Rattle.mig_nbt.specs.Format.{IsMore, Groups, none, one, two, three}
use Rattle.mig_nbt.specs.Reading.{is_more, still_to_come, groups_from, are_groups}
use Rattle.mig_model.proofs.Bools.{split_and}

-- ---- what the first byte of a group says
after_one : (a : ℕ) → a < 128 → still_to_come 0 a ≡ Some 0
after_one a h = rw (lt-ltb a 128 h) refl

after_two : (a : ℕ) → 192 ≤ a → a < 224 → still_to_come 0 a ≡ Some 1
after_two a l h =
    let x : nat_lt a 128 ≡ false = le-ltb a 128 (omega arith) in
    rw (x, le-leb 192 a l, lt-ltb a 224 h) refl

after_three : (a : ℕ) → 224 ≤ a → a < 240 → still_to_come 0 a ≡ Some 2
after_three a l h =
    let x : nat_lt a 128 ≡ false = le-ltb a 128 (omega arith) in
    let y : nat_lt a 224 ≡ false = le-ltb a 224 l in
    let z : nat_le 192 a ≡ true = le-leb 192 a (omega arith) in
    rw (x, z, y, le-leb 224 a l, lt-ltb a 240 h) refl

after_more : (n b : ℕ) → IsMore b → still_to_come (suc n) b ≡ Some n
after_more n b h = rw (le-leb 128 b h.0, lt-ltb b 192 h.1) refl

pub groups_pass : (s : List ℕ) → Groups s → are_groups s ≡ true
groups_pass s none = refl
groups_pass s (one {a} {rest} h g) = ap (λ o. groups_from o rest) (after_one a h) ∙ groups_pass rest g
groups_pass s (two {a} {b} {rest} l h m g) =
    ap (λ o. groups_from o (b ∷ rest)) (after_two a l h) ∙ ap (λ o. groups_from o rest) (after_more 0 b m) ∙ groups_pass rest g
groups_pass s (three {a} {b} {c} {rest} l h m k g) =
    ap (λ o. groups_from o (b ∷ (c ∷ rest))) (after_three a l h) ∙ ap (λ o. groups_from o (c ∷ rest)) (after_more 1 b m) ∙ ap (λ o. groups_from o rest) (after_more 0 c k) ∙ groups_pass rest g

-- ---- what passes is groups, behind so many bytes of the first
abbrev Behind : ℕ → List ℕ → Type 0
Behind zero s = Groups s
Behind (suc n) s = (b : ℕ) × (rest : List ℕ) × (s ≡ b ∷ rest) × IsMore b × Behind n rest

abbrev First : ℕ → ℕ → Type 0
First a n = ((n ≡ 0) × (a < 128)) ⊎ (((n ≡ 1) × (192 ≤ a) × (a < 224)) ⊎ ((n ≡ 2) × (224 ≤ a) × (a < 240)))

first_byte : (a n : ℕ) → still_to_come 0 a ≡ Some n → First a n
first_byte a n e = by (nat_lt a 128) refl (nat_le 192 a && nat_lt a 224) refl (nat_le 224 a && nat_lt a 240) refl e
  where
    by : (x : Bool) → nat_lt a 128 ≡ x → (y : Bool) → (nat_le 192 a && nat_lt a 224) ≡ y → (z : Bool) → (nat_le 224 a && nat_lt a 240) ≡ z
        → cond x (Some 0) (cond y (Some 1) (cond z (Some 2) None)) ≡ Some n → First a n
    by true h y g z k e = inl (sym (same_Some 0 n e), ltb-true a 128 h)
    by false h true g z k e =
        let b = split_and (nat_le 192 a) (nat_lt a 224) g in
        inr (inl (sym (same_Some 1 n e), leb-true 192 a b.0, ltb-true a 224 b.1))
    by false h false g true k e =
        let b = split_and (nat_le 224 a) (nat_lt a 240) k in
        inr (inr (sym (same_Some 2 n e), leb-true 224 a b.0, ltb-true a 240 b.1))
    by false h false g false k e = absurd cc

next_byte : (n b m : ℕ) → still_to_come (suc n) b ≡ Some m → (m ≡ n) × IsMore b
next_byte n b m e = by (is_more b) refl e
  where
    by : (x : Bool) → is_more b ≡ x → cond x (Some n) None ≡ Some m → (m ≡ n) × IsMore b
    by true h e = let p = split_and (nat_le 128 b) (nat_lt b 192) h in (sym (same_Some n m e), (leb-true 128 b p.0, ltb-true b 192 p.1))
    by false h e = absurd cc

three_of : (a : ℕ) (rest : List ℕ) → 224 ≤ a → a < 240 → Behind 2 rest → Groups (a ∷ rest)
three_of a rest l h p =
    let q = p.4 in
    subst (λ (s : List ℕ). Groups (a ∷ s)) (sym (p.2 ∙ ap (λ (s : List ℕ). p.0 ∷ s) q.2)) (three l h p.3 q.3 q.4)

group_of : (a n : ℕ) (rest : List ℕ) → First a n → Behind n rest → Groups (a ∷ rest)
group_of a n rest (inl f) p = one f.1 (subst (λ k. Behind k rest) f.0 p)
group_of a n rest (inr (inl f)) p =
    let q : Behind 1 rest = subst (λ k. Behind k rest) f.0 p in
    subst (λ (s : List ℕ). Groups (a ∷ s)) (sym q.2) (two f.1 f.2 q.3 q.4)
group_of a n rest (inr (inr f)) p = three_of a rest f.1 f.2 (subst (λ k. Behind k rest) f.0 p)

passed : (n : ℕ) (s : List ℕ) → groups_from (Some n) s ≡ true → Behind n s
passed zero [] e = none
passed (suc n) [] e = absurd (let h : (suc n == 0) ≡ false = eqb-suc-zero n in let x : false ≡ true = sym h ∙ e in cc)
passed n (b ∷ rest) e = by n (still_to_come n b) refl e (λ m. passed m rest)
  where
    by : (n : ℕ) (o : Option ℕ) → still_to_come n b ≡ o → groups_from o rest ≡ true → ((m : ℕ) → groups_from (Some m) rest ≡ true → Behind m rest) → Behind n (b ∷ rest)
    by n None h e more = absurd cc
    by zero (Some m) h e more = group_of b m rest (first_byte b m h) (more m e)
    by (suc n) (Some m) h e more =
        let p = next_byte n b m h in
        (b, rest, refl, p.1, subst (λ k. Behind k rest) p.0 (more m e))

pub groups_of : (s : List ℕ) → are_groups s ≡ true → Groups s
groups_of s e = passed 0 s e
