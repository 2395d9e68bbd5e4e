-- Classes of bytes along a list.
use Rattle.std.proofs.Common.{◌≡◌, ℕ, zero, suc, ◌+◌, ◌<◌, ◌≤◌, List, [], ◌∷◌, ◌++◌, length, take, drop, get_or, refl, sym, ap, subst, ◌∙◌, length-append, length-take-le, length-drop, take-add, take-append-drop, append-nil, get_or-take, get_or-drop, IsTrue, ◌↔◌, nat_eq, Bool, true, false, true≢false, eqb-true, arith}
use Rattle.std.proofs.lemmas.List.{take_all}
use Rattle.std.proofs.lemmas.List.Elements.{All-from_recursion}
use Rattle.std.specs.List.{AllByRecursion}
use Rattle.mig_token.specs.Lexical.{IsWhite}
use Rattle.mig_lex.specs.Reading.{IsRun, SkipsWhite}

module _ (P : ℕ → Type 0) where
  pub all_taken : (bytes : List ℕ) (n : ℕ) → n ≤ length bytes → ((k : ℕ) → k < n → P (get_or bytes k 0)) → AllByRecursion P (take n bytes)
  all_taken bytes zero h each = tt
  all_taken [] (suc n) h each = absurd (omega arith)
  all_taken (b ∷ bytes) (suc n) h each = (each zero (omega arith), all_taken bytes n (omega arith) (λ k l. each (suc k) (omega arith)))

  pub all_at : (xs : List ℕ) → AllByRecursion P xs → (k : ℕ) → k < length xs → P (get_or xs k 0)
  all_at xs a k h = All-from_recursion P xs a k 0 h

  pub from_each : (xs : List ℕ) → ((k : ℕ) → k < length xs → P (get_or xs k 0)) → AllByRecursion P xs
  from_each xs each = subst (AllByRecursion P) (take_all (length xs) xs (omega arith)) (all_taken xs (length xs) (omega arith) each)

  pub all_joined : (xs ys : List ℕ) → AllByRecursion P xs → AllByRecursion P ys → AllByRecursion P (xs ++ ys)
  all_joined [] ys a b = b
  all_joined (x ∷ xs) ys a b = (a.0, all_joined xs ys a.1 b)

  pub all_behind : (xs ys : List ℕ) → AllByRecursion P (xs ++ ys) → AllByRecursion P ys
  all_behind [] ys a = a
  all_behind (x ∷ xs) ys a = all_behind xs ys a.1

-- no longer front is of the class
pub no_more : (C : ℕ → Type 0) (most : ℕ) (bytes : List ℕ) (n k : ℕ) → IsRun C most bytes n → 0 < k → k ≤ length (drop n bytes)
    → (e : List ℕ) → take n bytes ++ take k (drop n bytes) ≡ e → AllByRecursion C e → length e ≤ most → ⊥
no_more C most bytes n k run some fits e is all short =
    let within = run.within in
    let le : length (take n bytes) ≡ n = length-take-le n bytes within in
    let lk : length (take k (drop n bytes)) ≡ k = length-take-le k (drop n bytes) fits in
    let ld : length (drop n bytes) + n ≡ length bytes = omega (arith, length-drop n bytes) in
    let size : length e ≡ n + k = sym (ap length is) ∙ omega (arith, length-append (take n bytes) (take k (drop n bytes))) in
    let at : get_or e n 0 ≡ get_or bytes n 0 = ap (λ (l : List ℕ). get_or l n 0) (sym is ∙ sym (take-add n k bytes)) ∙ get_or-take (n + k) bytes n 0 (omega arith) in
    run.last (omega arith) (omega arith) (subst C at (all_at C e all n (omega arith)))

-- the first byte of a front that has one
pub first_of_front : (xs ys : List ℕ) → 0 < length xs → get_or (xs ++ ys) 0 0 ≡ get_or xs 0 0
first_of_front [] ys h = absurd (omega arith)
first_of_front (x ∷ xs) ys h = refl

-- ---- a byte at the front
pub some_byte : (l : List ℕ) → 0 < get_or l 0 0 → 0 < length l
some_byte [] h = absurd (omega (arith, h))
some_byte (c ∷ cs) h = omega arith

pub front_parted : (l rest : List ℕ) (c : ℕ) → 1 ≤ length l → get_or l 0 0 ≡ c → rest ≡ drop 1 l → l ≡ c ∷ rest
front_parted [] rest c h e d = absurd (omega arith)
front_parted (x ∷ l) rest c h e d = λ i. e i ∷ sym d i

-- ---- white space
pub skips : (bytes rest : List ℕ) (i : ℕ) → i ≤ length bytes → ((k : ℕ) → k < i → IsWhite (get_or bytes k 0)) → rest ≡ drop i bytes → (i < length bytes → IsWhite (get_or bytes i 0) → ⊥) → SkipsWhite bytes rest
skips bytes rest i within each is last = record {
  white = take i bytes;
  whole = rw is (sym (take-append-drop i bytes));
  each = all_taken IsWhite bytes i within each;
  last = λ some w.
      let at : get_or rest 0 0 ≡ get_or bytes i 0 = ap (λ (l : List ℕ). get_or l 0 0) is ∙ get_or-drop i bytes 0 0 ∙ ap (λ k. get_or bytes k 0) (omega arith) in
      last (omega (arith, ap length is, length-drop i bytes)) (subst IsWhite at w);
}

pub blank : (bytes rest : List ℕ) → SkipsWhite bytes rest → IsTrue (nat_eq (length rest) 0) ↔ AllByRecursion IsWhite bytes
blank bytes [] s = (λ t. subst (AllByRecursion IsWhite) (sym (s.whole ∙ append-nil s.white)) s.each, λ a. refl)
blank bytes (c ∷ rest) s = (λ t. absurd (omega (arith, eqb-true (suc (length rest)) 0 t)), λ a. absurd (s.last (omega arith) (all_behind IsWhite s.white (c ∷ rest) (subst (AllByRecursion IsWhite) s.whole a)).0))

-- ---- tests
pub some_left : (n : ℕ) (b : Bool) → b ≡ nat_eq n 0 → b ≡ false → 0 < n
some_left zero b e f = let t : nat_eq 0 0 ≡ true = refl in absurd (true≢false (sym t ∙ sym e ∙ f))
some_left (suc n) b e f = omega arith

pub none_left : (n : ℕ) (b : Bool) → b ≡ nat_eq n 0 → b ≡ true → n ≤ 0
none_left n b e t = omega (arith, eqb-true n 0 (sym e ∙ t))
