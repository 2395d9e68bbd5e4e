-- The number that is read from a word is the one whose decimal text the word is.
use Rattle.std.proofs.Common.{◌≡◌, ℕ, zero, suc, ◌+◌, ◌-◌, ◌*◌, ◌<◌, ◌≤◌, List, [], ◌∷◌, length, get_or, Bool, true, false, cond, Some, None, refl, sym, ap, subst, ◌∙◌, arith}
use Rattle.std.specs.Prelude.{nat_le, ◌&&◌, ◌==◌, decimal}
use Rattle.std.specs.Fmt.{digits}
use Rattle.std.specs.Int.{IsInRange}
use Rattle.std.specs.List.{AllByRecursion}
use Rattle.std.proofs.Math.Dec.{eqb-suc-zero}
use Rattle.std.proofs.lemmas.Bool.{le-leb, leb-true, eqb-true, ne_eqb}
use Rattle.std.proofs.lemmas.Str.Parse.{IsDigitsTest, FoldsDigits, IsNumeralModel, numerals_by_fold}
use Rattle.std.proofs.lemmas.Fmt.{decimal-digits_value, digits_decimal, digits_value-decimal, first_decimal, decimal_nonempty}
use Rattle.mig_run.specs.Command.{IsNumber, number_from, number_of_word}
use Rattle.mig_model.proofs.Bools.{split_and}
use Rattle.mig_model.specs.Version.{last_version}

-- the number that digits write behind those of n
abbrev after : ℕ → List ℕ → ℕ
after n [] = n
after n (b ∷ bytes) = after (n * 10 + (b - 48)) bytes

abbrev Digits : List ℕ → Type 0
Digits bytes = AllByRecursion (λ b. IsInRange 48 57 b) bytes

digits_test : IsDigitsTest Digits
digits_test = record { empty = tt; parts = λ c cs p. (p.0, p.1); more = λ c cs k p. (k, p) }

folds : FoldsDigits after
folds = record { empty = λ n. refl; more = λ n c cs k. refl }

numerals : IsNumeralModel Digits (after 0)
numerals = numerals_by_fold Digits digits_test after folds

grows : (n : ℕ) (bytes : List ℕ) → n ≤ after n bytes
grows n [] = omega arith
grows n (b ∷ bytes) = omega (arith, grows (n * 10 + (b - 48)) bytes)

swapped : (n b : ℕ) → 10 * n + (b - 48) ≡ n * 10 + (b - 48)
swapped n b = omega arith

abbrev Reads : ℕ → List ℕ → ℕ → Type 0
Reads n bytes m = Digits bytes × (after n bytes ≡ m) × (m ≤ last_version)

read_from : (n : ℕ) (bytes : List ℕ) (m : ℕ) → n ≤ last_version → number_from n bytes ≡ Some m → Reads n bytes m
read_from n [] m small e = let is : n ≡ m = cc in (tt, is, omega (arith, is))
read_from n (b ∷ bytes) m small e = by ((nat_le 48 b && nat_le b 57) && nat_le (10 * n + (b - 48)) last_version) refl e (λ k f. read_from (10 * n + (b - 48)) bytes m k f)
  where
    by : (x : Bool) → ((nat_le 48 b && nat_le b 57) && nat_le (10 * n + (b - 48)) last_version) ≡ x → cond x (number_from (10 * n + (b - 48)) bytes) None ≡ Some m
        → (10 * n + (b - 48) ≤ last_version → number_from (10 * n + (b - 48)) bytes ≡ Some m → Reads (10 * n + (b - 48)) bytes m) → Reads n (b ∷ bytes) m
    by true h f more =
        let p = split_and (nat_le 48 b && nat_le b 57) (nat_le (10 * n + (b - 48)) last_version) h in
        let q = split_and (nat_le 48 b) (nat_le b 57) p.0 in
        let r = more (leb-true (10 * n + (b - 48)) last_version p.1) f in
        (((leb-true 48 b q.0, leb-true b 57 q.1), r.0), ap (λ k. after k bytes) (sym (swapped n b)) ∙ r.1, r.2)
    by false h f more = absurd cc

from_read : (n : ℕ) (bytes : List ℕ) → Digits bytes → after n bytes ≤ last_version → number_from n bytes ≡ Some (after n bytes)
from_read n [] d small = refl
from_read n (b ∷ bytes) d small =
    let next : 10 * n + (b - 48) ≤ last_version = omega (arith, grows (n * 10 + (b - 48)) bytes, small) in
    let digit : (nat_le 48 b && nat_le b 57) ≡ true = (λ i. le-leb 48 b d.0.0 i && le-leb b 57 d.0.1 i) in
    let test : ((nat_le 48 b && nat_le b 57) && nat_le (10 * n + (b - 48)) last_version) ≡ true = (λ i. digit i && le-leb (10 * n + (b - 48)) last_version next i) in
    ap (λ x. cond x (number_from (10 * n + (b - 48)) bytes) None) test
    ∙ ap (λ k. number_from k bytes) (swapped n b)
    ∙ from_read (n * 10 + (b - 48)) bytes d.1 small

zero_text : decimal 0 ≡ 48 ∷ []
unfolding digits
zero_text = refl

zero_word : number_of_word (48 ∷ []) ≡ Some 0
unfolding number_of_word
zero_word = refl

pub number_found : (word : List ℕ) (n : ℕ) → number_of_word word ≡ Some n → IsNumber word n
unfolding number_of_word
number_found [] n e = absurd cc
number_found (b ∷ bytes) n e = by (b == 48) refl e
  where
    zero_alone : (rest : List ℕ) → b ≡ 48 → cond (length rest == 0) (Some 0) None ≡ Some n → IsNumber (b ∷ rest) n
    zero_alone [] is f = let none : 0 ≡ n = cc in ((λ i. is i ∷ []) ∙ sym zero_text ∙ ap decimal none, omega (arith, none))
    zero_alone (c ∷ cs) is f = absurd (let h : (suc (length cs) == 0) ≡ false = eqb-suc-zero (length cs) in let k : None ≡ Some n = sym (ap (λ x. cond x (Some 0) None) h) ∙ f in cc)

    by : (x : Bool) → (b == 48) ≡ x → cond x (cond (length bytes == 0) (Some 0) None) (number_from 0 (b ∷ bytes)) ≡ Some n → IsNumber (b ∷ bytes) n
    by true h f = zero_alone bytes (eqb-true b 48 h) f
    by false h f =
        let r = read_from 0 (b ∷ bytes) n (omega arith) f in
        let lead : get_or (b ∷ bytes) 0 0 ≡ 48 → length (b ∷ bytes) ≡ 1 = λ z. absurd (let x : false ≡ true = sym h ∙ ap (λ k. k == 48) z in cc) in
        (sym (decimal-digits_value numerals (b ∷ bytes) r.0 (omega arith) lead (omega (arith, r.1, r.2))) ∙ ap decimal r.1, r.2)

not_zero : (b : ℕ) → 48 < b → (b == 48) ≡ false
not_zero b h = ne_eqb b 48 (λ e. omega (arith, e, h))

of_digits : (word : List ℕ) (n : ℕ) → word ≡ decimal n → n ≤ last_version → 0 < n → number_of_word word ≡ Some n
unfolding number_of_word
of_digits [] n e small some = absurd (omega (arith, ap length e, decimal_nonempty n (omega arith)))
of_digits (b ∷ bytes) n e small some =
    let high : 48 < b = omega (arith, first_decimal n some (omega arith), ap (λ w. get_or w 0 0) e) in
    let digits : Digits (b ∷ bytes) = subst Digits (sym e) (digits_decimal numerals n (omega arith)) in
    let value : after 0 (b ∷ bytes) ≡ n = ap (after 0) e ∙ digits_value-decimal numerals n (omega arith) in
    ap (λ x. cond x (cond (length bytes == 0) (Some 0) None) (number_from 0 (b ∷ bytes))) (not_zero b high)
    ∙ from_read 0 (b ∷ bytes) digits (omega (arith, value))
    ∙ ap (λ k. Some k) value

pub number_complete : (word : List ℕ) (n : ℕ) → IsNumber word n → number_of_word word ≡ Some n
number_complete word zero h = ap number_of_word (h.0 ∙ zero_text) ∙ zero_word
number_complete word (suc n) h = of_digits word (suc n) h.0 h.1 (omega arith)
