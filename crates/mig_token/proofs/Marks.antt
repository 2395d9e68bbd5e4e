-- Each mark is told by its spelling.
use Rattle.std.proofs.Common.{◌≡◌, ◌≢◌, zero, suc, ℕ, ◌<◌, List, [], ◌∷◌, length, get_or, Bool, true, false, cond, Option, Some, None, bytes_eq, refl, sym, ap, ◌∙◌, arith}
use Rattle.std.specs.Cmp.Lexicographic.{same_text}
use Rattle.mig_token.specs.declared.mark.Mark.{Mark}
use Rattle.mig_token.specs.declared.mark.Mark.TheVariants as M
use Rattle.mig_token.specs.declared.mark.TheConstants.{MARKS}
use Rattle.mig_token.specs.Spelling.{spelling, is_same}

-- the mark of the list that is written so
abbrev spelled_in : List ℕ → List Mark → Option Mark
spelled_in b [] = None
spelled_in b (m ∷ ms) = cond (bytes_eq b (spelling m)) (Some m) (spelled_in b ms)

found : (m : Mark) → spelled_in (spelling m) MARKS ≡ Some m
found M.Form = refl
found _ = refl

-- no mark is spelled so where none of the list is
none_spelled : (b : List ℕ) (ms : List Mark) → ((k : ℕ) → k < length ms → b ≢ spelling (get_or ms k M.Form)) → spelled_in b ms ≡ None
none_spelled b [] other = refl
none_spelled b (m ∷ ms) other = by (bytes_eq b (spelling m)) refl (none_spelled b ms (λ k h. other (suc k) (omega arith)))
  where
    by : (t : Bool) → bytes_eq b (spelling m) ≡ t → spelled_in b ms ≡ None → cond t (Some m) (spelled_in b ms) ≡ None
    by true e behind = absurd (other zero (omega arith) (same_text b (spelling m) (sym e)))
    by false e behind = behind

pub no_mark : (b : List ℕ) → ((k : ℕ) → k < 82 → b ≢ spelling (get_or MARKS k M.Form)) → (m : Mark) → b ≢ spelling m
no_mark b other m e =
    let both : Some m ≡ None = sym (found m) ∙ ap (λ (l : List ℕ). spelled_in l MARKS) (sym e) ∙ none_spelled b MARKS other in
    cc

pub one_mark : (m n : Mark) → spelling m ≡ spelling n → m ≡ n
one_mark m n e = let both : Some m ≡ Some n = sym (found m) ∙ ap (λ (b : List ℕ). spelled_in b MARKS) e ∙ found n in cc

pub is_one : (m n : Mark) → is_same m n ≡ true → m ≡ n
is_one m n e = one_mark m n (same_text (spelling m) (spelling n) (sym e))
