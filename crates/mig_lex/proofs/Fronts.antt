-- Two longest tokens at the front of one text.
use Rattle.std.proofs.Common.{◌≡◌, ℕ, ◌+◌, ◌-◌, ◌<◌, ◌≤◌, List, ◌++◌, length, take, refl, sym, ap, subst, ◌∙◌, length-append, arith}
use Rattle.std.proofs.lemmas.List.{append_cancel_left, take_at}
use Rattle.std.proofs.Math.Seq.{take-append-add}
use Rattle.mig_token.specs.Token.{Tok}
use Rattle.mig_token.specs.Lexical.{IsToken, IsLongest}

pub not_less : (m n : ℕ) → (m < n → ⊥) → n ≤ m
not_less m n never = omega (arith, never)

-- of two fronts the longer one has the other at its front
longer : (f r g s : List ℕ) (n : ℕ) → f ++ r ≡ g ++ s → length g ≡ length f + n → g ≡ f ++ take n r
longer f r g s n e h = sym (take_at g s (length f + n) h) ∙ ap (take (length f + n)) (sym e) ∙ take-append-add f r n

no_longer : (f r g s : List ℕ) (u : Tok) → f ++ r ≡ g ++ s → IsToken g u → IsLongest f r → length g ≤ length f
no_longer f r g s u e t longest = not_less (length f) (length g) (λ lt.
    let n = length g - length f in
    longest n (omega arith) (omega (arith, ap length e, length-append f r, length-append g s)) u (subst (λ b. IsToken b u) (longer f r g s n e (omega arith)) t))

-- two longest tokens at the front of one text have the same bytes
pub one_front : (f r g s : List ℕ) (t u : Tok) → f ++ r ≡ g ++ s → IsToken f t → IsToken g u → IsLongest f r → IsLongest g s → (f ≡ g) × (r ≡ s)
one_front f r g s t u e x y lf lg =
    let same : length g ≡ length f = omega (arith, no_longer f r g s u e y lf, no_longer g s f r t (sym e) x lg) in
    let eq : f ≡ g = sym (take_at f r (length f) refl) ∙ ap (take (length f)) e ∙ take_at g s (length f) same in
    (eq, append_cancel_left f r s (e ∙ ap (λ b. b ++ s) (sym eq)))
