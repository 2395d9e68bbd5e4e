-- Cutting of a text at each `;`.
use Rattle.std.proofs.Common.{◌≡◌, ◌≢◌, ℕ, ◌+◌, ◌-◌, ◌<◌, ◌≤◌, List, [], ◌∷◌, ◌++◌, length, take, drop, get_or, refl, sym, ap, subst, ◌∙◌, append_assoc, append-nil, length-take, length-take-le, drop_of_length-le, arith}
use Rattle.std.proofs.lemmas.List.{take_more, drop-take, drop-append-le}
use Rattle.std.specs.List.{AllByRecursion, flat_map}
use Rattle.mig_token.specs.Cuts.{IsUncut, Cuts}
use Rattle.mig_lex.specs.Law.{OneCut}
use Rattle.mig_lex.proofs.Lists.{all_joined}

abbrev ended : List ℕ → List ℕ
ended piece = piece ++ 59 ∷ []

no_semicolon : (p r q : List ℕ) → p ++ 59 ∷ r ≡ q → IsUncut q → ⊥
no_semicolon [] r [] e u = absurd (omega (arith, ap length e))
no_semicolon [] r (y ∷ q) e u = u.0 (sym (ap (λ (l : List ℕ). get_or l 0 0) e))
no_semicolon (x ∷ p) r [] e u = absurd (omega (arith, ap length e))
no_semicolon (x ∷ p) r (y ∷ q) e u = no_semicolon p r q (ap (drop 1) e) u.1

one_piece : (p r q s : List ℕ) → p ++ 59 ∷ r ≡ q ++ 59 ∷ s → IsUncut p → IsUncut q → (p ≡ q) × (r ≡ s)
one_piece [] r [] s e u v = (refl, ap (drop 1) e)
one_piece [] r (y ∷ q) s e u v = absurd (v.0 (sym (ap (λ (l : List ℕ). get_or l 0 0) e)))
one_piece (x ∷ p) r [] s e u v = absurd (u.0 (ap (λ (l : List ℕ). get_or l 0 0) e))
one_piece (x ∷ p) r (y ∷ q) s e u v =
    let h = one_piece p r q s (ap (drop 1) e) u.1 v.1 in
    let is : x ≡ y = ap (λ (l : List ℕ). get_or l 0 0) e in
    ((λ i. is i ∷ h.0 i), h.1)

abbrev whole_of : List (List ℕ) → List ℕ → List ℕ
whole_of ps r = flat_map ended ps ++ r

more_of : (p : List ℕ) (ps : List (List ℕ)) (r : List ℕ) → whole_of (p ∷ ps) r ≡ p ++ 59 ∷ whole_of ps r
more_of p ps r = append_assoc (ended p) (flat_map ended ps) r ∙ append_assoc p (59 ∷ []) (whole_of ps r)

same_pieces : (ps qs : List (List ℕ)) (r s : List ℕ) → whole_of ps r ≡ whole_of qs s → AllByRecursion IsUncut ps → AllByRecursion IsUncut qs → IsUncut r → IsUncut s → (ps ≡ qs) × (r ≡ s)
same_pieces [] [] r s e a b u v = (refl, e)
same_pieces [] (q ∷ qs) r s e a b u v = absurd (no_semicolon q (whole_of qs s) r (sym (e ∙ more_of q qs s)) u)
same_pieces (p ∷ ps) [] r s e a b u v = absurd (no_semicolon p (whole_of ps r) s (sym (more_of p ps r) ∙ e) v)
same_pieces (p ∷ ps) (q ∷ qs) r s e a b u v =
    let h = one_piece p (whole_of ps r) q (whole_of qs s) (sym (more_of p ps r) ∙ e ∙ more_of q qs s) a.0 b.0 in
    let k = same_pieces ps qs r s h.1 a.1 b.1 u v in
    ((λ i. h.0 i ∷ k.0 i), k.1)

pub one_cut : OneCut
one_cut text ps qs r s x y = same_pieces ps qs r s (sym x.whole ∙ y.whole) x.each y.each x.last y.last

-- ---- the loop
pieces_joined : (ps : List (List ℕ)) (p : List ℕ) → AllByRecursion IsUncut ps → IsUncut p → AllByRecursion IsUncut (ps ++ p ∷ [])
pieces_joined [] p a u = (u, tt)
pieces_joined (q ∷ ps) p a u = (a.0, pieces_joined ps p a.1 u)

whole_joined : (ps : List (List ℕ)) (p : List ℕ) → flat_map ended (ps ++ p ∷ []) ≡ flat_map ended ps ++ ended p
whole_joined [] p = append-nil (ended p)
whole_joined (q ∷ ps) p = ap (λ (l : List ℕ). ended q ++ l) (whole_joined ps p) ∙ sym (append_assoc (ended q) (flat_map ended ps) (ended p))

pub cut_more : (front : List ℕ) (ps : List (List ℕ)) (rest : List ℕ) (c : ℕ) → Cuts front ps rest → c ≢ 59 → Cuts (front ++ c ∷ []) ps (rest ++ c ∷ [])
cut_more front ps rest c x never = record {
  whole = ap (λ (l : List ℕ). l ++ c ∷ []) x.whole ∙ append_assoc (flat_map ended ps) rest (c ∷ []);
  each = x.each;
  last = all_joined (λ b. b ≢ 59) rest (c ∷ []) x.last (never, tt);
}

pub cut_here : (front : List ℕ) (ps : List (List ℕ)) (rest : List ℕ) → Cuts front ps rest → Cuts (front ++ 59 ∷ []) (ps ++ rest ∷ []) []
cut_here front ps rest x = record {
  whole = ap (λ (l : List ℕ). l ++ 59 ∷ []) x.whole ∙ append_assoc (flat_map ended ps) rest (59 ∷ []) ∙ sym (append-nil (flat_map ended ps ++ ended rest) ∙ refl) ∙ ap (λ (l : List ℕ). l ++ []) (sym (whole_joined ps rest));
  each = pieces_joined ps rest x.each x.last;
  last = tt;
}

module _ (text : List ℕ) (ps : List (List ℕ)) (start i : ℕ) (behind : start ≤ i) (lt : i < length text) (so_far : Cuts (take i text) ps (drop start (take i text))) where
  longer : take (i + 1) text ≡ take i text ++ get_or text i 0 ∷ []
  longer = take_more text i 0 lt

  pub step_on : get_or text i 0 ≢ 59 → Cuts (take (i + 1) text) ps (drop start (take (i + 1) text))
  step_on other =
      let size : length (take i text) ≡ i = length-take-le i text (omega arith) in
      let e : drop start (take i text ++ get_or text i 0 ∷ []) ≡ drop start (take i text) ++ get_or text i 0 ∷ [] = drop-append-le start (take i text) (get_or text i 0 ∷ []) (omega arith) in
      rw (longer, e) (cut_more (take i text) ps (drop start (take i text)) (get_or text i 0) so_far other)

  pub step_here : get_or text i 0 ≡ 59 → (piece : List ℕ) → piece ≡ take (i - start) (drop start text) → Cuts (take (i + 1) text) (ps ++ piece ∷ []) (drop (i + 1) (take (i + 1) text))
  step_here semicolon piece is =
      let sum : start + (i - start) ≡ i = omega arith in
      let same : drop start (take i text) ≡ piece = ap (λ j. drop start (take j text)) (sym sum) ∙ drop-take start (i - start) text ∙ sym is in
      let within : length (take (i + 1) text) ≤ i + 1 = omega (arith, length-take (i + 1) text) in
      let empty : drop (i + 1) (take (i + 1) text) ≡ [] = drop_of_length-le (take (i + 1) text) within in
      let cut : Cuts (take i text ++ 59 ∷ []) (ps ++ piece ∷ []) [] = cut_here (take i text) ps piece (subst (Cuts (take i text) ps) same so_far) in
      rw empty (subst (λ (l : List ℕ). Cuts l (ps ++ piece ∷ []) []) (ap (λ c. take i text ++ c ∷ []) (sym semicolon) ∙ sym longer) cut)
