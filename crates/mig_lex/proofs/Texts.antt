-- Reading of strings.
use Rattle.std.proofs.Common.{◌≡◌, ◌≢◌, ℕ, suc, ◌+◌, ◌<◌, ◌≤◌, ◌==◌, Bool, true, false, List, [], ◌∷◌, ◌++◌, length, take, drop, get_or, refl, sym, ap, subst, ◌∙◌, append_assoc, length-append, length-take, length-take-le, take-append-drop, take_at, drop_at, ne_eqb, IsUtf8, IsTrue, ◌↔◌, MatchBool, HoldsAt, arith}
use Rattle.std.specs.List.{AllByRecursion, AllWithin}
use Rattle.mig_lex.proofs.Lists.{from_each, all_at, front_parted}
use Rattle.std.specs.Str.{chars, NonePass, NoCharPasses}
use Rattle.std.proofs.lemmas.List.{get_or_at, get_or_append_left}
use Rattle.std.proofs.lemmas.Str.{encodes-chars, NoCharPasses-byte}
use Rattle.mig_token.specs.Token.{Tok, text}
use Rattle.mig_token.specs.Lexical.{IsStringChar, IsToken, a_string}
use Rattle.mig_lex.specs.Reading.{IsRun, ReadsToken, HasNoToken}
use Rattle.mig_lex.proofs.Fronts.{not_less}
use Rattle.mig_lex.proofs.Forms.{first, IsText, quoted, form_of, quoted_form, has_byte}

none_quotation : (cs : List ℕ) → AllByRecursion IsStringChar cs → NonePass (λ c. c == 34) cs
none_quotation [] a = tt
none_quotation (c ∷ cs) a = (ne_eqb c 34 a.0.2, none_quotation cs a.1)

-- no byte of a text is a quotation mark
no_quotation : (s : List ℕ) (i : ℕ) → IsText s → i < length s → get_or s i 0 ≡ 34 → ⊥
no_quotation s i ok h e =
    let never : NoCharPasses (λ c. c == 34) s = (chars s, encodes-chars s ok.utf8, none_quotation (chars s) ok.each) in
    let f : (get_or s i 0 == 34) ≡ false = NoCharPasses-byte (λ c. c == 34) s i never h (omega arith) in
    let t : (34 == 34) ≡ false = sym (ap (λ c. c == 34) e) ∙ f in
    cc

pub text_read : (bytes s rest : List ℕ) → bytes ≡ s ++ 34 ∷ rest → IsText s → ReadsToken (34 ∷ bytes) (text s) rest
text_read bytes s rest e ok = record {
  front = quoted s;
  whole = ap (λ (l : List ℕ). 34 ∷ l) (e ∙ sym (append_assoc s (34 ∷ []) rest));
  token = a_string s ok.utf8 ok.each ok.short;
  longest = λ k some fits u y.
      let f = quoted_form (form_of y) refl in
      by k some fits f.0 f.1 f.2;
}
  where
    by : (k : ℕ) → 0 < k → k ≤ length rest → (r : List ℕ) → quoted s ++ take k rest ≡ quoted r → IsText r → ⊥
    by k some fits r is also =
        let tail : (s ++ 34 ∷ []) ++ take k rest ≡ r ++ 34 ∷ [] = ap (drop 1) is in
        let joined : s ++ 34 ∷ take k rest ≡ r ++ 34 ∷ [] = sym (append_assoc s (34 ∷ []) (take k rest)) ∙ tail in
        let size : length s < length r = omega (arith, ap length joined, length-append s (34 ∷ take k rest), length-append r (34 ∷ []), length-take-le k rest fits) in
        let at : get_or r (length s) 0 ≡ 34 = sym (get_or_append_left r (34 ∷ []) 0 (length s) size) ∙ ap (λ (l : List ℕ). get_or l (length s) 0) (sym joined) ∙ get_or_at s 34 (take k rest) 0 (length s) refl in
        no_quotation r (length s) also size at

-- a string ends at the first quotation mark behind that with which it begins
module _ (bytes : List ℕ) (n : ℕ) (run : IsRun (λ b. b ≢ 34) 1024 bytes n) where
  text_len : (s rest : List ℕ) → bytes ≡ s ++ 34 ∷ rest → IsText s → length s ≡ n
  text_len s rest e ok =
      let at : get_or bytes (length s) 0 ≡ 34 = ap (λ (l : List ℕ). get_or l (length s) 0) e ∙ get_or_at s 34 rest 0 (length s) refl in
      let short = ok.short in
      let size : length bytes ≡ length s + suc (length rest) = ap length e ∙ length-append s (34 ∷ rest) in
      let most : length s ≤ n = not_less n (length s) (λ lt. run.last (omega arith) (omega arith) (λ q. no_quotation s n ok lt (within lt ∙ q))) in
      let least : n ≤ length s = not_less (length s) n (λ lt. run.each (length s) lt at) in
      omega arith
    where
      within : n < length s → get_or s n 0 ≡ get_or bytes n 0
      within lt = sym (ap (λ (l : List ℕ). get_or l n 0) e ∙ get_or_append_left s (34 ∷ rest) 0 n lt)

  pub text_token : (front rest : List ℕ) (t : Tok) → 34 ∷ bytes ≡ front ++ rest → IsToken front t → (drop n bytes ≡ 34 ∷ rest) × IsText (take n bytes)
  text_token [] rest t e x = absurd (omega (arith, has_byte x))
  text_token (c ∷ cs) rest t e x =
      let f = quoted_form (form_of x) (sym (ap first e)) in
      let s = f.0 in
      let tail : bytes ≡ cs ++ rest = ap (drop 1) e in
      let same : cs ≡ s ++ 34 ∷ [] = ap (drop 1) f.1 in
      let whole : bytes ≡ s ++ 34 ∷ rest = tail ∙ ap (λ (l : List ℕ). l ++ rest) same ∙ append_assoc s (34 ∷ []) rest in
      let len = text_len s rest whole f.2 in
      (ap (drop n) whole ∙ drop_at s (34 ∷ rest) n len, subst IsText (sym (ap (take n) whole ∙ take_at s (34 ∷ rest) n len)) f.2)

  pub no_end : (rest : List ℕ) → rest ≡ drop n bytes → (first rest ≡ 34 → ⊥) → HasNoToken (34 ∷ bytes)
  no_end rest is never front r t e x = never (ap first (is ∙ (text_token front r t e x).0))

  pub no_text : (s : List ℕ) → s ≡ take n bytes → (IsText s → ⊥) → HasNoToken (34 ∷ bytes)
  no_text s is never front r t e x = never (subst IsText (sym is) (text_token front r t e x).1)

pub text_at : (bytes s rest behind : List ℕ) (n : ℕ) → s ≡ take n bytes → rest ≡ drop n bytes → n ≤ 1024 → first rest ≡ 34 → 1 ≤ length rest → behind ≡ drop 1 rest → IsUtf8 s → AllByRecursion IsStringChar (chars s) → ReadsToken (34 ∷ bytes) (text s) behind
text_at bytes s rest behind n p q short is some tail utf8 each =
    let whole : bytes ≡ s ++ rest = rw (p, q) (sym (take-append-drop n bytes)) in
    let size : length s ≤ 1024 = omega (arith, ap length p, length-take n bytes) in
    text_read bytes s behind (whole ∙ ap (λ (l : List ℕ). s ++ l) (front_parted rest behind 34 some is tail)) (record { utf8 = utf8; each = each; short = size })

pub tested : (r : Bool) (bytes : List ℕ) → IsUtf8 bytes
    → MatchBool r (AllWithin IsStringChar (chars bytes) 0 (length (chars bytes))) ((k : ℕ) × (k < length (chars bytes)) × HoldsAt (λ c. IsStringChar c → ⊥) (chars bytes) k)
    → IsTrue r ↔ (IsUtf8 bytes × AllByRecursion IsStringChar (chars bytes))
tested true bytes utf8 h = (λ t. (utf8, from_each IsStringChar (chars bytes) (λ k l. h k 0 (omega arith) l)), λ p. refl)
tested false bytes utf8 h = (λ t. absurd cc, λ p. absurd (h.2 0 (all_at IsStringChar (chars bytes) p.1 h.0 h.1)))
