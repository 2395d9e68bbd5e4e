-- Reading of words and signs.
use Rattle.std.proofs.Common.{◌≡◌, ◌≢◌, ◌⊎◌, inl, inr, ℕ, zero, suc, ◌<◌, ◌≤◌, List, [], ◌∷◌, ◌++◌, length, take, drop, get_or, refl, sym, ap, subst, ◌∙◌, length-append, length-take-le, take-append-drop, arith}
use Rattle.std.specs.List.{AllByRecursion}
use Rattle.mig_token.specs.declared.mark.Mark.{Mark}
use Rattle.mig_token.specs.declared.mark.Mark.TheVariants as M
use Rattle.mig_token.specs.Spelling.{spelling}
use Rattle.mig_token.specs.Token.{Tok, mark, name}
use Rattle.mig_token.specs.Lexical.{IsLetter, IsWordByte, IsWord, IsToken, a_mark, a_name}
use Rattle.mig_lex.specs.Reading.{IsRun, ReadsToken, HasNoToken}
use Rattle.mig_lex.proofs.Lists.{all_taken, no_more, first_of_front, front_parted}
use Rattle.mig_lex.proofs.Forms.{first, word_first, IsSign, IsSignByte, IsOther, IsNumberByte, sign_first, form_of, letter_form, other_form, word_or_sign, has_byte}

-- ---- words
word_parts : (b : List ℕ) → IsWord b → AllByRecursion IsWordByte b × (length b ≤ 64) × (0 < length b)
word_parts [] w = absurd w
word_parts (c ∷ cs) w = ((inl w.0, w.1), omega (arith, w.2), omega arith)

pub word_taken : (bytes : List ℕ) (n : ℕ) → IsRun IsWordByte 64 bytes n → IsLetter (first bytes) → IsWord (take n bytes)
word_taken [] n run l = absurd (omega (arith, l))
word_taken (b ∷ bytes) zero run l = absurd (run.last (omega arith) (omega arith) (inl l))
word_taken (b ∷ bytes) (suc n) run l =
    let within = run.within in
    let short = run.short in
    let size : length (take n bytes) ≡ n = length-take-le n bytes (omega arith) in
    (l, all_taken IsWordByte bytes n (omega arith) (λ k h. run.each (suc k) (omega arith)), omega arith)

module _ (bytes : List ℕ) (n : ℕ) (run : IsRun IsWordByte 64 bytes n) (l : IsLetter (first bytes)) where
  word_read_here : (t : Tok) → IsToken (take n bytes) t → ReadsToken bytes t (drop n bytes)
  word_read_here t x =
      let w = word_taken bytes n run l in
      record {
        front = take n bytes;
        whole = sym (take-append-drop n bytes);
        token = x;
        longest = λ k some fits u y.
            let e = take n bytes ++ take k (drop n bytes) in
            let is : first e ≡ first (take n bytes) = first_of_front (take n bytes) (take k (drop n bytes)) (word_parts (take n bytes) w).2 in
            let v : IsWord e = letter_form (form_of y) (subst IsLetter (sym is) (word_first (take n bytes) w)) in
            no_more IsWordByte 64 bytes n k run some fits e refl (word_parts e v).0 (word_parts e v).1;
      }

  pub mark_read : (word rest : List ℕ) (m : Mark) → word ≡ take n bytes → rest ≡ drop n bytes → word ≡ spelling m → ReadsToken bytes (mark m) rest
  mark_read word rest m p q e =
      let x : IsToken (take n bytes) (mark m) = subst (λ (b : List ℕ). IsToken b (mark m)) (sym e ∙ p) (a_mark m) in
      rw q (word_read_here (mark m) x)

  pub name_read : (word rest : List ℕ) → word ≡ take n bytes → rest ≡ drop n bytes → ((m : Mark) → word ≢ spelling m) → ReadsToken bytes (name word) rest
  name_read word rest p q other =
      let x : IsToken word (name word) = a_name word (subst IsWord (sym p) (word_taken bytes n run l)) other in
      rw q (word_read_here (name word) (subst (λ (b : List ℕ). IsToken b (name word)) p x))

-- ---- signs
dots_other : IsOther 46
dots_other = sign_first (46 ∷ 46 ∷ []) (inr refl)

dots_end : (rest : List ℕ) (k : ℕ) → 0 < k → k ≤ length rest → IsSign (46 ∷ 46 ∷ take k rest) → ⊥
dots_end rest k some fits (inl s) = omega (arith, ap length s.1, length-take-le k rest fits)
dots_end rest k some fits (inr s) = omega (arith, ap length s, length-take-le k rest fits)

pub dots_read : (rest : List ℕ) → ReadsToken (46 ∷ 46 ∷ rest) (mark M.Dots) rest
dots_read rest = record {
  front = 46 ∷ 46 ∷ [];
  whole = refl;
  token = a_mark M.Dots;
  longest = λ k some fits u y. dots_end rest k some fits (other_form (form_of y) dots_other.letter dots_other.number dots_other.quotation).2;
}

sign_end : (c : ℕ) (rest : List ℕ) (k : ℕ) → IsSignByte c → 0 < k → k ≤ length rest → IsSign (c ∷ take k rest) → ⊥
sign_end c rest k b some fits (inl s) = omega (arith, ap length s.1, length-take-le k rest fits)
sign_end c rest k b some fits (inr s) = b.no_dot (ap first s)

module _ (c : ℕ) (rest : List ℕ) (letter : IsLetter c → ⊥) (number : IsNumberByte c → ⊥) (quotation : c ≢ 34) where
  sign_byte : (m : Mark) → c ∷ [] ≡ spelling m → IsWord (spelling m) ⊎ IsSign (spelling m) → IsSignByte c
  sign_byte m e (inl w) = absurd (letter (subst IsLetter (sym (ap first e)) (word_first (spelling m) w)))
  sign_byte m e (inr (inl s)) = subst IsSignByte (sym (ap first (e ∙ s.1))) s.2
  sign_byte m e (inr (inr s)) = absurd (omega (arith, ap length (e ∙ s)))

  pub sign_read : (m : Mark) → c ∷ [] ≡ spelling m → ReadsToken (c ∷ rest) (mark m) rest
  sign_read m e = record {
    front = c ∷ [];
    whole = refl;
    token = subst (λ (b : List ℕ). IsToken b (mark m)) (sym e) (a_mark m);
    longest = λ k some fits u y. sign_end c rest k (sign_byte m e (word_or_sign m)) some fits (other_form (form_of y) letter number quotation).2;
  }

  -- neither a sign of one byte nor `..`
  pub no_sign : ((m : Mark) → c ∷ [] ≢ spelling m) → (c ≡ 46 → first rest ≡ 46 → ⊥) → HasNoToken (c ∷ rest)
  no_sign other dots [] r t e x = absurd (omega (arith, has_byte x))
  no_sign other dots (d ∷ ds) r t e x =
      let is : c ≡ d = ap first e in
      let f = other_form (form_of x) (λ h. letter (subst IsLetter (sym is) h)) (λ h. number (subst IsNumberByte (sym is) h)) (λ h. quotation (is ∙ h)) in
      by f.0 f.1 f.2
    where
      by : (m : Mark) → d ∷ ds ≡ spelling m → IsSign (d ∷ ds) → ⊥
      by m s (inl one) =
          let same : c ∷ [] ≡ one.0 ∷ [] = ap (λ (z : ℕ). z ∷ []) (ap first e ∙ ap first one.1) in
          other m (same ∙ sym one.1 ∙ s)
      by m s (inr two) =
          let tail : ds ≡ 46 ∷ [] = cc in
          let behind : rest ≡ ds ++ r = cc in
          dots (ap first e ∙ ap first two) (ap first behind ∙ ap (λ (l : List ℕ). first (l ++ r)) tail)

-- ---- the same of any bytes
take_one : (bytes : List ℕ) → 1 ≤ length bytes → take 1 bytes ≡ first bytes ∷ []
take_one [] h = absurd (omega arith)
take_one (x ∷ l) h = refl

module _ (bytes rest : List ℕ) (some : 1 ≤ length bytes) (behind : rest ≡ drop 1 bytes) (letter : IsLetter (first bytes) → ⊥) (number : IsNumberByte (first bytes) → ⊥) (quotation : first bytes ≢ 34) where
  pub sign_at : (m : Mark) → take 1 bytes ≡ spelling m → ReadsToken bytes (mark m) rest
  sign_at m e = subst (λ (l : List ℕ). ReadsToken l (mark m) rest) (sym (front_parted bytes rest (first bytes) some refl behind)) (sign_read (first bytes) rest letter number quotation m (sym (take_one bytes some) ∙ e))

  pub no_sign_at : ((m : Mark) → take 1 bytes ≢ spelling m) → (first bytes ≡ 46 → first rest ≡ 46 → ⊥) → HasNoToken bytes
  no_sign_at other dots = subst HasNoToken (sym (front_parted bytes rest (first bytes) some refl behind)) (no_sign (first bytes) rest letter number quotation (λ m e. other m (take_one bytes some ∙ e)) dots)

pub dots_at : (bytes rest : List ℕ) → 2 ≤ length bytes → first bytes ≡ 46 → get_or bytes 1 0 ≡ 46 → rest ≡ drop 2 bytes → ReadsToken bytes (mark M.Dots) rest
dots_at [] rest h p q d = absurd (omega arith)
dots_at (x ∷ []) rest h p q d = absurd (omega arith)
dots_at (x ∷ y ∷ l) rest h p q d =
    let e : x ∷ y ∷ l ≡ 46 ∷ 46 ∷ rest = λ i. p i ∷ q i ∷ sym d i in
    subst (λ (b : List ℕ). ReadsToken b (mark M.Dots) rest) (sym e) (dots_read rest)

pub nothing : (bytes : List ℕ) → length bytes < 1 → HasNoToken bytes
nothing bytes h front rest t e x = omega (arith, has_byte x, ap length e, length-append front rest)

pub second : (bytes : List ℕ) → first (drop 1 bytes) ≡ get_or bytes 1 0
second [] = refl
second (b ∷ bytes) = refl

pub second_some : (bytes : List ℕ) → get_or bytes 1 0 ≡ 46 → 2 ≤ length bytes
second_some [] e = absurd (omega (arith, e))
second_some (x ∷ []) e = absurd (omega (arith, e))
second_some (x ∷ y ∷ l) e = omega arith
