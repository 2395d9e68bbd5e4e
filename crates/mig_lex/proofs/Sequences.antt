-- Reading of one token after another.
use Rattle.std.proofs.Common.{◌≡◌, ℕ, zero, ◌<◌, ◌≤◌, List, [], ◌∷◌, ◌++◌, length, refl, sym, ap, subst, ◌∙◌, append_assoc, append-nil, length-append, arith}
use Rattle.std.specs.List.{AllByRecursion}
use Rattle.mig_token.specs.Token.{Tok}
use Rattle.mig_token.specs.Lexical.{IsWhite, IsToken, AreTokens, no_token, token}
use Rattle.mig_lex.specs.Reading.{SkipsWhite, ReadsToken, HasNoToken}
use Rattle.mig_lex.specs.Law.{OneReading}
use Rattle.mig_lex.proofs.Lists.{all_at, all_joined, all_behind, first_of_front}
use Rattle.mig_lex.proofs.Fronts.{one_front}
use Rattle.mig_lex.proofs.Forms.{first, first_not_white, has_byte, one_token}

-- the bytes do not begin with white space
abbrev pub IsFresh : List ℕ → Type 0
IsFresh b = 0 < length b → IsWhite (first b) → ⊥

abbrev White : List ℕ → Type 0
White b = AllByRecursion IsWhite b

fresh_front : (front rest : List ℕ) (t : Tok) → IsToken front t → IsFresh (front ++ rest)
fresh_front front rest t x h w = first_not_white x (subst IsWhite (first_of_front front rest (has_byte x)) w)

white_first : (b : List ℕ) → White b → 0 < length b → IsWhite (first b)
white_first b w h = all_at IsWhite b w zero h

-- white space at the front is told from what follows
white_parted : (w v r s : List ℕ) → White w → White v → IsFresh r → IsFresh s → w ++ r ≡ v ++ s → r ≡ s
white_parted [] [] r s a b f g e = e
white_parted [] (y ∷ v) r s a b f g e = absurd (f (omega (arith, ap length e)) (subst IsWhite (sym (ap first e)) b.0))
white_parted (x ∷ w) [] r s a b f g e = absurd (g (omega (arith, ap length e)) (subst IsWhite (ap first e) a.0))
white_parted (x ∷ w) (y ∷ v) r s a b f g e = let tail : w ++ r ≡ v ++ s = cc in white_parted w v r s a.1 b.1 f g tail

white_no_token : (w v front rest : List ℕ) (t : Tok) → White w → w ≡ v ++ (front ++ rest) → IsToken front t → ⊥
white_no_token w v front rest t a e x =
    let behind = all_behind IsWhite v (front ++ rest) (subst White e a) in
    let some : 0 < length (front ++ rest) = omega (arith, length-append front rest, has_byte x) in
    fresh_front front rest t x some (white_first (front ++ rest) behind some)

-- ---- white space before tokens
more_white : (w : List ℕ) → White w → {b : List ℕ} {ts : List Tok} → AreTokens b ts → AreTokens (w ++ b) ts
more_white w a (no_token v c) = no_token (w ++ v) (all_joined IsWhite w v a c)
more_white w a (token v front rest t ts c x l more) =
    subst (λ (b : List ℕ). AreTokens b (t ∷ ts)) (append_assoc w v (front ++ rest)) (token (w ++ v) front rest t ts (all_joined IsWhite w v a c) x l more)

less_white : (w r : List ℕ) → White w → IsFresh r → {b : List ℕ} {ts : List Tok} → AreTokens b ts → b ≡ w ++ r → AreTokens r ts
less_white w r a f (no_token v c) e = no_token r (all_behind IsWhite w r (subst White e c))
less_white w r a f (token v front rest t ts c x l more) e =
    let same : front ++ rest ≡ r = white_parted v w (front ++ rest) r c a (fresh_front front rest t x) f e in
    subst (λ (b : List ℕ). AreTokens b (t ∷ ts)) same (token [] front rest t ts tt x l more)

-- ---- the next token
next_token : (bytes after : List ℕ) (t : Tok) → ReadsToken bytes t after → {b : List ℕ} {us : List Tok} → AreTokens b us → b ≡ bytes → (ts : List Tok) × (us ≡ t ∷ ts) × AreTokens after ts
next_token bytes after t h (no_token w a) e = absurd (white_no_token w [] h.front after t a (e ∙ h.whole) h.token)
next_token bytes after t h (token w front rest u us a x l more) e =
    let same : front ++ rest ≡ h.front ++ after = white_parted w [] (front ++ rest) (h.front ++ after) a tt (fresh_front front rest u x) (fresh_front h.front after t h.token) (e ∙ h.whole) in
    let f = one_front front rest h.front after u t same x h.token l h.longest in
    (us, ap (λ (v : Tok). v ∷ us) (one_token front h.front u t f.0 x h.token), subst (λ (b : List ℕ). AreTokens b us) f.1 more)

this_token : (bytes after : List ℕ) (t : Tok) (ts : List Tok) → ReadsToken bytes t after → AreTokens after ts → AreTokens bytes (t ∷ ts)
this_token bytes after t ts h more = subst (λ (b : List ℕ). AreTokens b (t ∷ ts)) (sym h.whole) (token [] h.front after t ts tt h.token h.longest more)

-- ---- the loop
-- the tokens before the rest are these, and what the bytes are as tokens the rest decides
pub record BeginWith (bytes : List ℕ) (front : List Tok) (rest : List ℕ) : Type 0 where
  pub joined : (ts : List Tok) → AreTokens rest ts → AreTokens bytes (front ++ ts)
  pub parted : (us : List Tok) → AreTokens bytes us → (ts : List Tok) × (us ≡ front ++ ts) × AreTokens rest ts

white_onto : (bytes rest : List ℕ) → SkipsWhite bytes rest → (ts : List Tok) → AreTokens rest ts → AreTokens bytes ts
white_onto bytes rest s ts x = subst (λ (b : List ℕ). AreTokens b ts) (sym s.whole) (more_white s.white s.each x)

white_off : (bytes rest : List ℕ) → SkipsWhite bytes rest → (ts : List Tok) → AreTokens bytes ts → AreTokens rest ts
white_off bytes rest s ts x = less_white s.white rest s.each s.last x s.whole

pub begin : (bytes rest : List ℕ) → SkipsWhite bytes rest → BeginWith bytes [] rest
begin bytes rest s = record {
  joined = λ ts x. white_onto bytes rest s ts x;
  parted = λ us x. (us, refl, white_off bytes rest s us x);
}

pub begin_more : (bytes : List ℕ) (front : List Tok) (rest after next : List ℕ) (t : Tok) → BeginWith bytes front rest → ReadsToken rest t after → SkipsWhite after next → BeginWith bytes (front ++ t ∷ []) next
begin_more bytes front rest after next t b h s = record {
  joined = λ ts x. subst (AreTokens bytes) (sym (append_assoc front (t ∷ []) ts)) (b.joined (t ∷ ts) (this_token rest after t ts h (white_onto after next s ts x)));
  parted = λ us x.
      let p = b.parted us x in
      let q = next_token rest after t h p.2 refl in
      (q.0, p.1 ∙ ap (λ (l : List Tok). front ++ l) q.1 ∙ sym (append_assoc front (t ∷ []) q.0), white_off after next s q.0 q.2);
}

pub begin_smaller : (rest after next : List ℕ) (t : Tok) → ReadsToken rest t after → SkipsWhite after next → length next < length rest
begin_smaller rest after next t h s =
    omega (arith, ap length h.whole, length-append h.front after, has_byte h.token, ap length s.whole, length-append s.white next)

none_left : {b : List ℕ} {ts : List Tok} → AreTokens b ts → b ≡ [] → ts ≡ []
none_left (no_token w a) e = refl
none_left (token w front rest t ts a x l more) e = absurd (omega (arith, ap length e, length-append w (front ++ rest), length-append front rest, has_byte x))

pub all_read : (bytes : List ℕ) (front : List Tok) (rest : List ℕ) → BeginWith bytes front rest → length rest ≤ 0 → AreTokens bytes front
all_read bytes front [] b h = subst (AreTokens bytes) (append-nil front) (b.joined [] (no_token [] tt))
all_read bytes front (c ∷ cs) b h = absurd (omega arith)

no_tokens : (rest : List ℕ) → IsFresh rest → 0 < length rest → HasNoToken rest → {b : List ℕ} {ts : List Tok} → AreTokens b ts → b ≡ rest → ⊥
no_tokens rest f some never (no_token w a) e = f some (white_first rest (subst White e a) some)
no_tokens rest f some never (token w front r t ts a x l more) e =
    never front r t (sym (white_parted w [] (front ++ r) rest a tt (fresh_front front r t x) f e)) x

pub none_read : (bytes : List ℕ) (front : List Tok) (rest : List ℕ) → BeginWith bytes front rest → IsFresh rest → 0 < length rest → HasNoToken rest → (us : List Tok) → AreTokens bytes us → ⊥
none_read bytes front rest b f some never us x = no_tokens rest f some never (b.parted us x).2 refl

-- ---- one reading
same_tokens : {b c : List ℕ} {ts us : List Tok} → AreTokens b ts → AreTokens c us → b ≡ c → ts ≡ us
same_tokens (no_token w a) (no_token v b) e = refl
same_tokens (no_token w a) (token v front rest t ts b x l more) e = absurd (white_no_token w v front rest t a e x)
same_tokens (token v front rest t ts b x l more) (no_token w a) e = absurd (white_no_token w v front rest t a (sym e) x)
same_tokens (token v front rest t ts a x l more) (token w other behind u us b y m again) e =
    let same : front ++ rest ≡ other ++ behind = white_parted v w (front ++ rest) (other ++ behind) a b (fresh_front front rest t x) (fresh_front other behind u y) e in
    let f = one_front front rest other behind t u same x y l m in
    let first_is : t ≡ u = one_token front other t u f.0 x y in
    let rest_is : ts ≡ us = same_tokens more again f.1 in
    λ i. first_is i ∷ rest_is i

pub one_reading : OneReading
one_reading bytes ts us x y = same_tokens x y refl
