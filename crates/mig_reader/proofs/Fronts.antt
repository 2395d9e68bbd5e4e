-- The tokens at the front that a reader has read.
use Rattle.std.proofs.Common.{◌≡◌, ◌⊎◌, inl, inr, ℕ, ℤ, List, [], ◌∷◌, ◌++◌, drop, Bool, true, false, Option, Some, None, refl, sym, ap, subst, ◌∙◌, append_assoc}
use Rattle.std.specs.Prelude.{IfSome}
use Rattle.mig_model.specs.declared.kind.Kind.{Kind}
use Rattle.mig_model.specs.declared.kind.Kind.TheVariants as K
use Rattle.mig_token.specs.declared.mark.Mark.{Mark}
use Rattle.mig_token.specs.declared.mark.Mark.TheVariants as M
use Rattle.mig_token.specs.Token.{Tok, mark, name, number, text}
use Rattle.mig_token.proofs.Marks.{is_one}
use Rattle.mig_reader.specs.Grammar.{kind_word, optional}
use Rattle.mig_reader.specs.Reading.{◌>>=◌, if_some, Read, Reader, begins, behind, optional_at, name_at, text_at, number_at, first_kind, kind_at, kind_or_any_at, word, last_word}
use Rattle.std.proofs.lemmas.Option.{same_Some}
use Rattle.mig_model.proofs.Options.{pass_some, chosen}

abbrev pub here : {A : Type 0} → A → List Tok → Read A
here x rest = Some (x, rest)

pub bind_some : {A B : Type 0} (r : Option A) (f : A → Option B) (y : B) → (r >>= f) ≡ Some y → (x : A) × (r ≡ Some x) × (f x ≡ Some y)
bind_some (Some x) f y e = (x, refl, e)
bind_some None f y e = absurd cc

pub one_of : {A B : Type 0} (o : Option A) (f : A → Option B) (r : Option B) (y : Option B) → if_some o f r ≡ y → ((x : A) × (o ≡ Some x) × (f x ≡ y)) ⊎ (r ≡ y)
one_of (Some x) f r y e = inl (x, refl, e)
one_of None f r y e = inr e

-- tokens at the front that are in F, and the rest
pub record Front (F : List Tok → Type 0) (ts rest : List Tok) : Type 0 where
  pub a : List Tok
  pub is : ts ≡ a ++ rest
  pub good : F a

pub moved : {X : Type 0} (F : X → List Tok → Type 0) (u t : X) (a ts mid rest : List Tok) → ts ≡ a ++ mid → F u a → here u mid ≡ here t rest → Front (F t) ts rest
moved F u t a ts mid rest e p h =
    let q = same_Some (u, mid) (t, rest) h in
    record { a = a; is = e ∙ ap (λ (x : _). a ++ x.1) q; good = subst (λ (x : _). F x.0 a) q p }

-- what a reader reads is in F
abbrev pub Sound : {A : Type 0} → Reader A → (List Tok → A → Type 0) → Type 0
Sound {A} R F = (ts : List Tok) (x : A) (rest : List Tok) → R ts ≡ here x rest → Front (λ a. F a x) ts rest

pub begins_is : (m : Mark) (ts : List Tok) → begins m ts ≡ true → ts ≡ mark m ∷ drop 1 ts
begins_is m [] e = absurd cc
begins_is m (mark n ∷ ts) e =
    ap (λ (k : Mark). mark k ∷ ts) (sym (is_one m n e))
begins_is m (name n ∷ ts) e = absurd cc
begins_is m (number n ∷ ts) e = absurd cc
begins_is m (text n ∷ ts) e = absurd cc

pub behind_is : (m : Mark) (ts rest : List Tok) → behind m ts ≡ Some rest → ts ≡ mark m ∷ rest
behind_is m ts rest e =
    let p = pass_some (begins m ts) (Some (drop 1 ts)) rest e in
    begins_is m ts p.0 ∙ ap (λ (l : List Tok). mark m ∷ l) (same_Some (drop 1 ts) rest p.1)

pub name_is : (ts : List Tok) (n : List ℕ) (rest : List Tok) → name_at ts ≡ here n rest → ts ≡ name n ∷ rest
name_is [] n rest e = absurd cc
name_is (mark m ∷ ts) n rest e = absurd cc
name_is (name m ∷ ts) n rest e = ap (λ (x : List ℕ × List Tok). name x.0 ∷ x.1) (same_Some (m, ts) (n, rest) e)
name_is (number m ∷ ts) n rest e = absurd cc
name_is (text m ∷ ts) n rest e = absurd cc

pub text_is : (ts : List Tok) (n : List ℕ) (rest : List Tok) → text_at ts ≡ here n rest → ts ≡ text n ∷ rest
text_is [] n rest e = absurd cc
text_is (mark m ∷ ts) n rest e = absurd cc
text_is (name m ∷ ts) n rest e = absurd cc
text_is (number m ∷ ts) n rest e = absurd cc
text_is (text m ∷ ts) n rest e = ap (λ (x : List ℕ × List Tok). text x.0 ∷ x.1) (same_Some (m, ts) (n, rest) e)

pub number_is : (ts : List Tok) (z : ℤ) (rest : List Tok) → number_at ts ≡ here z rest → ts ≡ number z ∷ rest
number_is [] z rest e = absurd cc
number_is (mark m ∷ ts) z rest e = absurd cc
number_is (name m ∷ ts) z rest e = absurd cc
number_is (number m ∷ ts) z rest e = ap (λ (x : ℤ × List Tok). number x.0 ∷ x.1) (same_Some (m, ts) (z, rest) e)
number_is (text m ∷ ts) z rest e = absurd cc

-- the kind word at the front
pub kind_is : (ts : List Tok) (k : Kind) → first_kind ts ≡ Some k → (m : Mark) × (kind_word m ≡ Some k) × (ts ≡ mark m ∷ drop 1 ts)
kind_is [] k e = absurd cc
kind_is (mark m ∷ ts) k e = (m, e, refl)
kind_is (name m ∷ ts) k e = absurd cc
kind_is (number m ∷ ts) k e = absurd cc
kind_is (text m ∷ ts) k e = absurd cc

abbrev pub word_of : Kind → Mark
word_of K.Byte = M.Byte
word_of K.Short = M.Short
word_of K.Int = M.Int
word_of K.Long = M.Long
word_of K.Float = M.Float
word_of K.Double = M.Double
word_of K.Text = M.Text
word_of K.Bytes = M.Bytes
word_of K.Ints = M.Ints
word_of K.Longs = M.Longs
word_of K.Null = M.Null
word_of K.Bool = M.Bool
word_of K.Whole = M.Whole
word_of _ = M.Any

by_word : (m : Mark) → IfSome (kind_word m) (λ k. word_of k ≡ m)
by_word M.Byte = refl
by_word M.Short = refl
by_word M.Int = refl
by_word M.Long = refl
by_word M.Float = refl
by_word M.Double = refl
by_word M.Text = refl
by_word M.Bytes = refl
by_word M.Ints = refl
by_word M.Longs = refl
by_word M.Null = refl
by_word M.Bool = refl
by_word M.Whole = refl
by_word _ = tt

pub word_is : (m : Mark) (k : Kind) → kind_word m ≡ Some k → word_of k ≡ m
word_is m k h = subst (λ (o : Option Kind). IfSome o (λ k. word_of k ≡ m)) h (by_word m)

-- tokens, then a mark, then the rest
pub then_mark : (a ts mid rest : List Tok) (m : Mark) → ts ≡ a ++ mid → mid ≡ mark m ∷ rest → ts ≡ (a ++ mark m ∷ []) ++ rest
then_mark a ts mid rest m e f = e ∙ ap (λ (l : List Tok). a ++ l) f ∙ sym (append_assoc a (mark m ∷ []) rest)

optional_by : (m : Mark) (b : Bool) (ts : List Tok) → begins m ts ≡ b → ts ≡ optional m (optional_at m ts).0 ++ (optional_at m ts).1
optional_by m true ts h =
    let f : optional_at m ts ≡ (true, drop 1 ts) = rw h refl in
    begins_is m ts h ∙ ap (λ (u : Bool × List Tok). optional m u.0 ++ u.1) (sym f)
optional_by m false ts h =
    let f : optional_at m ts ≡ (false, ts) = rw h refl in
    ap (λ (u : Bool × List Tok). optional m u.0 ++ u.1) (sym f)

pub optional_is : (m : Mark) (ts : List Tok) → ts ≡ optional m (optional_at m ts).0 ++ (optional_at m ts).1
optional_is m ts = optional_by m (begins m ts) ts refl

pub word_sound : {A : Type 0} (m : Mark) (R S : Reader A) (F : List Tok → A → Type 0) → Sound R (λ a x. F (mark m ∷ a) x) → Sound S F → Sound (word m R S) F
word_sound m R S F r s ts x rest e = elim (chosen (begins m ts) _ _ (here x rest) e) [
  | inl p ↦
      let f = r (drop 1 ts) x rest p.1 in
      record { a = mark m ∷ f.a; is = begins_is m ts p.0 ∙ ap (λ (l : List Tok). mark m ∷ l) f.is; good = f.good }
  | inr p ↦ s ts x rest p.1
]

pub last_word_sound : {A : Type 0} (m : Mark) (R : Reader A) (F : List Tok → A → Type 0) → Sound R (λ a x. F (mark m ∷ a) x) → Sound (last_word m R) F
last_word_sound m R F r ts x rest e =
    let b = bind_some (behind m ts) R (x, rest) e in
    let f = r b.0 x rest b.2 in
    record { a = mark m ∷ f.a; is = behind_is m ts b.0 b.1 ∙ ap (λ (l : List Tok). mark m ∷ l) f.is; good = f.good }

-- nothing is read
pub done_sound : {A : Type 0} (F : List Tok → A → Type 0) (y : A) → F [] y → Sound (λ us. Some (y, us)) F
done_sound F y p ts x rest e = moved (λ x a. F a x) y x [] ts ts rest refl p e

-- a kind word
abbrev pub IsKind : List Tok → Kind → Type 0
IsKind a k = (m : Mark) × (kind_word m ≡ Some k) × (a ≡ mark m ∷ [])

pub kind_sound : Sound kind_at IsKind
kind_sound ts k rest e =
    let b = bind_some (first_kind ts) _ (k, rest) e in
    let w = kind_is ts b.0 b.1 in
    moved (λ x a. IsKind a x) b.0 k (mark w.0 ∷ []) ts (drop 1 ts) rest w.2 (w.0, w.1, refl) b.2

-- a kind word, or `any`
abbrev pub IsKindOrAny : List Tok → Option Kind → Type 0
IsKindOrAny a (Some k) = IsKind a k
IsKindOrAny a None = a ≡ mark M.Any ∷ []

pub kind_or_any_sound : Sound kind_or_any_at IsKindOrAny
kind_or_any_sound ts k rest e = elim (one_of (first_kind ts) _ _ (here k rest) e) [
  | inl p ↦
      let w = kind_is ts p.0 p.1 in
      moved (λ x a. IsKindOrAny a x) (Some p.0) k (mark w.0 ∷ []) ts (drop 1 ts) rest w.2 (w.0, w.1, refl) p.2
  | inr p ↦
      let b = bind_some (behind M.Any ts) _ (k, rest) p in
      moved (λ x a. IsKindOrAny a x) None k (mark M.Any ∷ []) ts b.0 rest (behind_is M.Any ts b.0 b.1) refl b.2
]
