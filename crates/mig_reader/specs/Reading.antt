-- Reading tokens from left to right: what was read and the tokens after it, or nothing.
use Rattle.std.specs.Prelude.{◌≡◌, ℕ, ℤ, zero, suc, List, [], ◌∷◌, ◌++◌, drop, Bool, true, false, Option, Some, None, Result, Ok, Err, if◌then◌else◌}
use Rattle.mig_model.specs.declared.kind.Kind.{Kind}
use Rattle.mig_token.specs.declared.mark.Mark.{Mark}
use Rattle.mig_token.specs.declared.mark.Mark.TheVariants as M
use Rattle.mig_token.specs.Spelling.{is_same}
use Rattle.mig_token.specs.Token.{Tok, mark, name, number, text}
use Rattle.mig_reader.specs.declared.error.ParseError.{ParseError}
use Rattle.mig_reader.specs.declared.error.ParseError.TheVariants as errors
use Rattle.mig_reader.specs.Grammar.{kind_word}

infixl 10 ◌>>=◌
abbrev pub ◌>>=◌ : {A B : Type 0} → Option A → (A → Option B) → Option B
(Some x) >>= f = f x
None >>= f = None

-- what the first gives, where it is there, else the second
abbrev pub if_some : {A B : Type 0} → Option A → (A → Option B) → Option B → Option B
if_some (Some x) f r = f x
if_some None f r = r

-- an error that says that nothing was read, or want of memory
abbrev pub Fails : {Y : Type 0} → ParseError → Option Y → Type 0
Fails errors.Memory read = Unit {0}
Fails errors.Wrong read = read ≡ None

abbrev pub Gives : {X Y : Type 0} → (X → Y) → Result X ParseError → Option Y → Type 0
Gives view (Ok x) read = read ≡ Some (view x)
Gives view (Err e) read = Fails e read

abbrev pub Read : Type 0 → Type 0
Read A = Option (A × List Tok)

abbrev pub Reader : Type 0 → Type 0
Reader A = List Tok → Read A

-- whether the first token is this mark
abbrev pub begins : Mark → List Tok → Bool
begins m (mark n ∷ ts) = is_same m n
begins m _ = false

-- whether the first token is a string
abbrev pub begins_text : List Tok → Bool
begins_text (text n ∷ ts) = true
begins_text _ = false

-- the tokens behind this mark
abbrev pub behind : Mark → List Tok → Option (List Tok)
behind m ts = if begins m ts then Some (drop 1 ts) else None

-- whether this mark comes, and the tokens behind it
abbrev pub optional_at : Mark → List Tok → Bool × List Tok
optional_at m ts = if begins m ts then (true, drop 1 ts) else (false, ts)

abbrev pub name_at : Reader (List ℕ)
name_at (name n ∷ ts) = Some (n, ts)
name_at _ = None

abbrev pub text_at : Reader (List ℕ)
text_at (text n ∷ ts) = Some (n, ts)
text_at _ = None

abbrev pub number_at : Reader ℤ
number_at (number z ∷ ts) = Some (z, ts)
number_at _ = None

-- the kind that the first token names
abbrev pub first_kind : List Tok → Option Kind
first_kind (mark m ∷ ts) = kind_word m
first_kind _ = None

abbrev pub kind_at : Reader Kind
kind_at ts = first_kind ts >>= λ k. Some (k, drop 1 ts)

-- a kind, or none where `any` comes
abbrev pub kind_or_any_at : Reader (Option Kind)
kind_or_any_at ts = if_some (first_kind ts) (λ k. Some (Some k, drop 1 ts)) (behind M.Any ts >>= λ rest. Some (None, rest))

-- where the first token is this mark, what the first reader reads behind it, else what the second reads
abbrev pub word : {A : Type 0} → Mark → Reader A → Reader A → Reader A
word m R S ts = if begins m ts then R (drop 1 ts) else S ts

-- what the reader reads behind this mark, which has to come
abbrev pub last_word : {A : Type 0} → Mark → Reader A → Reader A
last_word m R ts = behind m ts >>= R

-- one or more, with commas between them; n bounds them
unfoldable pub listed_at : {A : Type 0} → Reader A → ℕ → Reader (List A)
listed_at R zero ts = None
listed_at R (suc n) ts = do
  x ← R ts
  if begins M.Comma x.1 then (do
    xs ← listed_at R n (drop 1 x.1)
    Some (x.0 ∷ xs.0, xs.1)) else Some (x.0 ∷ [], x.1)

-- what was read before, and what is still read
abbrev pub after_items : {A : Type 0} → List A → Read (List A) → Read (List A)
after_items front read = read >>= λ x. Some (front ++ x.0, x.1)
