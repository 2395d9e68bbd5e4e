-- What the grammars of templates, functions, rules and declarations have in common.
use Rattle.std.specs.Prelude.{ℕ, List, [], ◌∷◌, ◌++◌, Bool, true, false, Option, Some, None}
use Rattle.mig_model.specs.declared.kind.Kind.{Kind}
use Rattle.mig_model.specs.declared.kind.Kind.TheVariants as K
use Rattle.mig_token.specs.declared.mark.Mark.{Mark}
use Rattle.mig_token.specs.declared.mark.Mark.TheVariants as M
use Rattle.mig_token.specs.Token.{Tok, mark, text}

-- kind = 'byte' | 'short' | 'int' | 'long' | 'float' | 'double' | 'text' | 'bytes' | 'ints' | 'longs' | 'null' | 'bool' | 'whole'
abbrev pub kind_word : Mark → Option Kind
kind_word M.Byte = Some K.Byte
kind_word M.Short = Some K.Short
kind_word M.Int = Some K.Int
kind_word M.Long = Some K.Long
kind_word M.Float = Some K.Float
kind_word M.Double = Some K.Double
kind_word M.Text = Some K.Text
kind_word M.Bytes = Some K.Bytes
kind_word M.Ints = Some K.Ints
kind_word M.Longs = Some K.Longs
kind_word M.Null = Some K.Null
kind_word M.Bool = Some K.Bool
kind_word M.Whole = Some K.Whole
kind_word _ = None

-- [mark]
abbrev pub optional : Mark → Bool → List Tok
optional m true = mark m ∷ []
optional m false = []

-- F {, F}
pub data Listed {A : Type 0} (F : List Tok → A → Type 0) : List Tok → List A → Type 0 where
  last : (a : List Tok) (x : A) → F a x → Listed F a (x ∷ [])
  more : (a b : List Tok) (x : A) (xs : List A) → F a x → Listed F b xs → Listed F (a ++ mark M.Comma ∷ b) (x ∷ xs)

-- STRING
pub data String : List Tok → List ℕ → Type 0 where
  string : (x : List ℕ) → String (text x ∷ []) x
