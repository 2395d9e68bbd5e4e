-- The grammar of constants and leaf functions: which tokens are one, and with which syntax. The quoted words of the productions are reserved words;
-- `( )` around alternatives that `|` parts only group.
use Rattle.std.specs.Prelude.{◌≡◌, ℕ, ℤ, List, [], ◌∷◌, ◌++◌, true, false, Some}
use Rattle.mig_model.specs.declared.kind.Kind.{Kind}
use Rattle.mig_model.specs.declared.kind.Kind.TheVariants as K
use Rattle.mig_token.specs.declared.mark.Mark.{Mark}
use Rattle.mig_token.specs.declared.mark.Mark.TheVariants as M
use Rattle.mig_token.specs.Token.{Tok, mark, number, text}
use Rattle.mig_syntax.specs.RuleSyntax as rule
use Rattle.mig_syntax.specs.RuleSyntax.{ConstSyntax, LeafSyntax}
use Rattle.mig_reader.specs.Grammar.{kind_word, Listed}

-- the kinds whose constants are whole numbers, bits and empty arrays
abbrev pub IsNumbered : Kind → Type 0
IsNumbered K.Byte = Unit {0}
IsNumbered K.Short = Unit {0}
IsNumbered K.Int = Unit {0}
IsNumbered K.Long = Unit {0}
IsNumbered K.Whole = Unit {0}
IsNumbered _ = ⊥

abbrev pub IsBits : Kind → Type 0
IsBits K.Float = Unit {0}
IsBits K.Double = Unit {0}
IsBits _ = ⊥

abbrev pub IsArray : Kind → Type 0
IsArray K.Bytes = Unit {0}
IsArray K.Ints = Unit {0}
IsArray K.Longs = Unit {0}
IsArray _ = ⊥

-- const = ('byte' | 'short' | 'int' | 'long' | 'whole') NUMBER | ('float' | 'double') 'bits' NUMBER | 'text' STRING | 'bool' ('true' | 'false') | 'null'
--       | ('bytes' | 'ints' | 'longs') 'empty'
pub data Const : List Tok → ConstSyntax → Type 0 where
  a_number : (m : Mark) (k : Kind) (z : ℤ) → kind_word m ≡ Some k → IsNumbered k → Const (mark m ∷ number z ∷ []) (rule.number k z)
  bits : (m : Mark) (k : Kind) (z : ℤ) → kind_word m ≡ Some k → IsBits k → Const (mark m ∷ mark M.Bits ∷ number z ∷ []) (rule.bits k z)
  a_text : (s : List ℕ) → Const (mark M.Text ∷ text s ∷ []) (rule.text s)
  true_word : Const (mark M.Bool ∷ mark M.True ∷ []) (rule.boolean true)
  false_word : Const (mark M.Bool ∷ mark M.False ∷ []) (rule.boolean false)
  null : Const (mark M.Null ∷ []) rule.null
  empty : (m : Mark) (k : Kind) → kind_word m ≡ Some k → IsArray k → Const (mark m ∷ mark M.Empty ∷ []) (rule.empty k)

-- STRING 'to' STRING
pub data Pair : List Tok → List ℕ × List ℕ → Type 0 where
  pair : (x y : List ℕ) → Pair (text x ∷ mark M.To ∷ text y ∷ []) (x, y)

-- leaf = 'const' const | 'plus' NUMBER | 'times' NUMBER | 'clamp' NUMBER NUMBER | 'to' kind | 'totext' | 'oftext' const
--      | 'table' ( STRING 'to' STRING {, STRING 'to' STRING} ) | 'prefix' STRING | 'strip' STRING | 'lower'
pub data Leaf : List Tok → LeafSyntax → Type 0 where
  constant : (a : List Tok) (c : ConstSyntax) → Const a c → Leaf (mark M.Const ∷ a) (rule.constant c)
  plus : (z : ℤ) → Leaf (mark M.Plus ∷ number z ∷ []) (rule.plus z)
  times : (z : ℤ) → Leaf (mark M.Times ∷ number z ∷ []) (rule.times z)
  clamp : (y z : ℤ) → Leaf (mark M.Clamp ∷ number y ∷ number z ∷ []) (rule.clamp y z)
  to_kind : (m : Mark) (k : Kind) → kind_word m ≡ Some k → Leaf (mark M.To ∷ mark m ∷ []) (rule.to_kind k)
  to_text : Leaf (mark M.ToText ∷ []) rule.to_text
  of_text : (a : List Tok) (c : ConstSyntax) → Const a c → Leaf (mark M.OfText ∷ a) (rule.of_text c)
  table : (a : List Tok) (ps : List (List ℕ × List ℕ)) → Listed Pair a ps → Leaf (mark M.Table ∷ mark M.Open ∷ (a ++ mark M.Close ∷ [])) (rule.table ps)
  prefix : (s : List ℕ) → Leaf (mark M.Prefix ∷ text s ∷ []) (rule.prefix s)
  strip : (s : List ℕ) → Leaf (mark M.Strip ∷ text s ∷ []) (rule.strip s)
  lower : Leaf (mark M.Lower ∷ []) rule.lower
