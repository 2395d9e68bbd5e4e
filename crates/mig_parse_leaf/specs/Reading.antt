-- Reading a constant or a leaf function from left to right: what was read and the tokens after it, or nothing.
use Rattle.std.specs.Prelude.{ℕ, List, length, drop, true, false, Some, None, if◌then◌else◌}
use Rattle.mig_model.specs.declared.kind.Kind.{Kind}
use Rattle.mig_model.specs.declared.kind.Kind.TheVariants as K
use Rattle.mig_token.specs.declared.mark.Mark.TheVariants as M
use Rattle.mig_syntax.specs.RuleSyntax as rule
use Rattle.mig_syntax.specs.RuleSyntax.{ConstSyntax, LeafSyntax}
use Rattle.mig_reader.specs.Reading.{◌>>=◌, Reader, begins, behind, text_at, number_at, first_kind, kind_at, word, last_word, listed_at}

-- constants, behind the kind word
abbrev pub whole_number_at : Kind → Reader ConstSyntax
whole_number_at k ts = do
  z ← number_at ts
  Some (rule.number k z.0, z.1)

abbrev pub bits_at : Kind → Reader ConstSyntax
bits_at k ts = do
  rest ← behind M.Bits ts
  z ← number_at rest
  Some (rule.bits k z.0, z.1)

abbrev pub bool_at : Reader ConstSyntax
bool_at ts =
    if begins M.True ts then Some (rule.boolean true, drop 1 ts) else (do
      rest ← behind M.False ts
      Some (rule.boolean false, rest))

abbrev pub empty_at : Kind → Reader ConstSyntax
empty_at k ts = do
  rest ← behind M.Empty ts
  Some (rule.empty k, rest)

unfoldable pub const_of_kind : Kind → Reader ConstSyntax
const_of_kind K.Byte ts = whole_number_at K.Byte ts
const_of_kind K.Short ts = whole_number_at K.Short ts
const_of_kind K.Int ts = whole_number_at K.Int ts
const_of_kind K.Long ts = whole_number_at K.Long ts
const_of_kind K.Whole ts = whole_number_at K.Whole ts
const_of_kind K.Float ts = bits_at K.Float ts
const_of_kind K.Double ts = bits_at K.Double ts
const_of_kind K.Text ts = do
  s ← text_at ts
  Some (rule.text s.0, s.1)
const_of_kind K.Bool ts = bool_at ts
const_of_kind K.Null ts = Some (rule.null, ts)
const_of_kind K.Bytes ts = empty_at K.Bytes ts
const_of_kind K.Ints ts = empty_at K.Ints ts
const_of_kind K.Longs ts = empty_at K.Longs ts
const_of_kind K.List ts = None
const_of_kind K.Map ts = None

unfoldable pub const_at : Reader ConstSyntax
const_at ts = first_kind ts >>= λ k. const_of_kind k (drop 1 ts)

-- leaf functions, behind their first word
abbrev pub pair_at : Reader (List ℕ × List ℕ)
pair_at ts = do
  x ← text_at ts
  rest ← behind M.To x.1
  y ← text_at rest
  Some ((x.0, y.0), y.1)

abbrev pub constant_at : Reader LeafSyntax
constant_at ts = do
  c ← const_at ts
  Some (rule.constant c.0, c.1)

abbrev pub plus_at : Reader LeafSyntax
plus_at ts = do
  z ← number_at ts
  Some (rule.plus z.0, z.1)

abbrev pub times_at : Reader LeafSyntax
times_at ts = do
  z ← number_at ts
  Some (rule.times z.0, z.1)

unfoldable pub clamp_at : Reader LeafSyntax
clamp_at ts = do
  y ← number_at ts
  z ← number_at y.1
  Some (rule.clamp y.0 z.0, z.1)

abbrev pub to_kind_at : Reader LeafSyntax
to_kind_at ts = do
  k ← kind_at ts
  Some (rule.to_kind k.0, k.1)

abbrev pub of_text_at : Reader LeafSyntax
of_text_at ts = do
  c ← const_at ts
  Some (rule.of_text c.0, c.1)

unfoldable pub table_at : Reader LeafSyntax
table_at ts = do
  start ← behind M.Open ts
  ps ← listed_at pair_at (length start) start
  rest ← behind M.Close ps.1
  Some (rule.table ps.0, rest)

abbrev pub prefix_at : Reader LeafSyntax
prefix_at ts = do
  s ← text_at ts
  Some (rule.prefix s.0, s.1)

abbrev pub strip_at : Reader LeafSyntax
strip_at ts = do
  s ← text_at ts
  Some (rule.strip s.0, s.1)

unfoldable pub text_leaf_at : Reader LeafSyntax
text_leaf_at ts =
    word M.ToText (λ us. Some (rule.to_text, us)) (word M.OfText of_text_at (word M.Table table_at (word M.Prefix prefix_at (word M.Strip strip_at (last_word M.Lower (λ us. Some (rule.lower, us))))))) ts

unfoldable pub leaf_at : Reader LeafSyntax
leaf_at ts =
    word M.Const constant_at (word M.Plus plus_at (word M.Times times_at (word M.Clamp clamp_at (word M.To to_kind_at text_leaf_at)))) ts
