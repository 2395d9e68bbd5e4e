-- What is in the grammar of constants and leaf functions is read, whatever follows it.
use Rattle.std.proofs.Common.{◌≡◌, ℕ, ℤ, ◌<◌, List, [], ◌∷◌, ◌++◌, length, true, false, Some, refl, ap, ◌∙◌, append_assoc, arith}
use Rattle.mig_model.specs.declared.kind.Kind.{Kind}
use Rattle.mig_model.specs.declared.kind.Kind.TheVariants as K
use Rattle.mig_token.specs.declared.mark.Mark.{Mark}
use Rattle.mig_token.specs.declared.mark.Mark.TheVariants as M
use Rattle.mig_token.specs.Token.{Tok, mark, number, text}
use Rattle.mig_syntax.specs.RuleSyntax as rule
use Rattle.mig_syntax.specs.RuleSyntax.{ConstSyntax, LeafSyntax}
use Rattle.mig_parse_leaf.specs.Grammar as g
use Rattle.mig_reader.specs.Grammar.{kind_word}
use Rattle.mig_parse_leaf.specs.Grammar.{Const, Pair, Leaf, IsNumbered, IsBits, IsArray}
use Rattle.mig_reader.specs.Reading.{Read, listed_at}
use Rattle.mig_parse_leaf.specs.Reading.{const_of_kind, const_at, pair_at, clamp_at, table_at, text_leaf_at, leaf_at}
use Rattle.mig_reader.proofs.Fronts.{here}
use Rattle.mig_reader.proofs.Lists.{longer, listed_read}

numbered_read : (k : Kind) (z : ℤ) (rest : List Tok) → IsNumbered k → const_of_kind k (number z ∷ rest) ≡ here (rule.number k z) rest
unfolding const_of_kind
numbered_read K.Byte z rest h = refl
numbered_read K.Short z rest h = refl
numbered_read K.Int z rest h = refl
numbered_read K.Long z rest h = refl
numbered_read K.Whole z rest h = refl
numbered_read _ z rest h = absurd h

bits_read : (k : Kind) (z : ℤ) (rest : List Tok) → IsBits k → const_of_kind k (mark M.Bits ∷ number z ∷ rest) ≡ here (rule.bits k z) rest
unfolding const_of_kind
bits_read K.Float z rest h = refl
bits_read K.Double z rest h = refl
bits_read _ z rest h = absurd h

empty_read : (k : Kind) (rest : List Tok) → IsArray k → const_of_kind k (mark M.Empty ∷ rest) ≡ here (rule.empty k) rest
unfolding const_of_kind
empty_read K.Bytes rest h = refl
empty_read K.Ints rest h = refl
empty_read K.Longs rest h = refl
empty_read _ rest h = absurd h

of_kind : (m : Mark) (k : Kind) (ts : List Tok) (read : Read ConstSyntax) → kind_word m ≡ Some k → const_of_kind k ts ≡ read → const_at (mark m ∷ ts) ≡ read
unfolding const_at
of_kind m k ts read h e = rw h e

word_read : (k : Kind) (m : Mark) (ts : List Tok) (c : ConstSyntax) (rest : List Tok) → kind_word m ≡ Some k → const_of_kind k ts ≡ here c rest → const_at (mark m ∷ ts) ≡ here c rest
word_read k m ts c rest h e = of_kind m k ts (here c rest) h e

text_read : (s : List ℕ) (rest : List Tok) → const_of_kind K.Text (text s ∷ rest) ≡ here (rule.text s) rest
unfolding const_of_kind
text_read s rest = refl

true_read : (rest : List Tok) → const_of_kind K.Bool (mark M.True ∷ rest) ≡ here (rule.boolean true) rest
unfolding const_of_kind
true_read rest = refl

false_read : (rest : List Tok) → const_of_kind K.Bool (mark M.False ∷ rest) ≡ here (rule.boolean false) rest
unfolding const_of_kind
false_read rest = refl

null_read : (rest : List Tok) → const_of_kind K.Null rest ≡ here rule.null rest
unfolding const_of_kind
null_read rest = refl

pub const_read : {a : List Tok} {c : ConstSyntax} → Const a c → (rest : List Tok) → const_at (a ++ rest) ≡ here c rest
const_read (g.a_number m k z h i) rest = word_read k m (number z ∷ rest) (rule.number k z) rest h (numbered_read k z rest i)
const_read (g.bits m k z h i) rest = word_read k m (mark M.Bits ∷ number z ∷ rest) (rule.bits k z) rest h (bits_read k z rest i)
const_read (g.a_text s) rest = word_read K.Text M.Text (text s ∷ rest) (rule.text s) rest refl (text_read s rest)
const_read g.true_word rest = word_read K.Bool M.Bool (mark M.True ∷ rest) (rule.boolean true) rest refl (true_read rest)
const_read g.false_word rest = word_read K.Bool M.Bool (mark M.False ∷ rest) (rule.boolean false) rest refl (false_read rest)
const_read g.null rest = word_read K.Null M.Null rest rule.null rest refl (null_read rest)
const_read (g.empty m k h i) rest = word_read k m (mark M.Empty ∷ rest) (rule.empty k) rest h (empty_read k rest i)

constant_leaf : (ts rest : List Tok) (c : ConstSyntax) → const_at ts ≡ here c rest → leaf_at (mark M.Const ∷ ts) ≡ here (rule.constant c) rest
unfolding leaf_at
constant_leaf ts rest c e = rw e refl

plus_leaf : (z : ℤ) (rest : List Tok) → leaf_at (mark M.Plus ∷ number z ∷ rest) ≡ here (rule.plus z) rest
unfolding leaf_at
plus_leaf z rest = refl

times_leaf : (z : ℤ) (rest : List Tok) → leaf_at (mark M.Times ∷ number z ∷ rest) ≡ here (rule.times z) rest
unfolding leaf_at
times_leaf z rest = refl

clamp_leaf : (y z : ℤ) (rest : List Tok) → leaf_at (mark M.Clamp ∷ number y ∷ number z ∷ rest) ≡ here (rule.clamp y z) rest
unfolding leaf_at clamp_at
clamp_leaf y z rest = refl

to_leaf : (m : Mark) (k : Kind) (rest : List Tok) → kind_word m ≡ Some k → leaf_at (mark M.To ∷ mark m ∷ rest) ≡ here (rule.to_kind k) rest
unfolding leaf_at
to_leaf m k rest h = rw h refl

to_text_leaf : (rest : List Tok) → leaf_at (mark M.ToText ∷ rest) ≡ here rule.to_text rest
unfolding leaf_at text_leaf_at
to_text_leaf rest = refl

of_text_leaf : (ts rest : List Tok) (c : ConstSyntax) → const_at ts ≡ here c rest → leaf_at (mark M.OfText ∷ ts) ≡ here (rule.of_text c) rest
unfolding leaf_at text_leaf_at
of_text_leaf ts rest c e = rw e refl

table_leaf : (ts rest : List Tok) (ps : List (List ℕ × List ℕ)) → listed_at pair_at (length ts) ts ≡ here ps (mark M.Close ∷ rest) → leaf_at (mark M.Table ∷ mark M.Open ∷ ts) ≡ here (rule.table ps) rest
unfolding leaf_at text_leaf_at table_at
table_leaf ts rest ps e = rw e refl

prefix_leaf : (s : List ℕ) (rest : List Tok) → leaf_at (mark M.Prefix ∷ text s ∷ rest) ≡ here (rule.prefix s) rest
unfolding leaf_at text_leaf_at
prefix_leaf s rest = refl

strip_leaf : (s : List ℕ) (rest : List Tok) → leaf_at (mark M.Strip ∷ text s ∷ rest) ≡ here (rule.strip s) rest
unfolding leaf_at text_leaf_at
strip_leaf s rest = refl

lower_leaf : (rest : List Tok) → leaf_at (mark M.Lower ∷ rest) ≡ here rule.lower rest
unfolding leaf_at text_leaf_at
lower_leaf rest = refl

some_pair : (a : List Tok) (p : List ℕ × List ℕ) → Pair a p → 0 < length a
some_pair _ _ (g.pair x y) = omega arith

one_pair : (a : List Tok) (p : List ℕ × List ℕ) → Pair a p → (rest : List Tok) → pair_at (a ++ rest) ≡ here p rest
one_pair _ _ (g.pair x y) rest = refl

pub leaf_read : {a : List Tok} {f : LeafSyntax} → Leaf a f → (rest : List Tok) → leaf_at (a ++ rest) ≡ here f rest
leaf_read (g.constant a c p) rest = constant_leaf (a ++ rest) rest c (const_read p rest)
leaf_read (g.plus z) rest = plus_leaf z rest
leaf_read (g.times z) rest = times_leaf z rest
leaf_read (g.clamp y z) rest = clamp_leaf y z rest
leaf_read (g.to_kind m k h) rest = to_leaf m k rest h
leaf_read g.to_text rest = to_text_leaf rest
leaf_read (g.of_text a c p) rest = of_text_leaf (a ++ rest) rest c (const_read p rest)
leaf_read (g.table a ps p) rest =
    let ts = a ++ mark M.Close ∷ rest in
    let e : (a ++ mark M.Close ∷ []) ++ rest ≡ ts = append_assoc a (mark M.Close ∷ []) rest in
    ap (λ (l : List Tok). leaf_at (mark M.Table ∷ mark M.Open ∷ l)) e
    ∙ table_leaf ts rest ps (listed_read pair_at Pair some_pair one_pair p (length ts) (mark M.Close ∷ rest) (longer a (mark M.Close ∷ rest)) refl)
leaf_read (g.prefix s) rest = prefix_leaf s rest
leaf_read (g.strip s) rest = strip_leaf s rest
leaf_read g.lower rest = lower_leaf rest
