-- What is read as a constant or a leaf function is in the grammar of these.
use Rattle.std.proofs.Common.{◌≡◌, inl, inr, List, [], ◌∷◌, ◌++◌, length, drop, true, false, Some, refl, sym, ap, subst, ◌∙◌, append_assoc}
use Rattle.mig_model.specs.declared.kind.Kind.{Kind}
use Rattle.mig_model.specs.declared.kind.Kind.TheVariants as K
use Rattle.mig_token.specs.declared.mark.Mark.{Mark}
use Rattle.mig_token.specs.declared.mark.Mark.TheVariants as M
use Rattle.mig_token.specs.Token.{Tok, mark, number, text}
use Rattle.mig_syntax.specs.RuleSyntax as rule
use Rattle.mig_syntax.specs.RuleSyntax.{ConstSyntax, LeafSyntax}
use Rattle.mig_parse_leaf.specs.Grammar as g
use Rattle.mig_reader.specs.Grammar.{kind_word}
use Rattle.mig_parse_leaf.specs.Grammar.{Const, Pair, Leaf, IsNumbered, IsBits, IsArray}
use Rattle.mig_reader.specs.Reading.{◌>>=◌, begins, behind, text_at, number_at, first_kind, kind_at, listed_at, word, last_word}
use Rattle.mig_parse_leaf.specs.Reading.{whole_number_at, bits_at, bool_at, empty_at, const_of_kind, const_at, pair_at, constant_at, plus_at, times_at, clamp_at, to_kind_at, of_text_at, table_at, prefix_at, strip_at, text_leaf_at, leaf_at}
use Rattle.mig_reader.proofs.Fronts.{here, bind_some, Front, moved, Sound, begins_is, behind_is, text_is, number_is, kind_is, word_is, word_sound, last_word_sound, done_sound, kind_sound}
use Rattle.mig_reader.proofs.Lists.{listed_sound}
use Rattle.mig_model.proofs.Options.{chosen}

-- a constant behind this word
abbrev Behind : Mark → ConstSyntax → List Tok → List Tok → Type 0
Behind m c ts rest = Front (λ a. Const a c) (mark m ∷ ts) rest

module _ (m : Mark) (k : Kind) (w : kind_word m ≡ Some k) where
  numbered_sound : IsNumbered k → (ts : List Tok) (c : ConstSyntax) (rest : List Tok) → whole_number_at k ts ≡ here c rest → Behind m c ts rest
  numbered_sound i ts c rest e =
      let z = bind_some (number_at ts) _ (c, rest) e in
      moved (λ x a. Const a x) (rule.number k z.0.0) c (mark m ∷ number z.0.0 ∷ []) (mark m ∷ ts) z.0.1 rest (ap (λ (l : List Tok). mark m ∷ l) (number_is ts z.0.0 z.0.1 z.1)) (g.a_number m k z.0.0 w i) z.2

  bits_sound : IsBits k → (ts : List Tok) (c : ConstSyntax) (rest : List Tok) → bits_at k ts ≡ here c rest → Behind m c ts rest
  bits_sound i ts c rest e =
      let b = bind_some (behind M.Bits ts) _ (c, rest) e in
      let z = bind_some (number_at b.0) _ (c, rest) b.2 in
      let all : mark m ∷ ts ≡ mark m ∷ mark M.Bits ∷ number z.0.0 ∷ z.0.1 = ap (λ (l : List Tok). mark m ∷ l) (behind_is M.Bits ts b.0 b.1 ∙ ap (λ (l : List Tok). mark M.Bits ∷ l) (number_is b.0 z.0.0 z.0.1 z.1)) in
      moved (λ x a. Const a x) (rule.bits k z.0.0) c (mark m ∷ mark M.Bits ∷ number z.0.0 ∷ []) (mark m ∷ ts) z.0.1 rest all (g.bits m k z.0.0 w i) z.2

  empty_sound : IsArray k → (ts : List Tok) (c : ConstSyntax) (rest : List Tok) → empty_at k ts ≡ here c rest → Behind m c ts rest
  empty_sound i ts c rest e =
      let b = bind_some (behind M.Empty ts) _ (c, rest) e in
      moved (λ x a. Const a x) (rule.empty k) c (mark m ∷ mark M.Empty ∷ []) (mark m ∷ ts) b.0 rest (ap (λ (l : List Tok). mark m ∷ l) (behind_is M.Empty ts b.0 b.1)) (g.empty m k w i) b.2

text_sound : (ts : List Tok) (c : ConstSyntax) (rest : List Tok) → (text_at ts >>= λ s. Some (rule.text s.0, s.1)) ≡ here c rest → Behind M.Text c ts rest
text_sound ts c rest e =
    let s = bind_some (text_at ts) _ (c, rest) e in
    moved (λ x a. Const a x) (rule.text s.0.0) c (mark M.Text ∷ text s.0.0 ∷ []) (mark M.Text ∷ ts) s.0.1 rest (ap (λ (l : List Tok). mark M.Text ∷ l) (text_is ts s.0.0 s.0.1 s.1)) (g.a_text s.0.0) s.2

bool_sound : (ts : List Tok) (c : ConstSyntax) (rest : List Tok) → bool_at ts ≡ here c rest → Behind M.Bool c ts rest
bool_sound ts c rest e = elim (chosen (begins M.True ts) _ _ (here c rest) e) [
  | inl p ↦ moved (λ x a. Const a x) (rule.boolean true) c (mark M.Bool ∷ mark M.True ∷ []) (mark M.Bool ∷ ts) (drop 1 ts) rest (ap (λ (l : List Tok). mark M.Bool ∷ l) (begins_is M.True ts p.0)) g.true_word p.1
  | inr p ↦
      let b = bind_some (behind M.False ts) _ (c, rest) p.1 in
      moved (λ x a. Const a x) (rule.boolean false) c (mark M.Bool ∷ mark M.False ∷ []) (mark M.Bool ∷ ts) b.0 rest (ap (λ (l : List Tok). mark M.Bool ∷ l) (behind_is M.False ts b.0 b.1)) g.false_word b.2
]

null_sound : (ts : List Tok) (c : ConstSyntax) (rest : List Tok) → here rule.null ts ≡ here c rest → Behind M.Null c ts rest
null_sound ts c rest e = moved (λ x a. Const a x) rule.null c (mark M.Null ∷ []) (mark M.Null ∷ ts) ts rest refl g.null e

of_kind_sound : (m : Mark) (k : Kind) → kind_word m ≡ Some k → (ts : List Tok) (c : ConstSyntax) (rest : List Tok) → const_of_kind k ts ≡ here c rest → Behind m c ts rest
unfolding const_of_kind
of_kind_sound m K.Byte w ts c rest e = numbered_sound m K.Byte w tt ts c rest e
of_kind_sound m K.Short w ts c rest e = numbered_sound m K.Short w tt ts c rest e
of_kind_sound m K.Int w ts c rest e = numbered_sound m K.Int w tt ts c rest e
of_kind_sound m K.Long w ts c rest e = numbered_sound m K.Long w tt ts c rest e
of_kind_sound m K.Whole w ts c rest e = numbered_sound m K.Whole w tt ts c rest e
of_kind_sound m K.Float w ts c rest e = bits_sound m K.Float w tt ts c rest e
of_kind_sound m K.Double w ts c rest e = bits_sound m K.Double w tt ts c rest e
of_kind_sound m K.Text w ts c rest e = subst (λ (m : Mark). Behind m c ts rest) (word_is m K.Text w) (text_sound ts c rest e)
of_kind_sound m K.Bool w ts c rest e = subst (λ (m : Mark). Behind m c ts rest) (word_is m K.Bool w) (bool_sound ts c rest e)
of_kind_sound m K.Null w ts c rest e = subst (λ (m : Mark). Behind m c ts rest) (word_is m K.Null w) (null_sound ts c rest e)
of_kind_sound m K.Bytes w ts c rest e = empty_sound m K.Bytes w tt ts c rest e
of_kind_sound m K.Ints w ts c rest e = empty_sound m K.Ints w tt ts c rest e
of_kind_sound m K.Longs w ts c rest e = empty_sound m K.Longs w tt ts c rest e
of_kind_sound m K.List w ts c rest e = absurd cc
of_kind_sound m K.Map w ts c rest e = absurd cc

pub const_sound : Sound const_at Const
unfolding const_at
const_sound ts c rest e =
    let k = bind_some (first_kind ts) _ (c, rest) e in
    let w = kind_is ts k.0 k.1 in
    let f = of_kind_sound w.0 k.0 w.1 (drop 1 ts) c rest k.2 in
    record { a = f.a; is = w.2 ∙ f.is; good = f.good }

pair_sound : Sound pair_at Pair
pair_sound ts p rest e =
    let x = bind_some (text_at ts) _ (p, rest) e in
    let b = bind_some (behind M.To x.0.1) _ (p, rest) x.2 in
    let y = bind_some (text_at b.0) _ (p, rest) b.2 in
    let all : ts ≡ (text x.0.0 ∷ mark M.To ∷ text y.0.0 ∷ []) ++ y.0.1 = text_is ts x.0.0 x.0.1 x.1 ∙ ap (λ (l : List Tok). text x.0.0 ∷ l) (behind_is M.To x.0.1 b.0 b.1 ∙ ap (λ (l : List Tok). mark M.To ∷ l) (text_is b.0 y.0.0 y.0.1 y.1)) in
    moved (λ x a. Pair a x) (x.0.0, y.0.0) p (text x.0.0 ∷ mark M.To ∷ text y.0.0 ∷ []) ts y.0.1 rest all (g.pair x.0.0 y.0.0) y.2

constant_sound : Sound constant_at (λ a f. Leaf (mark M.Const ∷ a) f)
constant_sound ts f rest e =
    let c = bind_some (const_at ts) _ (f, rest) e in
    let s = const_sound ts c.0.0 c.0.1 c.1 in
    let all : ts ≡ s.a ++ c.0.1 = s.is in
    moved (λ x a. Leaf (mark M.Const ∷ a) x) (rule.constant c.0.0) f s.a ts c.0.1 rest all (g.constant s.a c.0.0 s.good) c.2

plus_sound : Sound plus_at (λ a f. Leaf (mark M.Plus ∷ a) f)
plus_sound ts f rest e =
    let z = bind_some (number_at ts) _ (f, rest) e in
    let all : ts ≡ (number z.0.0 ∷ []) ++ z.0.1 = number_is ts z.0.0 z.0.1 z.1 in
    moved (λ x a. Leaf (mark M.Plus ∷ a) x) (rule.plus z.0.0) f (number z.0.0 ∷ []) ts z.0.1 rest all (g.plus z.0.0) z.2

times_sound : Sound times_at (λ a f. Leaf (mark M.Times ∷ a) f)
times_sound ts f rest e =
    let z = bind_some (number_at ts) _ (f, rest) e in
    let all : ts ≡ (number z.0.0 ∷ []) ++ z.0.1 = number_is ts z.0.0 z.0.1 z.1 in
    moved (λ x a. Leaf (mark M.Times ∷ a) x) (rule.times z.0.0) f (number z.0.0 ∷ []) ts z.0.1 rest all (g.times z.0.0) z.2

clamp_sound : Sound clamp_at (λ a f. Leaf (mark M.Clamp ∷ a) f)
unfolding clamp_at
clamp_sound ts f rest e =
    let y = bind_some (number_at ts) _ (f, rest) e in
    let z = bind_some (number_at y.0.1) _ (f, rest) y.2 in
    let all : ts ≡ (number y.0.0 ∷ number z.0.0 ∷ []) ++ z.0.1 = number_is ts y.0.0 y.0.1 y.1 ∙ ap (λ (l : List Tok). number y.0.0 ∷ l) (number_is y.0.1 z.0.0 z.0.1 z.1) in
    moved (λ x a. Leaf (mark M.Clamp ∷ a) x) (rule.clamp y.0.0 z.0.0) f (number y.0.0 ∷ number z.0.0 ∷ []) ts z.0.1 rest all (g.clamp y.0.0 z.0.0) z.2

to_kind_sound : Sound to_kind_at (λ a f. Leaf (mark M.To ∷ a) f)
to_kind_sound ts f rest e =
    let k = bind_some (kind_at ts) _ (f, rest) e in
    let s = kind_sound ts k.0.0 k.0.1 k.1 in
    let all : ts ≡ (mark s.good.0 ∷ []) ++ k.0.1 = s.is ∙ ap (λ (l : List Tok). l ++ k.0.1) s.good.2 in
    moved (λ x a. Leaf (mark M.To ∷ a) x) (rule.to_kind k.0.0) f (mark s.good.0 ∷ []) ts k.0.1 rest all (g.to_kind s.good.0 k.0.0 s.good.1) k.2

of_text_sound : Sound of_text_at (λ a f. Leaf (mark M.OfText ∷ a) f)
of_text_sound ts f rest e =
    let c = bind_some (const_at ts) _ (f, rest) e in
    let s = const_sound ts c.0.0 c.0.1 c.1 in
    let all : ts ≡ s.a ++ c.0.1 = s.is in
    moved (λ x a. Leaf (mark M.OfText ∷ a) x) (rule.of_text c.0.0) f s.a ts c.0.1 rest all (g.of_text s.a c.0.0 s.good) c.2

table_sound : Sound table_at (λ a f. Leaf (mark M.Table ∷ a) f)
unfolding table_at
table_sound ts f rest e =
    let b = bind_some (behind M.Open ts) _ (f, rest) e in
    let c = bind_some (listed_at pair_at (length b.0) b.0) _ (f, rest) b.2 in
    let s = listed_sound pair_at Pair pair_sound (length b.0) b.0 c.0.0 c.0.1 c.1 in
    let b2 = bind_some (behind M.Close c.0.1) _ (f, rest) c.2 in
    let all : ts ≡ (mark M.Open ∷ (s.a ++ mark M.Close ∷ [])) ++ b2.0 = behind_is M.Open ts b.0 b.1 ∙ ap (λ (l : List Tok). mark M.Open ∷ l) (s.is ∙ (ap (λ (l : List Tok). s.a ++ l) (behind_is M.Close c.0.1 b2.0 b2.1) ∙ sym (append_assoc s.a (mark M.Close ∷ []) b2.0))) in
    moved (λ x a. Leaf (mark M.Table ∷ a) x) (rule.table c.0.0) f (mark M.Open ∷ (s.a ++ mark M.Close ∷ [])) ts b2.0 rest all (g.table s.a c.0.0 s.good) b2.2

prefix_sound : Sound prefix_at (λ a f. Leaf (mark M.Prefix ∷ a) f)
prefix_sound ts f rest e =
    let s = bind_some (text_at ts) _ (f, rest) e in
    let all : ts ≡ (text s.0.0 ∷ []) ++ s.0.1 = text_is ts s.0.0 s.0.1 s.1 in
    moved (λ x a. Leaf (mark M.Prefix ∷ a) x) (rule.prefix s.0.0) f (text s.0.0 ∷ []) ts s.0.1 rest all (g.prefix s.0.0) s.2

strip_sound : Sound strip_at (λ a f. Leaf (mark M.Strip ∷ a) f)
strip_sound ts f rest e =
    let s = bind_some (text_at ts) _ (f, rest) e in
    let all : ts ≡ (text s.0.0 ∷ []) ++ s.0.1 = text_is ts s.0.0 s.0.1 s.1 in
    moved (λ x a. Leaf (mark M.Strip ∷ a) x) (rule.strip s.0.0) f (text s.0.0 ∷ []) ts s.0.1 rest all (g.strip s.0.0) s.2

text_leaf_sound : Sound text_leaf_at Leaf
unfolding text_leaf_at
text_leaf_sound =
    word_sound M.ToText (λ us. Some (rule.to_text, us)) (word M.OfText of_text_at (word M.Table table_at (word M.Prefix prefix_at (word M.Strip strip_at (last_word M.Lower (λ us. Some (rule.lower, us))))))) Leaf (done_sound (λ a f. Leaf (mark M.ToText ∷ a) f) rule.to_text g.to_text) (word_sound M.OfText of_text_at (word M.Table table_at (word M.Prefix prefix_at (word M.Strip strip_at (last_word M.Lower (λ us. Some (rule.lower, us)))))) Leaf of_text_sound (word_sound M.Table table_at (word M.Prefix prefix_at (word M.Strip strip_at (last_word M.Lower (λ us. Some (rule.lower, us))))) Leaf table_sound (word_sound M.Prefix prefix_at (word M.Strip strip_at (last_word M.Lower (λ us. Some (rule.lower, us)))) Leaf prefix_sound (word_sound M.Strip strip_at (last_word M.Lower (λ us. Some (rule.lower, us))) Leaf strip_sound (last_word_sound M.Lower (λ us. Some (rule.lower, us)) Leaf (done_sound (λ a f. Leaf (mark M.Lower ∷ a) f) rule.lower g.lower))))))

pub leaf_sound : Sound leaf_at Leaf
unfolding leaf_at
leaf_sound =
    word_sound M.Const constant_at (word M.Plus plus_at (word M.Times times_at (word M.Clamp clamp_at (word M.To to_kind_at text_leaf_at)))) Leaf constant_sound (word_sound M.Plus plus_at (word M.Times times_at (word M.Clamp clamp_at (word M.To to_kind_at text_leaf_at))) Leaf plus_sound (word_sound M.Times times_at (word M.Clamp clamp_at (word M.To to_kind_at text_leaf_at)) Leaf times_sound (word_sound M.Clamp clamp_at (word M.To to_kind_at text_leaf_at) Leaf clamp_sound (word_sound M.To to_kind_at text_leaf_at Leaf to_kind_sound text_leaf_sound))))
