-- What is in the grammar of fills and field functions is read, whatever follows it.
use Rattle.std.proofs.Common.{◌≡◌, ℕ, ◌<◌, List, [], ◌∷◌, ◌++◌, length, false, Some, None, refl, ap, ◌∙◌, append_assoc, arith}
use Rattle.mig_model.specs.declared.kind.Kind.{Kind}
use Rattle.mig_token.specs.declared.mark.Mark.{Mark}
use Rattle.mig_token.specs.declared.mark.Mark.TheVariants as M
use Rattle.mig_token.specs.Spelling.{is_same}
use Rattle.mig_token.specs.Token.{Tok, mark, text}
use Rattle.mig_syntax.specs.TemplateSyntax.{TemplateSyntax, FieldSyntax}
use Rattle.mig_syntax.specs.RuleSyntax as rule
use Rattle.mig_syntax.specs.RuleSyntax.{ConstSyntax, FillSyntax, LeafSyntax, FunctionSyntax}
use Rattle.mig_reader.specs.Grammar as shared
use Rattle.mig_parse_leaf.specs.Grammar as leaf_grammar
use Rattle.mig_parse_function.specs.Grammar as g
use Rattle.mig_reader.specs.Grammar.{String, kind_word}
use Rattle.mig_parse_template.specs.Grammar.{max_levels}
use Rattle.mig_parse_leaf.specs.Grammar.{Const}
use Rattle.mig_parse_function.specs.Grammar.{Fill, Function}
use Rattle.mig_reader.specs.Reading.{begins, listed_at, text_at}
use Rattle.mig_parse_template.specs.Reading.{part_at, template_at, braced_at}
use Rattle.mig_parse_leaf.specs.Reading.{const_at, leaf_at}
use Rattle.mig_parse_function.specs.Reading.{fill_at, rename_at, add_at, learn_at, default_at, map_at, nest_at, unify_at, retag_at, add_case_at, shape_function_at, field_function_at, function_at}
use Rattle.mig_reader.proofs.Fronts.{here}
use Rattle.mig_reader.proofs.Lists.{longer, listed_read}
use Rattle.mig_parse_template.proofs.TemplateRead.{part_read, braced_read}
use Rattle.mig_parse_leaf.proofs.LeafRead.{const_read, leaf_read}

-- a kind word isn't `list`
no_list_word : (m : Mark) (k : Kind) → kind_word m ≡ Some k → is_same M.List m ≡ false
no_list_word M.List k h = absurd cc
no_list_word _ k h = refl

no_list : {a : List Tok} {c : ConstSyntax} → Const a c → (rest : List Tok) → begins M.List (a ++ rest) ≡ false
no_list (leaf_grammar.a_number m k z h i) rest = no_list_word m k h
no_list (leaf_grammar.bits m k z h i) rest = no_list_word m k h
no_list (leaf_grammar.empty m k h i) rest = no_list_word m k h
no_list _ rest = refl

const_fill : (ts rest : List Tok) (c : ConstSyntax) → begins M.List ts ≡ false → const_at ts ≡ here c rest → fill_at ts ≡ here (rule.const c) rest
unfolding fill_at
const_fill ts rest c h e = rw (h, e) refl

list_fill : (ts rest : List Tok) (t : TemplateSyntax) → part_at max_levels ts ≡ here t rest → fill_at (mark M.List ∷ ts) ≡ here (rule.empty_list t) rest
unfolding fill_at
list_fill ts rest t e = rw e refl

pub fill_read : {a : List Tok} {f : FillSyntax} → Fill a f → (rest : List Tok) → fill_at (a ++ rest) ≡ here f rest
fill_read (g.a_const a c p) rest = const_fill (a ++ rest) rest c (no_list p rest) (const_read p rest)
fill_read (g.empty_list a t p) rest = list_fill (a ++ rest) rest t (part_read p rest)

rename_read : (x y : List ℕ) (rest : List Tok) → function_at (mark M.Rename ∷ text x ∷ text y ∷ rest) ≡ here (rule.rename x y) rest
unfolding function_at rename_at
rename_read x y rest = refl

drop_read : (x : List ℕ) (rest : List Tok) → function_at (mark M.Drop ∷ text x ∷ rest) ≡ here (rule.drop x) rest
unfolding function_at
drop_read x rest = refl

add_read : (x : List ℕ) (ts rest : List Tok) (f : FillSyntax) → fill_at ts ≡ here f rest → function_at (mark M.Add ∷ text x ∷ mark M.Equals ∷ ts) ≡ here (rule.add x f) rest
unfolding function_at add_at
add_read x ts rest f e = rw e refl

learn_read : (x : List ℕ) (m : Mark) (k : Kind) (rest : List Tok) → kind_word m ≡ Some k → function_at (mark M.Learn ∷ text x ∷ mark m ∷ rest) ≡ here (rule.learn x (Some k)) rest
unfolding function_at learn_at
learn_read x m k rest h = rw h refl

learn_any_read : (x : List ℕ) (rest : List Tok) → function_at (mark M.Learn ∷ text x ∷ mark M.Any ∷ rest) ≡ here (rule.learn x None) rest
unfolding function_at learn_at
learn_any_read x rest = refl

forget_read : (x : List ℕ) (rest : List Tok) → function_at (mark M.Forget ∷ text x ∷ rest) ≡ here (rule.forget x) rest
unfolding function_at
forget_read x rest = refl

default_read : (x : List ℕ) (ts rest : List Tok) (f : FillSyntax) → fill_at ts ≡ here f rest → function_at (mark M.Default ∷ text x ∷ mark M.Equals ∷ ts) ≡ here (rule.default x f) rest
unfolding function_at field_function_at default_at
default_read x ts rest f e = rw e refl

maybe_read : (x : List ℕ) (rest : List Tok) → function_at (mark M.MayBe ∷ text x ∷ rest) ≡ here (rule.maybe x) rest
unfolding function_at field_function_at
maybe_read x rest = refl

map_read : (x : List ℕ) (ts rest : List Tok) (f : LeafSyntax) → leaf_at ts ≡ here f rest → function_at (mark M.Map ∷ text x ∷ ts) ≡ here (rule.map x f) rest
unfolding function_at field_function_at map_at
map_read x ts rest f e = rw e refl

nest_read : (ts rest : List Tok) (xs : List (List ℕ)) (y : List ℕ) → listed_at text_at (length ts) ts ≡ here xs (mark M.Close ∷ text y ∷ rest) → function_at (mark M.Nest ∷ mark M.Open ∷ ts) ≡ here (rule.nest xs y) rest
unfolding function_at field_function_at nest_at
nest_read ts rest xs y e = rw e refl

unnest_read : (x : List ℕ) (rest : List Tok) → function_at (mark M.Unnest ∷ text x ∷ rest) ≡ here (rule.unnest x) rest
unfolding function_at field_function_at
unnest_read x rest = refl

wrap_read : (x : List ℕ) (rest : List Tok) → function_at (mark M.Wrap ∷ text x ∷ rest) ≡ here (rule.wrap x) rest
unfolding function_at field_function_at shape_function_at
wrap_read x rest = refl

unify_read : (x : List ℕ) (ts us rest : List Tok) (f h : LeafSyntax) → leaf_at ts ≡ here f (mark M.Or ∷ us) → leaf_at us ≡ here h rest → function_at (mark M.Unify ∷ text x ∷ ts) ≡ here (rule.unify x f h) rest
unfolding function_at field_function_at shape_function_at unify_at
unify_read x ts us rest f h e i = rw (e, i) refl

retag_read : (x y : List ℕ) (rest : List Tok) → function_at (mark M.Retag ∷ text x ∷ text y ∷ rest) ≡ here (rule.retag x y) rest
unfolding function_at field_function_at shape_function_at retag_at
retag_read x y rest = refl

add_case_read : (x : List ℕ) (ts rest : List Tok) (fs : List FieldSyntax) → braced_at (template_at max_levels) ts ≡ here fs rest → function_at (mark M.AddCase ∷ text x ∷ ts) ≡ here (rule.add_case x fs) rest
unfolding function_at field_function_at shape_function_at add_case_at
add_case_read x ts rest fs e = rw e refl

some_string : (a : List Tok) (x : List ℕ) → String a x → 0 < length a
some_string _ _ (shared.string x) = omega arith

one_string : (a : List Tok) (x : List ℕ) → String a x → (rest : List Tok) → text_at (a ++ rest) ≡ here x rest
one_string _ _ (shared.string x) rest = refl

pub function_read : {a : List Tok} {f : FunctionSyntax} → Function a f → (rest : List Tok) → function_at (a ++ rest) ≡ here f rest
function_read (g.rename x y) rest = rename_read x y rest
function_read (g.drop x) rest = drop_read x rest
function_read (g.add x a f p) rest = add_read x (a ++ rest) rest f (fill_read p rest)
function_read (g.learn x m k h) rest = learn_read x m k rest h
function_read (g.learn_any x) rest = learn_any_read x rest
function_read (g.forget x) rest = forget_read x rest
function_read (g.default x a f p) rest = default_read x (a ++ rest) rest f (fill_read p rest)
function_read (g.maybe x) rest = maybe_read x rest
function_read (g.map x a f p) rest = map_read x (a ++ rest) rest f (leaf_read p rest)
function_read (g.nest a xs y p) rest =
    let end = mark M.Close ∷ text y ∷ rest in
    let ts = a ++ end in
    let e : (a ++ mark M.Close ∷ text y ∷ []) ++ rest ≡ ts = append_assoc a (mark M.Close ∷ text y ∷ []) rest in
    ap (λ (l : List Tok). function_at (mark M.Nest ∷ mark M.Open ∷ l)) e ∙ nest_read ts rest xs y (listed_read text_at String some_string one_string p (length ts) end (longer a end) refl)
function_read (g.unnest x) rest = unnest_read x rest
function_read (g.wrap x) rest = wrap_read x rest
function_read (g.unify x a b f h p q) rest =
    let e : (a ++ mark M.Or ∷ b) ++ rest ≡ a ++ mark M.Or ∷ (b ++ rest) = append_assoc a (mark M.Or ∷ b) rest in
    ap (λ (l : List Tok). function_at (mark M.Unify ∷ text x ∷ l)) e
    ∙ unify_read x (a ++ mark M.Or ∷ (b ++ rest)) (b ++ rest) rest f h (leaf_read p (mark M.Or ∷ (b ++ rest))) (leaf_read q rest)
function_read (g.retag x y) rest = retag_read x y rest
function_read (g.add_case x a fs p) rest = add_case_read x (a ++ rest) rest fs (braced_read p rest)

-- the words of rules that are no functions
abbrev pub NoRuleWord : List Tok → Type 0
NoRuleWord ts =
    (begins M.Nop ts ≡ false) × (begins M.All ts ≡ false) × (begins M.Everywhere ts ≡ false) × (begins M.On ts ≡ false)
    × (begins M.At ts ≡ false) × (begins M.Seq ts ≡ false) × (begins M.OrElse ts ≡ false) × (begins M.In ts ≡ false)

-- a function doesn't begin with such a word
pub no_rule_word : {a : List Tok} {f : FunctionSyntax} → Function a f → (rest : List Tok) → NoRuleWord (a ++ rest)
no_rule_word (g.rename x y) rest = (refl, refl, refl, refl, refl, refl, refl, refl)
no_rule_word _ rest = (refl, refl, refl, refl, refl, refl, refl, refl)
