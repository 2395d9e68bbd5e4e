-- The grammar of field functions: which tokens are one, and with which syntax. The quoted words of the productions are reserved words;
-- `( )` around alternatives that `|` parts only group.
use Rattle.std.specs.Prelude.{◌≡◌, ℕ, List, [], ◌∷◌, ◌++◌, Some, None}
use Rattle.mig_model.specs.declared.kind.Kind.{Kind}
use Rattle.mig_token.specs.declared.mark.Mark.{Mark}
use Rattle.mig_token.specs.declared.mark.Mark.TheVariants as M
use Rattle.mig_token.specs.Token.{Tok, mark, text}
use Rattle.mig_syntax.specs.TemplateSyntax.{TemplateSyntax, FieldSyntax}
use Rattle.mig_syntax.specs.RuleSyntax as rule
use Rattle.mig_syntax.specs.RuleSyntax.{ConstSyntax, FillSyntax, LeafSyntax, FunctionSyntax}
use Rattle.mig_reader.specs.Grammar.{kind_word, String, Listed}
use Rattle.mig_parse_template.specs.Grammar.{max_levels, Part, Braced}
use Rattle.mig_parse_leaf.specs.Grammar.{Const, Leaf}

-- fill = const | 'list' part
pub data Fill : List Tok → FillSyntax → Type 0 where
  a_const : (a : List Tok) (c : ConstSyntax) → Const a c → Fill a (rule.const c)
  empty_list : (a : List Tok) (t : TemplateSyntax) → Part max_levels a t → Fill (mark M.List ∷ a) (rule.empty_list t)

-- function = 'rename' STRING STRING | 'drop' STRING | 'add' STRING = fill | 'learn' STRING (kind | 'any') | 'forget' STRING | 'default' STRING = fill
--          | 'maybe' STRING | 'map' STRING leaf | 'nest' ( STRING {, STRING} ) STRING | 'unnest' STRING | 'wrap' STRING | 'unify' STRING leaf 'or' leaf
--          | 'retag' STRING STRING | 'addcase' STRING braced
pub data Function : List Tok → FunctionSyntax → Type 0 where
  rename : (x y : List ℕ) → Function (mark M.Rename ∷ text x ∷ text y ∷ []) (rule.rename x y)
  drop : (x : List ℕ) → Function (mark M.Drop ∷ text x ∷ []) (rule.drop x)
  add : (x : List ℕ) (a : List Tok) (f : FillSyntax) → Fill a f → Function (mark M.Add ∷ text x ∷ mark M.Equals ∷ a) (rule.add x f)
  learn : (x : List ℕ) (m : Mark) (k : Kind) → kind_word m ≡ Some k → Function (mark M.Learn ∷ text x ∷ mark m ∷ []) (rule.learn x (Some k))
  learn_any : (x : List ℕ) → Function (mark M.Learn ∷ text x ∷ mark M.Any ∷ []) (rule.learn x None)
  forget : (x : List ℕ) → Function (mark M.Forget ∷ text x ∷ []) (rule.forget x)
  default : (x : List ℕ) (a : List Tok) (f : FillSyntax) → Fill a f → Function (mark M.Default ∷ text x ∷ mark M.Equals ∷ a) (rule.default x f)
  maybe : (x : List ℕ) → Function (mark M.MayBe ∷ text x ∷ []) (rule.maybe x)
  map : (x : List ℕ) (a : List Tok) (f : LeafSyntax) → Leaf a f → Function (mark M.Map ∷ text x ∷ a) (rule.map x f)
  nest : (a : List Tok) (xs : List (List ℕ)) (y : List ℕ) → Listed String a xs → Function (mark M.Nest ∷ mark M.Open ∷ (a ++ mark M.Close ∷ text y ∷ [])) (rule.nest xs y)
  unnest : (x : List ℕ) → Function (mark M.Unnest ∷ text x ∷ []) (rule.unnest x)
  wrap : (x : List ℕ) → Function (mark M.Wrap ∷ text x ∷ []) (rule.wrap x)
  unify : (x : List ℕ) (a b : List Tok) (f g : LeafSyntax) → Leaf a f → Leaf b g → Function (mark M.Unify ∷ text x ∷ (a ++ mark M.Or ∷ b)) (rule.unify x f g)
  retag : (x y : List ℕ) → Function (mark M.Retag ∷ text x ∷ text y ∷ []) (rule.retag x y)
  add_case : (x : List ℕ) (a : List Tok) (fs : List FieldSyntax) → Braced max_levels a fs → Function (mark M.AddCase ∷ text x ∷ a) (rule.add_case x fs)
