-- The grammar of rules: which tokens are one, and with which syntax. The quoted words of the productions are reserved words;
-- `( )` around alternatives that `|` parts only group. A number says how many levels are free,
-- from the rule itself down.
use Rattle.std.specs.Prelude.{ℕ, suc, List, [], ◌∷◌, ◌++◌, Some, None}
use Rattle.mig_token.specs.declared.mark.Mark.TheVariants as M
use Rattle.mig_token.specs.Token.{Tok, mark, name, text}
use Rattle.mig_syntax.specs.RuleSyntax as rule
use Rattle.mig_syntax.specs.RuleSyntax.{FunctionSyntax, RuleSyntax, rules_of}
use Rattle.mig_parse_function.specs.Grammar.{Function}

mutual
  -- rule = 'nop' | 'all' rule | 'everywhere' rule | 'on' NAME rule | 'at' STRING rule | 'seq' ( rules ) | 'orelse' ( rule , rule ) | function | 'in' STRING function
  pub data Rule : ℕ → List Tok → RuleSyntax → Type 0 where
    nop : (d : ℕ) → Rule (suc d) (mark M.Nop ∷ []) rule.nop
    all : (d : ℕ) (a : List Tok) (r : RuleSyntax) → Rule d a r → Rule (suc d) (mark M.All ∷ a) (rule.all r)
    everywhere : (d : ℕ) (a : List Tok) (r : RuleSyntax) → Rule d a r → Rule (suc d) (mark M.Everywhere ∷ a) (rule.everywhere r)
    on : (d : ℕ) (n : List ℕ) (a : List Tok) (r : RuleSyntax) → Rule d a r → Rule (suc d) (mark M.On ∷ name n ∷ a) (rule.on n r)
    at : (d : ℕ) (x : List ℕ) (a : List Tok) (r : RuleSyntax) → Rule d a r → Rule (suc d) (mark M.At ∷ text x ∷ a) (rule.at x r)
    seq : (d : ℕ) (a : List Tok) (rs : List RuleSyntax) → Rules d a rs → Rule (suc d) (mark M.Seq ∷ mark M.Open ∷ (a ++ mark M.Close ∷ [])) (rule.seq (rules_of rs))
    or_else : (d : ℕ) (a b : List Tok) (r s : RuleSyntax) → Rule d a r → Rule d b s → Rule (suc d) (mark M.OrElse ∷ mark M.Open ∷ (a ++ mark M.Comma ∷ (b ++ mark M.Close ∷ []))) (rule.or_else r s)
    a_function : (d : ℕ) (a : List Tok) (f : FunctionSyntax) → Function a f → Rule (suc d) a (rule.function None f)
    in_case : (d : ℕ) (x : List ℕ) (a : List Tok) (f : FunctionSyntax) → Function a f → Rule (suc d) (mark M.In ∷ text x ∷ a) (rule.function (Some x) f)

  -- rules = rule [, rules], each one level deeper than the one before it
  pub data Rules : ℕ → List Tok → List RuleSyntax → Type 0 where
    last_rule : (d : ℕ) (a : List Tok) (r : RuleSyntax) → Rule d a r → Rules d a (r ∷ [])
    more_rules : (d : ℕ) (a b : List Tok) (r : RuleSyntax) (rs : List RuleSyntax) → Rule (suc d) a r → Rules d b rs → Rules (suc d) (a ++ mark M.Comma ∷ b) (r ∷ rs)
