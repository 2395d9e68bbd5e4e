-- Reading a rule from left to right: what was read and the tokens after it, or nothing.
use Rattle.std.specs.Prelude.{ℕ, zero, suc, List, [], ◌∷◌, drop, Some, None, if◌then◌else◌}
use Rattle.mig_token.specs.declared.mark.Mark.TheVariants as M
use Rattle.mig_token.specs.Token.{Tok}
use Rattle.mig_syntax.specs.RuleSyntax as rule
use Rattle.mig_syntax.specs.RuleSyntax.{RuleSyntax, rules_of}
use Rattle.mig_reader.specs.Reading.{◌>>=◌, Read, Reader, begins, behind, name_at, text_at, word}
use Rattle.mig_parse_function.specs.Reading.{function_at}

unfoldable pub scoped_at : Reader RuleSyntax
scoped_at ts = do
  x ← text_at ts
  f ← function_at x.1
  Some (rule.function (Some x.0) f.0, f.1)

-- rules behind their first word, where R reads a rule one level down, and S the rules of a `seq`
abbrev pub all_at : Reader RuleSyntax → Reader RuleSyntax
all_at R ts = do
  r ← R ts
  Some (rule.all r.0, r.1)

abbrev pub everywhere_at : Reader RuleSyntax → Reader RuleSyntax
everywhere_at R ts = do
  r ← R ts
  Some (rule.everywhere r.0, r.1)

unfoldable pub on_at : Reader RuleSyntax → Reader RuleSyntax
on_at R ts = do
  n ← name_at ts
  r ← R n.1
  Some (rule.on n.0 r.0, r.1)

unfoldable pub places_at : Reader RuleSyntax → Reader RuleSyntax
places_at R ts = do
  x ← text_at ts
  r ← R x.1
  Some (rule.at x.0 r.0, r.1)

unfoldable pub seq_at : Reader (List RuleSyntax) → Reader RuleSyntax
seq_at S ts = do
  start ← behind M.Open ts
  rs ← S start
  rest ← behind M.Close rs.1
  Some (rule.seq (rules_of rs.0), rest)

unfoldable pub or_else_at : Reader RuleSyntax → Reader RuleSyntax
or_else_at R ts = do
  start ← behind M.Open ts
  r ← R start
  middle ← behind M.Comma r.1
  s ← R middle
  rest ← behind M.Close s.1
  Some (rule.or_else r.0 s.0, rest)

-- a function for the common fields
abbrev pub common_at : Reader RuleSyntax
common_at ts = do
  f ← function_at ts
  Some (rule.function None f.0, f.1)

unfoldable pub joined_with : (R : Reader RuleSyntax) (S : Reader (List RuleSyntax)) → Reader RuleSyntax
joined_with R S ts = word M.At (places_at R) (word M.Seq (seq_at S) (word M.OrElse (or_else_at R) (word M.In scoped_at common_at))) ts

unfoldable pub rule_with : (R : Reader RuleSyntax) (S : Reader (List RuleSyntax)) → Reader RuleSyntax
rule_with R S ts = word M.Nop (λ us. Some (rule.nop, us)) (word M.All (all_at R) (word M.Everywhere (everywhere_at R) (word M.On (on_at R) (joined_with R S)))) ts

-- a comma and further rules, where they come
abbrev pub comma_with : (S : Reader (List RuleSyntax)) → RuleSyntax × List Tok → Read (List RuleSyntax)
comma_with S r = if begins M.Comma r.1 then (do
  rs ← S (drop 1 r.1)
  Some (r.0 ∷ rs.0, rs.1)) else Some (r.0 ∷ [], r.1)

unfoldable mutual
  pub rule_at : ℕ → Reader RuleSyntax
  rule_at zero ts = None
  rule_at (suc d) ts = rule_with (rule_at d) (rules_at d) ts

  pub rules_at : ℕ → Reader (List RuleSyntax)
  rules_at zero ts = None
  rules_at (suc d) ts = rule_with (rule_at d) (rules_at d) ts >>= comma_with (rules_at d)
