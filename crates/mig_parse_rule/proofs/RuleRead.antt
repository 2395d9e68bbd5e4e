-- What is in the grammar of rules is read, whatever follows it.
use Rattle.std.proofs.Common.{◌≡◌, ℕ, zero, suc, List, [], ◌∷◌, ◌++◌, false, Some, None, refl, ap, ◌∙◌, append_assoc}
use Rattle.mig_token.specs.declared.mark.Mark.TheVariants as M
use Rattle.mig_token.specs.Token.{Tok, mark, name, text}
use Rattle.mig_syntax.specs.RuleSyntax as rule
use Rattle.mig_syntax.specs.RuleSyntax.{FunctionSyntax, RuleSyntax, rules_of}
use Rattle.mig_parse_rule.specs.Grammar as g
use Rattle.mig_parse_rule.specs.Grammar.{Rule, Rules}
use Rattle.mig_reader.specs.Reading.{begins}
use Rattle.mig_parse_function.specs.Reading.{function_at}
use Rattle.mig_parse_rule.specs.Reading.{scoped_at, on_at, places_at, seq_at, or_else_at, joined_with, rule_with, rule_at, rules_at}
use Rattle.mig_reader.proofs.Fronts.{here}
use Rattle.mig_parse_function.proofs.FunctionRead.{NoRuleWord, function_read, no_rule_word}

nop_rule : (d : ℕ) (rest : List Tok) → rule_at (suc d) (mark M.Nop ∷ rest) ≡ here rule.nop rest
unfolding rule_at rule_with
nop_rule d rest = refl

all_rule : (d : ℕ) (ts rest : List Tok) (r : RuleSyntax) → rule_at d ts ≡ here r rest → rule_at (suc d) (mark M.All ∷ ts) ≡ here (rule.all r) rest
unfolding rule_at rule_with
all_rule d ts rest r e = rw e refl

everywhere_rule : (d : ℕ) (ts rest : List Tok) (r : RuleSyntax) → rule_at d ts ≡ here r rest → rule_at (suc d) (mark M.Everywhere ∷ ts) ≡ here (rule.everywhere r) rest
unfolding rule_at rule_with
everywhere_rule d ts rest r e = rw e refl

on_rule : (d : ℕ) (n : List ℕ) (ts rest : List Tok) (r : RuleSyntax) → rule_at d ts ≡ here r rest → rule_at (suc d) (mark M.On ∷ name n ∷ ts) ≡ here (rule.on n r) rest
unfolding rule_at rule_with on_at
on_rule d n ts rest r e = rw e refl

at_rule : (d : ℕ) (x : List ℕ) (ts rest : List Tok) (r : RuleSyntax) → rule_at d ts ≡ here r rest → rule_at (suc d) (mark M.At ∷ text x ∷ ts) ≡ here (rule.at x r) rest
unfolding rule_at rule_with joined_with places_at
at_rule d x ts rest r e = rw e refl

seq_rule : (d : ℕ) (ts rest : List Tok) (rs : List RuleSyntax) → rules_at d ts ≡ here rs (mark M.Close ∷ rest) → rule_at (suc d) (mark M.Seq ∷ mark M.Open ∷ ts) ≡ here (rule.seq (rules_of rs)) rest
unfolding rule_at rule_with joined_with seq_at
seq_rule d ts rest rs e = rw e refl

or_else_rule : (d : ℕ) (ts us rest : List Tok) (r s : RuleSyntax) → rule_at d ts ≡ here r (mark M.Comma ∷ us) → rule_at d us ≡ here s (mark M.Close ∷ rest) → rule_at (suc d) (mark M.OrElse ∷ mark M.Open ∷ ts) ≡ here (rule.or_else r s) rest
unfolding rule_at rule_with joined_with or_else_at
or_else_rule d ts us rest r s e f = rw (e, f) refl

function_rule : (d : ℕ) (ts rest : List Tok) (f : FunctionSyntax) → NoRuleWord ts → function_at ts ≡ here f rest → rule_at (suc d) ts ≡ here (rule.function None f) rest
unfolding rule_at rule_with joined_with
function_rule d ts rest f h e = rw (h.0, h.1, h.2, h.3, h.4, h.5, h.6, h.7, e) refl

case_rule : (d : ℕ) (x : List ℕ) (ts rest : List Tok) (f : FunctionSyntax) → function_at ts ≡ here f rest → rule_at (suc d) (mark M.In ∷ text x ∷ ts) ≡ here (rule.function (Some x) f) rest
unfolding rule_at rule_with joined_with scoped_at
case_rule d x ts rest f e = rw e refl

last_read : (d : ℕ) (ts rest : List Tok) (r : RuleSyntax) → rule_at d ts ≡ here r rest → begins M.Comma rest ≡ false → rules_at d ts ≡ here (r ∷ []) rest
unfolding rule_at
last_read zero ts rest r e h = absurd cc
last_read (suc d) ts rest r e h = rw (e, h) refl

more_read : (d : ℕ) (ts b rest : List Tok) (r : RuleSyntax) (rs : List RuleSyntax) → rule_at (suc d) ts ≡ here r (mark M.Comma ∷ b) → rules_at d b ≡ here rs rest → rules_at (suc d) ts ≡ here (r ∷ rs) rest
unfolding rule_at
more_read d ts b rest r rs e f = rw (e, f) refl

mutual
  pub rule_read : {d : ℕ} {a : List Tok} {r : RuleSyntax} → Rule d a r → (rest : List Tok) → rule_at d (a ++ rest) ≡ here r rest
  rule_read (g.nop d) rest = nop_rule d rest
  rule_read (g.all d a r p) rest = all_rule d (a ++ rest) rest r (rule_read p rest)
  rule_read (g.everywhere d a r p) rest = everywhere_rule d (a ++ rest) rest r (rule_read p rest)
  rule_read (g.on d n a r p) rest = on_rule d n (a ++ rest) rest r (rule_read p rest)
  rule_read (g.at d x a r p) rest = at_rule d x (a ++ rest) rest r (rule_read p rest)
  rule_read (g.seq d a rs p) rest =
      let e : (a ++ mark M.Close ∷ []) ++ rest ≡ a ++ mark M.Close ∷ rest = append_assoc a (mark M.Close ∷ []) rest in
      ap (λ (l : List Tok). rule_at (suc d) (mark M.Seq ∷ mark M.Open ∷ l)) e ∙ seq_rule d (a ++ mark M.Close ∷ rest) rest rs (rules_read p (mark M.Close ∷ rest) refl)
  rule_read (g.or_else d a b r s p q) rest =
      let end = b ++ mark M.Close ∷ [] in
      let us = b ++ mark M.Close ∷ rest in
      let e : (a ++ mark M.Comma ∷ end) ++ rest ≡ a ++ mark M.Comma ∷ us = append_assoc a (mark M.Comma ∷ end) rest ∙ ap (λ (l : List Tok). a ++ mark M.Comma ∷ l) (append_assoc b (mark M.Close ∷ []) rest) in
      ap (λ (l : List Tok). rule_at (suc d) (mark M.OrElse ∷ mark M.Open ∷ l)) e ∙ or_else_rule d (a ++ mark M.Comma ∷ us) us rest r s (rule_read p (mark M.Comma ∷ us)) (rule_read q (mark M.Close ∷ rest))
  rule_read (g.a_function d a f p) rest = function_rule d (a ++ rest) rest f (no_rule_word p rest) (function_read p rest)
  rule_read (g.in_case d x a f p) rest = case_rule d x (a ++ rest) rest f (function_read p rest)

  rules_read : {d : ℕ} {a : List Tok} {rs : List RuleSyntax} → Rules d a rs → (rest : List Tok) → begins M.Comma rest ≡ false → rules_at d (a ++ rest) ≡ here rs rest
  rules_read (g.last_rule d a r p) rest h = last_read d (a ++ rest) rest r (rule_read p rest) h
  rules_read (g.more_rules d a b r rs p q) rest h =
      let e : (a ++ mark M.Comma ∷ b) ++ rest ≡ a ++ mark M.Comma ∷ (b ++ rest) = append_assoc a (mark M.Comma ∷ b) rest in
      ap (rules_at (suc d)) e ∙ more_read d (a ++ mark M.Comma ∷ (b ++ rest)) (b ++ rest) rest r rs (rule_read p (mark M.Comma ∷ (b ++ rest))) (rules_read q rest h)
