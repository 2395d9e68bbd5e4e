-- What all names and texts of tokens are, all names and texts of their leaf function, field function or rule are.
use Rattle.std.proofs.Common.{ℕ, List, [], ◌∷◌}
use Rattle.std.specs.List.{AllByRecursion, flat_map}
use Rattle.mig_token.specs.Token.{Tok}
use Rattle.mig_syntax.specs.RuleSyntax.{ConstSyntax, LeafSyntax, FillSyntax, FunctionSyntax, RuleSyntax, rules_of}
use Rattle.mig_reader.specs.Grammar as lists
use Rattle.mig_reader.specs.Grammar.{String, Listed}
use Rattle.mig_parse_leaf.specs.Grammar as l
use Rattle.mig_parse_leaf.specs.Grammar.{Const, Pair, Leaf}
use Rattle.mig_parse_function.specs.Grammar as f
use Rattle.mig_parse_function.specs.Grammar.{Fill, Function}
use Rattle.mig_parse_rule.specs.Grammar as r
use Rattle.mig_parse_rule.specs.Grammar.{Rule, Rules}
use Rattle.mig_parse.specs.Texts.{const_texts, leaf_texts, fill_texts, function_texts, rule_texts, rules_texts}
use Rattle.mig_parse.proofs.TokenTexts.{OfTokens, front_of, rest_of, both}
use Rattle.mig_parse.proofs.TemplateTexts.{all_part, all_braced}

-- ---- constants and leaf functions
all_const : (P : List ℕ → Type 0) (a : List Tok) (c : ConstSyntax) → Const a c → OfTokens P a → AllByRecursion P (const_texts c)
all_const P a c (l.a_text s) h = (h.1.0, tt)
all_const P a c _ h = tt

pair_both : (P : List ℕ → Type 0) (a : List Tok) (x : List ℕ × List ℕ) → Pair a x → OfTokens P a → P x.0 × P x.1
pair_both P a x (l.pair y z) h = (h.0, h.1.1.0)

all_pairs : (P : List ℕ → Type 0) (a : List Tok) (xs : List (List ℕ × List ℕ)) → Listed Pair a xs → OfTokens P a → AllByRecursion P (flat_map (λ p. p.0 ∷ p.1 ∷ []) xs)
all_pairs P a xs (lists.last b x p) h = let y = pair_both P b x p h in (y.0, (y.1, tt))
all_pairs P a xs (lists.more b k x more p q) h =
    let y = pair_both P b x p (front_of P b _ h) in
    (y.0, (y.1, all_pairs P k more q (rest_of P b _ h).1))

pub all_leaf : (P : List ℕ → Type 0) (a : List Tok) (t : LeafSyntax) → Leaf a t → OfTokens P a → AllByRecursion P (leaf_texts t)
all_leaf P a t (l.constant b c p) h = all_const P b c p h.1
all_leaf P a t (l.of_text b c p) h = all_const P b c p h.1
all_leaf P a t (l.table b xs p) h = all_pairs P b xs p (front_of P b _ h.1.1)
all_leaf P a t (l.prefix s) h = (h.1.0, tt)
all_leaf P a t (l.strip s) h = (h.1.0, tt)
all_leaf P a t _ h = tt

-- ---- field functions
all_fill : (P : List ℕ → Type 0) (a : List Tok) (t : FillSyntax) → Fill a t → OfTokens P a → AllByRecursion P (fill_texts t)
all_fill P a t (f.a_const b c p) h = all_const P b c p h
all_fill P a t (f.empty_list b u p) h = all_part P _ b u p h.1

one_string : (P : List ℕ → Type 0) (a : List Tok) (x : List ℕ) → String a x → OfTokens P a → P x
one_string P a x (lists.string y) h = h.0

all_strings : (P : List ℕ → Type 0) (a : List Tok) (xs : List (List ℕ)) → Listed String a xs → OfTokens P a → AllByRecursion P xs
all_strings P a xs (lists.last b x p) h = (one_string P b x p h, tt)
all_strings P a xs (lists.more b k x more p q) h = (one_string P b x p (front_of P b _ h), all_strings P k more q (rest_of P b _ h).1)

all_function : (P : List ℕ → Type 0) (a : List Tok) (t : FunctionSyntax) → Function a t → OfTokens P a → AllByRecursion P (function_texts t)
all_function P a t (f.rename x y) h = (h.1.0, (h.1.1.0, tt))
all_function P a t (f.drop x) h = (h.1.0, tt)
all_function P a t (f.add x b u p) h = (h.1.0, all_fill P b u p h.1.1.1)
all_function P a t (f.learn x m k is) h = (h.1.0, tt)
all_function P a t (f.learn_any x) h = (h.1.0, tt)
all_function P a t (f.forget x) h = (h.1.0, tt)
all_function P a t (f.default x b u p) h = (h.1.0, all_fill P b u p h.1.1.1)
all_function P a t (f.maybe x) h = (h.1.0, tt)
all_function P a t (f.map x b u p) h = (h.1.0, all_leaf P b u p h.1.1)
all_function P a t (f.nest b xs y p) h = ((rest_of P b _ h.1.1).1.0, all_strings P b xs p (front_of P b _ h.1.1))
all_function P a t (f.unnest x) h = (h.1.0, tt)
all_function P a t (f.wrap x) h = (h.1.0, tt)
all_function P a t (f.unify x b k u v p q) h = (h.1.0, both P (leaf_texts u) (leaf_texts v) (all_leaf P b u p (front_of P b _ h.1.1)) (all_leaf P k v q (rest_of P b _ h.1.1).1))
all_function P a t (f.retag x y) h = (h.1.0, (h.1.1.0, tt))
all_function P a t (f.add_case x b fs p) h = (h.1.0, all_braced P _ b fs p h.1.1)

-- ---- rules
mutual
  pub all_rule : (P : List ℕ → Type 0) (d : ℕ) (a : List Tok) (t : RuleSyntax) → Rule d a t → OfTokens P a → AllByRecursion P (rule_texts t)
  all_rule P d a t (r.nop e) h = tt
  all_rule P d a t (r.all e b u p) h = all_rule P e b u p h.1
  all_rule P d a t (r.everywhere e b u p) h = all_rule P e b u p h.1
  all_rule P d a t (r.on e n b u p) h = (h.1.0, all_rule P e b u p h.1.1)
  all_rule P d a t (r.at e x b u p) h = (h.1.0, all_rule P e b u p h.1.1)
  all_rule P d a t (r.seq e b us p) h = all_rules P e b us p (front_of P b _ h.1.1)
  all_rule P d a t (r.or_else e b k u v p q) h = both P (rule_texts u) (rule_texts v) (all_rule P e b u p (front_of P b _ h.1.1)) (all_rule P e k v q (front_of P k _ (rest_of P b _ h.1.1).1))
  all_rule P d a t (r.a_function e b u p) h = all_function P b u p h
  all_rule P d a t (r.in_case e x b u p) h = (h.1.0, all_function P b u p h.1.1)

  all_rules : (P : List ℕ → Type 0) (d : ℕ) (a : List Tok) (ts : List RuleSyntax) → Rules d a ts → OfTokens P a → AllByRecursion P (rules_texts (rules_of ts))
  all_rules P d a ts (r.last_rule e b u p) h = both P (rule_texts u) [] (all_rule P e b u p h) tt
  all_rules P d a ts (r.more_rules e b k u us p q) h = both P (rule_texts u) (rules_texts (rules_of us)) (all_rule P _ b u p (front_of P b _ h)) (all_rules P e k us q (rest_of P b _ h).1)
