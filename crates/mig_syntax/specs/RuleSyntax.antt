-- The syntax of constants, fills, leaf functions, field functions and rules as plain data, wherever their lists lie in memory.
use Rattle.std.specs.Prelude.{ℕ, ℤ, suc, ◌+◌, List, [], ◌∷◌, Bool, Option}
use Rattle.mig_model.specs.declared.kind.Kind.{Kind}
use Rattle.mig_syntax.specs.TemplateSyntax.{TemplateSyntax, FieldSyntax}

pub data ConstSyntax : Type 0 where
  number : Kind → ℤ → ConstSyntax
  bits : Kind → ℤ → ConstSyntax
  text : List ℕ → ConstSyntax
  boolean : Bool → ConstSyntax
  null : ConstSyntax
  empty : Kind → ConstSyntax

pub data FillSyntax : Type 0 where
  const : ConstSyntax → FillSyntax
  empty_list : TemplateSyntax → FillSyntax

pub data LeafSyntax : Type 0 where
  constant : ConstSyntax → LeafSyntax
  plus : ℤ → LeafSyntax
  times : ℤ → LeafSyntax
  clamp : ℤ → ℤ → LeafSyntax
  to_kind : Kind → LeafSyntax
  to_text : LeafSyntax
  of_text : ConstSyntax → LeafSyntax
  -- the left and the right sides
  table : List (List ℕ × List ℕ) → LeafSyntax
  prefix : List ℕ → LeafSyntax
  strip : List ℕ → LeafSyntax
  lower : LeafSyntax

pub data FunctionSyntax : Type 0 where
  rename : List ℕ → List ℕ → FunctionSyntax
  drop : List ℕ → FunctionSyntax
  add : List ℕ → FillSyntax → FunctionSyntax
  -- no kind stands for `any`
  learn : List ℕ → Option Kind → FunctionSyntax
  forget : List ℕ → FunctionSyntax
  default : List ℕ → FillSyntax → FunctionSyntax
  maybe : List ℕ → FunctionSyntax
  map : List ℕ → LeafSyntax → FunctionSyntax
  nest : List (List ℕ) → List ℕ → FunctionSyntax
  unnest : List ℕ → FunctionSyntax
  wrap : List ℕ → FunctionSyntax
  unify : List ℕ → LeafSyntax → LeafSyntax → FunctionSyntax
  retag : List ℕ → List ℕ → FunctionSyntax
  -- the literal and the fields of the case
  add_case : List ℕ → List FieldSyntax → FunctionSyntax

mutual
  pub data RuleSyntax : Type 0 where
    nop : RuleSyntax
    all : RuleSyntax → RuleSyntax
    everywhere : RuleSyntax → RuleSyntax
    -- the name of a type
    on : List ℕ → RuleSyntax → RuleSyntax
    -- the name of a field
    at : List ℕ → RuleSyntax → RuleSyntax
    seq : RulesSyntax → RuleSyntax
    or_else : RuleSyntax → RuleSyntax → RuleSyntax
    -- the literal of the case that the function is for, if any
    function : Option (List ℕ) → FunctionSyntax → RuleSyntax

  pub data RulesSyntax : Type 0 where
    no_rule : RulesSyntax
    rule : RuleSyntax → RulesSyntax → RulesSyntax

abbrev pub rules_of : List RuleSyntax → RulesSyntax
rules_of [] = no_rule
rules_of (r ∷ rs) = rule r (rules_of rs)

abbrev mutual
  pub rule_size : RuleSyntax → ℕ
  rule_size (all r) = suc (rule_size r)
  rule_size (everywhere r) = suc (rule_size r)
  rule_size (on n r) = suc (rule_size r)
  rule_size (at x r) = suc (rule_size r)
  rule_size (seq rs) = suc (rules_size rs)
  rule_size (or_else r s) = suc (rule_size r + rule_size s)
  rule_size _ = 1

  pub rules_size : RulesSyntax → ℕ
  rules_size no_rule = 0
  rules_size (rule r rs) = rule_size r + rules_size rs

abbrev pub rule_list_size : List RuleSyntax → ℕ
rule_list_size rs = rules_size (rules_of rs)
