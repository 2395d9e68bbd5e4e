-- The names and texts of a declaration: its names, points, strings, literals, texts of constants and pairs of tables.
use Rattle.std.specs.Prelude.{◌≤◌, ◌<◌, ◌^◌, ℕ, List, [], ◌∷◌, ◌++◌, length, Option, Some, None, IsUtf8}
use Rattle.std.specs.Str.{chars}
use Rattle.std.specs.List.{AllByRecursion, flat_map}
use Rattle.mig_syntax.specs.TemplateSyntax as template
use Rattle.mig_syntax.specs.TemplateSyntax.{TemplateSyntax, FieldsSyntax, ChoiceSyntax, CasesSyntax, no_field, field, no_choice, choice, no_case, case, fields_of}
use Rattle.mig_syntax.specs.RuleSyntax as rule
use Rattle.mig_syntax.specs.RuleSyntax.{ConstSyntax, FillSyntax, LeafSyntax, FunctionSyntax, RuleSyntax, RulesSyntax}
use Rattle.mig_syntax.specs.DeclSyntax as decl
use Rattle.mig_syntax.specs.DeclSyntax.{StepSyntax, FixSyntax, DeclSyntax}

-- at most 1,024 bytes of UTF-8, whose characters are from U+0020 to U+FFFF
abbrev pub IsSpelledText : List ℕ → Type 0
IsSpelledText b = (length b ≤ 1024) × IsUtf8 b × AllByRecursion (λ c. (32 ≤ c) × (c < 2 ^ 16)) (chars b)

-- ---- templates
abbrev mutual
  pub template_texts : TemplateSyntax → List (List ℕ)
  template_texts (template.list t) = template_texts t
  template_texts (template.record_of fs c dots) = fields_texts fs ++ choice_texts c
  template_texts (template.point n) = n ∷ []
  template_texts (template.sum s t) = template_texts s ++ template_texts t
  template_texts t = []

  pub fields_texts : FieldsSyntax → List (List ℕ)
  fields_texts no_field = []
  fields_texts (field x may t fs) = x ∷ (template_texts t ++ fields_texts fs)

  pub choice_texts : ChoiceSyntax → List (List ℕ)
  choice_texts no_choice = []
  choice_texts (choice tag cs kept) = tag ∷ cases_texts cs

  pub cases_texts : CasesSyntax → List (List ℕ)
  cases_texts no_case = []
  cases_texts (case l fs cs) = l ∷ (fields_texts fs ++ cases_texts cs)

-- ---- constants and leaf functions
abbrev pub const_texts : ConstSyntax → List (List ℕ)
const_texts (rule.text s) = s ∷ []
const_texts c = []

abbrev pub leaf_texts : LeafSyntax → List (List ℕ)
leaf_texts (rule.constant c) = const_texts c
leaf_texts (rule.of_text c) = const_texts c
leaf_texts (rule.table ps) = flat_map (λ p. p.0 ∷ p.1 ∷ []) ps
leaf_texts (rule.prefix s) = s ∷ []
leaf_texts (rule.strip s) = s ∷ []
leaf_texts f = []

-- ---- field functions
abbrev pub fill_texts : FillSyntax → List (List ℕ)
fill_texts (rule.const c) = const_texts c
fill_texts (rule.empty_list t) = template_texts t

abbrev pub function_texts : FunctionSyntax → List (List ℕ)
function_texts (rule.rename x y) = x ∷ y ∷ []
function_texts (rule.drop x) = x ∷ []
function_texts (rule.add x f) = x ∷ fill_texts f
function_texts (rule.learn x k) = x ∷ []
function_texts (rule.forget x) = x ∷ []
function_texts (rule.default x f) = x ∷ fill_texts f
function_texts (rule.maybe x) = x ∷ []
function_texts (rule.map x f) = x ∷ leaf_texts f
function_texts (rule.nest xs y) = y ∷ xs
function_texts (rule.unnest x) = x ∷ []
function_texts (rule.wrap x) = x ∷ []
function_texts (rule.unify x f g) = x ∷ (leaf_texts f ++ leaf_texts g)
function_texts (rule.retag x y) = x ∷ y ∷ []
function_texts (rule.add_case x fs) = x ∷ fields_texts (fields_of fs)

-- ---- rules
-- the literal of a case, if any
abbrev pub scope_texts : Option (List ℕ) → List (List ℕ)
scope_texts None = []
scope_texts (Some x) = x ∷ []

abbrev mutual
  pub rule_texts : RuleSyntax → List (List ℕ)
  rule_texts rule.nop = []
  rule_texts (rule.all r) = rule_texts r
  rule_texts (rule.everywhere r) = rule_texts r
  rule_texts (rule.on n r) = n ∷ rule_texts r
  rule_texts (rule.at x r) = x ∷ rule_texts r
  rule_texts (rule.seq rs) = rules_texts rs
  rule_texts (rule.or_else r s) = rule_texts r ++ rule_texts s
  rule_texts (rule.function x f) = scope_texts x ++ function_texts f

  pub rules_texts : RulesSyntax → List (List ℕ)
  rules_texts rule.no_rule = []
  rules_texts (rule.rule r rs) = rule_texts r ++ rules_texts rs

-- ---- declarations
abbrev pub step_texts : StepSyntax → List (List ℕ)
step_texts (decl.field x) = x ∷ []
step_texts (decl.case x) = x ∷ []
step_texts s = []

abbrev pub fix_texts : FixSyntax → List (List ℕ)
fix_texts (decl.new_type n t) = n ∷ template_texts t
fix_texts (decl.drop_type n) = n ∷ []
fix_texts (decl.deep ss f) = flat_map step_texts ss ++ leaf_texts f
fix_texts (decl.rule r) = rule_texts r

abbrev pub decl_texts : DeclSyntax → List (List ℕ)
decl_texts (decl.form f) = []
decl_texts (decl.version xs z) = xs
decl_texts (decl.schema z follows) = []
decl_texts (decl.named n t) = n ∷ template_texts t
decl_texts (decl.root n) = n ∷ []
decl_texts (decl.fix z f) = fix_texts f
