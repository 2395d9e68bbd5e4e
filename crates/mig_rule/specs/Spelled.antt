-- Which chains are spelled: what a chain text can say of names, texts and kinds.
use Rattle.std.specs.Prelude.{◌≤◌, ◌<◌, ◌^◌, ◌≡◌, ℕ, List, [], ◌∷◌, ◌++◌, length, true, Option, Some, None, IsUtf8}
use Rattle.std.specs.Str.{chars}
use Rattle.std.specs.List.{AllByRecursion, flat_map}
use Rattle.mig_model.specs.declared.kind.Kind.{Kind}
use Rattle.mig_model.specs.Family.{Family}
use Rattle.mig_model.specs.Const as const
use Rattle.mig_model.specs.Const.{Const, const_kind}
use Rattle.mig_model.specs.Leaf as leaf_fn
use Rattle.mig_model.specs.Leaf.{LeafFn}
use Rattle.mig_model.specs.Template as template
use Rattle.mig_model.specs.Template.{Template, Field, Fields, no_field, field, fields_of, Choice, no_choice, choice, Cases, no_case, case, is_of_form}
use Rattle.mig_schema.specs.Types.{Named}
use Rattle.mig_field.specs.FieldFn as op
use Rattle.mig_field.specs.FieldFn.{Scope, Fill, FieldOp}
use Rattle.mig_rule.specs.Rule as rule
use Rattle.mig_rule.specs.Rule.{Rule, PathStep, Fix}
use Rattle.mig_rule.specs.Chain.{Chain, ChainStep, schema, fix}

-- at most 1,024 bytes of UTF-8, whose characters are from U+0020 to U+FFFF
abbrev pub IsSpelledText : List ℕ → Type 0
IsSpelledText b = (length b ≤ 1024) × IsUtf8 b × AllByRecursion (λ c. (32 ≤ c) × (c < 2 ^ 16)) (chars b)

-- ---- templates: their names and literals, and their kinds
abbrev mutual
  pub template_names : Template → List (List ℕ)
  template_names (template.list V) = template_names V
  template_names (template.point n) = n ∷ []
  template_names (template.rec fs c r) = field_names fs ++ choice_names c
  template_names (template.sum V W) = template_names V ++ template_names W
  template_names V = []

  pub field_names : Fields → List (List ℕ)
  field_names no_field = []
  field_names (field x p V fs) = x ∷ (template_names V ++ field_names fs)

  pub choice_names : Choice → List (List ℕ)
  choice_names no_choice = []
  choice_names (choice tag cs kept) = tag ∷ case_names cs

  pub case_names : Cases → List (List ℕ)
  case_names no_case = []
  case_names (case l fs cs) = l ∷ (field_names fs ++ case_names cs)

abbrev mutual
  pub template_kinds : Template → List Kind
  template_kinds (template.leaf k) = k ∷ []
  template_kinds (template.list V) = template_kinds V
  template_kinds (template.rec fs c r) = field_kinds fs ++ choice_kinds c
  template_kinds (template.sum V W) = template_kinds V ++ template_kinds W
  template_kinds V = []

  pub field_kinds : Fields → List Kind
  field_kinds no_field = []
  field_kinds (field x p V fs) = template_kinds V ++ field_kinds fs

  pub choice_kinds : Choice → List Kind
  choice_kinds no_choice = []
  choice_kinds (choice tag cs kept) = case_kinds cs

  pub case_kinds : Cases → List Kind
  case_kinds no_case = []
  case_kinds (case l fs cs) = field_kinds fs ++ case_kinds cs

-- ---- constants and leaf functions
abbrev pub const_texts : Const → List (List ℕ)
const_texts (const.text s) = s ∷ []
const_texts c = []

abbrev pub leaf_fn_texts : LeafFn → List (List ℕ)
leaf_fn_texts (leaf_fn.constant c) = const_texts c
leaf_fn_texts (leaf_fn.of_text c) = const_texts c
leaf_fn_texts (leaf_fn.table ps) = flat_map (λ p. p.0 ∷ p.1 ∷ []) ps
leaf_fn_texts (leaf_fn.prefix p) = p ∷ []
leaf_fn_texts (leaf_fn.strip p) = p ∷ []
leaf_fn_texts g = []

abbrev pub leaf_fn_kinds : LeafFn → List Kind
leaf_fn_kinds (leaf_fn.constant c) = const_kind c ∷ []
leaf_fn_kinds (leaf_fn.to_kind k) = k ∷ []
leaf_fn_kinds (leaf_fn.of_text c) = const_kind c ∷ []
leaf_fn_kinds g = []

-- ---- field functions
abbrev pub fill_names : Fill → List (List ℕ)
fill_names (op.constant c) = const_texts c
fill_names (op.empty_list V) = template_names V

abbrev pub fill_kinds : Fill → List Kind
fill_kinds (op.constant c) = const_kind c ∷ []
fill_kinds (op.empty_list V) = template_kinds V

abbrev pub op_texts : FieldOp → List (List ℕ)
op_texts (op.rename x y) = x ∷ y ∷ []
op_texts (op.drop x) = x ∷ []
op_texts (op.add x c) = x ∷ fill_names c
op_texts (op.learn x k) = x ∷ []
op_texts (op.forget x) = x ∷ []
op_texts (op.default x c) = x ∷ fill_names c
op_texts (op.maybe x) = x ∷ []
op_texts (op.map_leaf x g) = x ∷ leaf_fn_texts g
op_texts (op.nest xs y) = y ∷ xs
op_texts (op.unnest y) = y ∷ []
op_texts (op.wrap x) = x ∷ []
op_texts (op.unify x g h) = x ∷ (leaf_fn_texts g ++ leaf_fn_texts h)
op_texts (op.retag a b) = a ∷ b ∷ []
op_texts (op.add_case b fs) = b ∷ field_names (fields_of fs)

abbrev pub kind_list : Option Kind → List Kind
kind_list None = []
kind_list (Some k) = k ∷ []

abbrev pub op_kinds : FieldOp → List Kind
op_kinds (op.add x c) = fill_kinds c
op_kinds (op.learn x k) = kind_list k
op_kinds (op.default x c) = fill_kinds c
op_kinds (op.map_leaf x g) = leaf_fn_kinds g
op_kinds (op.unify x g h) = leaf_fn_kinds g ++ leaf_fn_kinds h
op_kinds (op.add_case b fs) = field_kinds (fields_of fs)
op_kinds o = []

abbrev pub scope_texts : Scope → List (List ℕ)
scope_texts op.common = []
scope_texts (op.in_case l) = l ∷ []

-- ---- rules and fixes
abbrev pub rule_texts : Rule → List (List ℕ)
rule_texts rule.nop = []
rule_texts (rule.function f) = scope_texts f.scope ++ op_texts f.op
rule_texts (rule.on n r) = n ∷ rule_texts r
rule_texts (rule.at x r) = x ∷ rule_texts r
rule_texts (rule.seq r s) = rule_texts r ++ rule_texts s
rule_texts (rule.or_else r s) = rule_texts r ++ rule_texts s
rule_texts (rule.all r) = rule_texts r
rule_texts (rule.everywhere r) = rule_texts r

abbrev pub rule_kinds : Rule → List Kind
rule_kinds (rule.function f) = op_kinds f.op
rule_kinds (rule.on n r) = rule_kinds r
rule_kinds (rule.at x r) = rule_kinds r
rule_kinds (rule.seq r s) = rule_kinds r ++ rule_kinds s
rule_kinds (rule.or_else r s) = rule_kinds r ++ rule_kinds s
rule_kinds (rule.all r) = rule_kinds r
rule_kinds (rule.everywhere r) = rule_kinds r
rule_kinds rule.nop = []

abbrev pub step_texts : PathStep → List (List ℕ)
step_texts (rule.named x) = x ∷ []
step_texts (rule.in_case l) = l ∷ []
step_texts s = []

abbrev pub fix_texts : Fix → List (List ℕ)
fix_texts (rule.rule r) = rule_texts r
fix_texts (rule.deep steps g) = flat_map step_texts steps ++ leaf_fn_texts g
fix_texts (rule.new_type n V) = n ∷ template_names V
fix_texts (rule.drop_type n) = n ∷ []

abbrev pub fix_kinds : Fix → List Kind
fix_kinds (rule.rule r) = rule_kinds r
fix_kinds (rule.deep steps g) = leaf_fn_kinds g
fix_kinds (rule.new_type n V) = template_kinds V
fix_kinds (rule.drop_type n) = []

abbrev pub family_texts : Option Family → List (List ℕ)
family_texts None = []
family_texts (Some f) = f.version ++ f.root ∷ flat_map (λ (t : Named). t.0 ∷ template_names t.1) f.types

abbrev pub chain_step_texts : ChainStep → List (List ℕ)
chain_step_texts (schema v f) = family_texts f
chain_step_texts (fix n x) = fix_texts x

abbrev pub chain_step_kinds : ChainStep → List Kind
chain_step_kinds (schema v f) = []
chain_step_kinds (fix n x) = fix_kinds x

-- the version name and each name, literal and text of the steps is spelled, and each kind in a fix is of the chain's form
pub record IsSpelled (c : Chain) : Type 0 where
  pub version : AllByRecursion IsSpelledText c.version
  pub texts : AllByRecursion IsSpelledText (flat_map chain_step_texts c.steps)
  pub kinds : AllByRecursion (λ k. is_of_form c.form k ≡ true) (flat_map chain_step_kinds c.steps)
