-- Rules as stored values, so that a struct may have one as its value, and their sizes.
use Rattle.std.specs.Prelude.{ℕ, suc, ◌+◌, List, Option, Some, None, ◌≡◌, refl}
use Rattle.std.specs.Coded.{Coded, code_by, coded_ℤ, coded_list, coded_bool, coded_option, coded×}
use Rattle.std.proofs.Common.{ap, ap₂, arith}
use base.Stored.{Gv, gnil, gnum, gcons, num}
use Rattle.mig_model.specs.declared.kind.Kind.{Kind}
use Rattle.mig_model.specs.Template.{Field}
use Rattle.mig_model.specs.Const as const
use Rattle.mig_model.specs.Const.{Const}
use Rattle.mig_model.specs.Leaf as leaf
use Rattle.mig_model.specs.Leaf.{LeafFn}
use Rattle.mig_model.specs.Stored.{head, tail, coded_name, coded_kind}
use Rattle.mig_template.specs.Code.{coded_template, coded_fields}
use Rattle.mig_field.specs.FieldFn as op
use Rattle.mig_field.specs.FieldFn.{Scope, Fill, FieldOp, FieldFn}
use Rattle.mig_rule.specs.Rule as rule
use Rattle.mig_rule.specs.Rule.{Rule}

-- which alternative it is, and what that has
abbrev pub tagged : ℕ → Gv → Gv
tagged n g = gcons (gnum n) g

-- ---- constants
abbrev code_const : Const → Gv
code_const (const.byte z) = tagged 0 (coded_ℤ.code z)
code_const (const.short z) = tagged 1 (coded_ℤ.code z)
code_const (const.int z) = tagged 2 (coded_ℤ.code z)
code_const (const.long z) = tagged 3 (coded_ℤ.code z)
code_const (const.whole z) = tagged 4 (coded_ℤ.code z)
code_const (const.float n) = tagged 5 (gnum n)
code_const (const.double n) = tagged 6 (gnum n)
code_const (const.text s) = tagged 7 (coded_name.code s)
code_const (const.boolean b) = tagged 8 (coded_bool.code b)
code_const const.null = tagged 9 gnil
code_const const.no_bytes = tagged 10 gnil
code_const const.no_ints = tagged 11 gnil
code_const const.no_longs = tagged 12 gnil

pub inj_const : (x y : Const) → code_const x ≡ code_const y → x ≡ y
inj_const (const.byte a) (const.byte b) p = ap const.byte (coded_ℤ.inj a b (ap tail p))
inj_const (const.short a) (const.short b) p = ap const.short (coded_ℤ.inj a b (ap tail p))
inj_const (const.int a) (const.int b) p = ap const.int (coded_ℤ.inj a b (ap tail p))
inj_const (const.long a) (const.long b) p = ap const.long (coded_ℤ.inj a b (ap tail p))
inj_const (const.whole a) (const.whole b) p = ap const.whole (coded_ℤ.inj a b (ap tail p))
inj_const (const.float a) (const.float b) p = ap const.float (ap (λ g. num (tail g)) p)
inj_const (const.double a) (const.double b) p = ap const.double (ap (λ g. num (tail g)) p)
inj_const (const.text a) (const.text b) p = ap const.text (coded_name.inj a b (ap tail p))
inj_const (const.boolean a) (const.boolean b) p = ap const.boolean (coded_bool.inj a b (ap tail p))
inj_const const.null const.null p = refl
inj_const const.no_bytes const.no_bytes p = refl
inj_const const.no_ints const.no_ints p = refl
inj_const const.no_longs const.no_longs p = refl
inj_const x y p =
    let e : num (head (code_const x)) ≡ num (head (code_const y)) = ap (λ g. num (head g)) p in
    absurd (omega arith)

abbrev pub coded_const : Coded Const
coded_const = record { code = code_const; inj = inj_const }

-- ---- leaf functions
abbrev coded_pairs : Coded (List (List ℕ × List ℕ))
coded_pairs = coded_list (coded× coded_name coded_name)

abbrev code_leaf : LeafFn → Gv
code_leaf (leaf.constant c) = tagged 0 (code_const c)
code_leaf (leaf.plus z) = tagged 1 (coded_ℤ.code z)
code_leaf (leaf.times z) = tagged 2 (coded_ℤ.code z)
code_leaf (leaf.clamp_to a b) = tagged 3 (gcons (coded_ℤ.code a) (coded_ℤ.code b))
code_leaf (leaf.to_kind k) = tagged 4 (coded_kind.code k)
code_leaf leaf.to_text = tagged 5 gnil
code_leaf (leaf.of_text c) = tagged 6 (code_const c)
code_leaf (leaf.table ps) = tagged 7 (coded_pairs.code ps)
code_leaf (leaf.prefix s) = tagged 8 (coded_name.code s)
code_leaf (leaf.strip s) = tagged 9 (coded_name.code s)
code_leaf leaf.lower = tagged 10 gnil

pub inj_leaf : (x y : LeafFn) → code_leaf x ≡ code_leaf y → x ≡ y
inj_leaf (leaf.constant a) (leaf.constant b) p = ap leaf.constant (inj_const a b (ap tail p))
inj_leaf (leaf.plus a) (leaf.plus b) p = ap leaf.plus (coded_ℤ.inj a b (ap tail p))
inj_leaf (leaf.times a) (leaf.times b) p = ap leaf.times (coded_ℤ.inj a b (ap tail p))
inj_leaf (leaf.clamp_to a b) (leaf.clamp_to c d) p = ap₂ leaf.clamp_to (coded_ℤ.inj a c (ap (λ g. head (tail g)) p)) (coded_ℤ.inj b d (ap (λ g. tail (tail g)) p))
inj_leaf (leaf.to_kind a) (leaf.to_kind b) p = ap leaf.to_kind (coded_kind.inj a b (ap tail p))
inj_leaf leaf.to_text leaf.to_text p = refl
inj_leaf (leaf.of_text a) (leaf.of_text b) p = ap leaf.of_text (inj_const a b (ap tail p))
inj_leaf (leaf.table a) (leaf.table b) p = ap leaf.table (coded_pairs.inj a b (ap tail p))
inj_leaf (leaf.prefix a) (leaf.prefix b) p = ap leaf.prefix (coded_name.inj a b (ap tail p))
inj_leaf (leaf.strip a) (leaf.strip b) p = ap leaf.strip (coded_name.inj a b (ap tail p))
inj_leaf leaf.lower leaf.lower p = refl
inj_leaf x y p =
    let e : num (head (code_leaf x)) ≡ num (head (code_leaf y)) = ap (λ g. num (head g)) p in
    absurd (omega arith)

abbrev pub coded_leaf : Coded LeafFn
coded_leaf = record { code = code_leaf; inj = inj_leaf }

-- ---- field functions
abbrev code_fill : Fill → Gv
code_fill (op.constant c) = tagged 0 (code_const c)
code_fill (op.empty_list V) = tagged 1 (coded_template.code V)

pub inj_fill : (x y : Fill) → code_fill x ≡ code_fill y → x ≡ y
inj_fill (op.constant a) (op.constant b) p = ap op.constant (inj_const a b (ap tail p))
inj_fill (op.empty_list a) (op.empty_list b) p = ap op.empty_list (coded_template.inj a b (ap tail p))
inj_fill x y p =
    let e : num (head (code_fill x)) ≡ num (head (code_fill y)) = ap (λ g. num (head g)) p in
    absurd (omega arith)

abbrev coded_fill : Coded Fill
coded_fill = record { code = code_fill; inj = inj_fill }

abbrev two_names : Coded (List ℕ × List ℕ)
two_names = coded× coded_name coded_name

abbrev name_and_fill : Coded (List ℕ × Fill)
name_and_fill = coded× coded_name coded_fill

abbrev name_and_kind : Coded (List ℕ × Option Kind)
name_and_kind = coded× coded_name (coded_option coded_kind)

abbrev name_and_leaf : Coded (List ℕ × LeafFn)
name_and_leaf = coded× coded_name coded_leaf

abbrev names_and_name : Coded (List (List ℕ) × List ℕ)
names_and_name = coded× (coded_list coded_name) coded_name

abbrev name_and_leaves : Coded (List ℕ × (LeafFn × LeafFn))
name_and_leaves = coded× coded_name (coded× coded_leaf coded_leaf)

abbrev name_and_fields : Coded (List ℕ × List Field)
name_and_fields = coded× coded_name coded_fields

abbrev code_op : FieldOp → Gv
code_op (op.rename x y) = tagged 0 (two_names.code (x, y))
code_op (op.drop x) = tagged 1 (coded_name.code x)
code_op (op.add x c) = tagged 2 (name_and_fill.code (x, c))
code_op (op.learn x k) = tagged 3 (name_and_kind.code (x, k))
code_op (op.forget x) = tagged 4 (coded_name.code x)
code_op (op.default x c) = tagged 5 (name_and_fill.code (x, c))
code_op (op.maybe x) = tagged 6 (coded_name.code x)
code_op (op.map_leaf x g) = tagged 7 (name_and_leaf.code (x, g))
code_op (op.nest xs y) = tagged 8 (names_and_name.code (xs, y))
code_op (op.unnest y) = tagged 9 (coded_name.code y)
code_op (op.wrap x) = tagged 10 (coded_name.code x)
code_op (op.unify x g h) = tagged 11 (name_and_leaves.code (x, (g, h)))
code_op (op.retag a b) = tagged 12 (two_names.code (a, b))
code_op (op.add_case b fs) = tagged 13 (name_and_fields.code (b, fs))

pub inj_op : (x y : FieldOp) → code_op x ≡ code_op y → x ≡ y
inj_op (op.rename a b) (op.rename c d) p = ap (λ q. op.rename q.0 q.1) (two_names.inj (a, b) (c, d) (ap tail p))
inj_op (op.drop a) (op.drop b) p = ap op.drop (coded_name.inj a b (ap tail p))
inj_op (op.add a b) (op.add c d) p = ap (λ q. op.add q.0 q.1) (name_and_fill.inj (a, b) (c, d) (ap tail p))
inj_op (op.learn a b) (op.learn c d) p = ap (λ q. op.learn q.0 q.1) (name_and_kind.inj (a, b) (c, d) (ap tail p))
inj_op (op.forget a) (op.forget b) p = ap op.forget (coded_name.inj a b (ap tail p))
inj_op (op.default a b) (op.default c d) p = ap (λ q. op.default q.0 q.1) (name_and_fill.inj (a, b) (c, d) (ap tail p))
inj_op (op.maybe a) (op.maybe b) p = ap op.maybe (coded_name.inj a b (ap tail p))
inj_op (op.map_leaf a b) (op.map_leaf c d) p = ap (λ q. op.map_leaf q.0 q.1) (name_and_leaf.inj (a, b) (c, d) (ap tail p))
inj_op (op.nest a b) (op.nest c d) p = ap (λ q. op.nest q.0 q.1) (names_and_name.inj (a, b) (c, d) (ap tail p))
inj_op (op.unnest a) (op.unnest b) p = ap op.unnest (coded_name.inj a b (ap tail p))
inj_op (op.wrap a) (op.wrap b) p = ap op.wrap (coded_name.inj a b (ap tail p))
inj_op (op.unify a b c) (op.unify d e f) p = ap (λ q. op.unify q.0 q.1.0 q.1.1) (name_and_leaves.inj (a, (b, c)) (d, (e, f)) (ap tail p))
inj_op (op.retag a b) (op.retag c d) p = ap (λ q. op.retag q.0 q.1) (two_names.inj (a, b) (c, d) (ap tail p))
inj_op (op.add_case a b) (op.add_case c d) p = ap (λ q. op.add_case q.0 q.1) (name_and_fields.inj (a, b) (c, d) (ap tail p))
inj_op x y p =
    let e : num (head (code_op x)) ≡ num (head (code_op y)) = ap (λ g. num (head g)) p in
    absurd (omega arith)

abbrev coded_op : Coded FieldOp
coded_op = record { code = code_op; inj = inj_op }

abbrev scope_to : Scope → Option (List ℕ)
scope_to op.common = None
scope_to (op.in_case l) = Some l

abbrev scope_from : Option (List ℕ) → Scope
scope_from None = op.common
scope_from (Some l) = op.in_case l

pub scope_again : (s : Scope) → scope_from (scope_to s) ≡ s
scope_again op.common = refl
scope_again (op.in_case l) = refl

abbrev coded_scope : Coded Scope
coded_scope = code_by (Option (List ℕ)) (coded_option coded_name) scope_to scope_from scope_again

abbrev function_of : Scope × FieldOp → FieldFn
function_of t = record { scope = t.0; op = t.1 }

abbrev pub coded_function : Coded FieldFn
coded_function = code_by (Scope × FieldOp) (coded× coded_scope coded_op) (λ f. (f.scope, f.op)) function_of (λ _. refl)

-- ---- rules
abbrev pub code_rule : Rule → Gv
code_rule rule.nop = tagged 0 gnil
code_rule (rule.function f) = tagged 1 (coded_function.code f)
code_rule (rule.on n r) = tagged 2 (gcons (coded_name.code n) (code_rule r))
code_rule (rule.at x r) = tagged 3 (gcons (coded_name.code x) (code_rule r))
code_rule (rule.seq r s) = tagged 4 (gcons (code_rule r) (code_rule s))
code_rule (rule.or_else r s) = tagged 5 (gcons (code_rule r) (code_rule s))
code_rule (rule.all r) = tagged 6 (code_rule r)
code_rule (rule.everywhere r) = tagged 7 (code_rule r)

pub inj_rule : (x y : Rule) → code_rule x ≡ code_rule y → x ≡ y
inj_rule rule.nop rule.nop p = refl
inj_rule (rule.function a) (rule.function b) p = ap rule.function (coded_function.inj a b (ap tail p))
inj_rule (rule.on a b) (rule.on c d) p = ap₂ rule.on (coded_name.inj a c (ap (λ g. head (tail g)) p)) (inj_rule b d (ap (λ g. tail (tail g)) p))
inj_rule (rule.at a b) (rule.at c d) p = ap₂ rule.at (coded_name.inj a c (ap (λ g. head (tail g)) p)) (inj_rule b d (ap (λ g. tail (tail g)) p))
inj_rule (rule.seq a b) (rule.seq c d) p = ap₂ rule.seq (inj_rule a c (ap (λ g. head (tail g)) p)) (inj_rule b d (ap (λ g. tail (tail g)) p))
inj_rule (rule.or_else a b) (rule.or_else c d) p = ap₂ rule.or_else (inj_rule a c (ap (λ g. head (tail g)) p)) (inj_rule b d (ap (λ g. tail (tail g)) p))
inj_rule (rule.all a) (rule.all b) p = ap rule.all (inj_rule a b (ap tail p))
inj_rule (rule.everywhere a) (rule.everywhere b) p = ap rule.everywhere (inj_rule a b (ap tail p))
inj_rule x y p =
    let e : num (head (code_rule x)) ≡ num (head (code_rule y)) = ap (λ g. num (head g)) p in
    absurd (omega arith)

abbrev pub coded_rule : Coded Rule
coded_rule = record { code = code_rule; inj = inj_rule }

-- how many rules there are in one
abbrev pub rule_size : Rule → ℕ
rule_size rule.nop = 1
rule_size (rule.function f) = 1
rule_size (rule.on n r) = suc (rule_size r)
rule_size (rule.at x r) = suc (rule_size r)
rule_size (rule.seq r s) = suc (rule_size r + rule_size s)
rule_size (rule.or_else r s) = suc (rule_size r + rule_size s)
rule_size (rule.all r) = suc (rule_size r)
rule_size (rule.everywhere r) = suc (rule_size r)
