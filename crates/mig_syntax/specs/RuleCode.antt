-- The syntax of a rule as a stored value, so that a struct may have it as its value: the number of the case, and then its parts.
use Rattle.std.specs.Prelude.{ℕ, List, Option, ◌≡◌, refl}
use Rattle.std.specs.Coded.{Coded, coded_ℤ, coded_list, coded_bool, coded_option, coded×}
use Rattle.std.proofs.Common.{ap, ap₂, arith}
use base.Stored.{Gv, gnil, gnum, gcons, num}
use Rattle.mig_model.specs.declared.kind.Kind.{Kind}
use Rattle.mig_model.specs.Stored.{head, tail, coded_name, coded_kind}
use Rattle.mig_syntax.specs.TemplateCode.{one, other, coded_template, coded_field_list}
use Rattle.mig_syntax.specs.RuleSyntax as syntax
use Rattle.mig_syntax.specs.RuleSyntax.{ConstSyntax, FillSyntax, LeafSyntax, FunctionSyntax, RuleSyntax, RulesSyntax}

abbrev coded_names : Coded (List (List ℕ))
coded_names = coded_list coded_name

abbrev coded_table : Coded (List (List ℕ × List ℕ))
coded_table = coded_list (coded× coded_name coded_name)

abbrev coded_learnt : Coded (Option Kind)
coded_learnt = coded_option coded_kind

abbrev coded_case : Coded (Option (List ℕ))
coded_case = coded_option coded_name

abbrev code_const : ConstSyntax → Gv
code_const (syntax.number k z) = gcons (gnum 0) (gcons (coded_kind.code k) (coded_ℤ.code z))
code_const (syntax.bits k z) = gcons (gnum 1) (gcons (coded_kind.code k) (coded_ℤ.code z))
code_const (syntax.text s) = gcons (gnum 2) (coded_name.code s)
code_const (syntax.boolean b) = gcons (gnum 3) (coded_bool.code b)
code_const syntax.null = gcons (gnum 4) gnil
code_const (syntax.empty k) = gcons (gnum 5) (coded_kind.code k)

pub inj_const : (x y : ConstSyntax) → code_const x ≡ code_const y → x ≡ y
inj_const (syntax.number k z) (syntax.number k' z') p = ap₂ syntax.number (coded_kind.inj k k' (ap one p)) (coded_ℤ.inj z z' (ap other p))
inj_const (syntax.bits k z) (syntax.bits k' z') p = ap₂ syntax.bits (coded_kind.inj k k' (ap one p)) (coded_ℤ.inj z z' (ap other p))
inj_const (syntax.text s) (syntax.text s') p = ap syntax.text (coded_name.inj s s' (ap tail p))
inj_const (syntax.boolean b) (syntax.boolean b') p = ap syntax.boolean (coded_bool.inj b b' (ap tail p))
inj_const syntax.null syntax.null p = refl
inj_const (syntax.empty k) (syntax.empty k') p = ap syntax.empty (coded_kind.inj k k' (ap tail p))
inj_const x y p =
    let e : num (head (code_const x)) ≡ num (head (code_const y)) = ap (λ g. num (head g)) p in
    absurd (omega arith)

abbrev coded_const : Coded ConstSyntax
coded_const = record { code = code_const; inj = inj_const }

abbrev code_fill : FillSyntax → Gv
code_fill (syntax.const c) = gcons (gnum 0) (coded_const.code c)
code_fill (syntax.empty_list t) = gcons (gnum 1) (coded_template.code t)

pub inj_fill : (x y : FillSyntax) → code_fill x ≡ code_fill y → x ≡ y
inj_fill (syntax.const c) (syntax.const c') p = ap syntax.const (coded_const.inj c c' (ap tail p))
inj_fill (syntax.empty_list t) (syntax.empty_list t') p = ap syntax.empty_list (coded_template.inj t t' (ap tail p))
inj_fill x y p =
    let e : num (head (code_fill x)) ≡ num (head (code_fill y)) = ap (λ g. num (head g)) p in
    absurd (omega arith)

abbrev coded_fill : Coded FillSyntax
coded_fill = record { code = code_fill; inj = inj_fill }

abbrev code_leaf : LeafSyntax → Gv
code_leaf (syntax.constant c) = gcons (gnum 0) (coded_const.code c)
code_leaf (syntax.plus z) = gcons (gnum 1) (coded_ℤ.code z)
code_leaf (syntax.times z) = gcons (gnum 2) (coded_ℤ.code z)
code_leaf (syntax.clamp y z) = gcons (gnum 3) (gcons (coded_ℤ.code y) (coded_ℤ.code z))
code_leaf (syntax.to_kind k) = gcons (gnum 4) (coded_kind.code k)
code_leaf syntax.to_text = gcons (gnum 5) gnil
code_leaf (syntax.of_text c) = gcons (gnum 6) (coded_const.code c)
code_leaf (syntax.table ps) = gcons (gnum 7) (coded_table.code ps)
code_leaf (syntax.prefix s) = gcons (gnum 8) (coded_name.code s)
code_leaf (syntax.strip s) = gcons (gnum 9) (coded_name.code s)
code_leaf syntax.lower = gcons (gnum 10) gnil

pub inj_leaf : (x y : LeafSyntax) → code_leaf x ≡ code_leaf y → x ≡ y
inj_leaf (syntax.constant c) (syntax.constant c') p = ap syntax.constant (coded_const.inj c c' (ap tail p))
inj_leaf (syntax.plus z) (syntax.plus z') p = ap syntax.plus (coded_ℤ.inj z z' (ap tail p))
inj_leaf (syntax.times z) (syntax.times z') p = ap syntax.times (coded_ℤ.inj z z' (ap tail p))
inj_leaf (syntax.clamp y z) (syntax.clamp y' z') p = ap₂ syntax.clamp (coded_ℤ.inj y y' (ap one p)) (coded_ℤ.inj z z' (ap other p))
inj_leaf (syntax.to_kind k) (syntax.to_kind k') p = ap syntax.to_kind (coded_kind.inj k k' (ap tail p))
inj_leaf syntax.to_text syntax.to_text p = refl
inj_leaf (syntax.of_text c) (syntax.of_text c') p = ap syntax.of_text (coded_const.inj c c' (ap tail p))
inj_leaf (syntax.table ps) (syntax.table ps') p = ap syntax.table (coded_table.inj ps ps' (ap tail p))
inj_leaf (syntax.prefix s) (syntax.prefix s') p = ap syntax.prefix (coded_name.inj s s' (ap tail p))
inj_leaf (syntax.strip s) (syntax.strip s') p = ap syntax.strip (coded_name.inj s s' (ap tail p))
inj_leaf syntax.lower syntax.lower p = refl
inj_leaf x y p =
    let e : num (head (code_leaf x)) ≡ num (head (code_leaf y)) = ap (λ g. num (head g)) p in
    absurd (omega arith)

abbrev coded_leaf : Coded LeafSyntax
coded_leaf = record { code = code_leaf; inj = inj_leaf }

abbrev code_function : FunctionSyntax → Gv
code_function (syntax.rename x y) = gcons (gnum 0) (gcons (coded_name.code x) (coded_name.code y))
code_function (syntax.drop x) = gcons (gnum 1) (coded_name.code x)
code_function (syntax.add x f) = gcons (gnum 2) (gcons (coded_name.code x) (coded_fill.code f))
code_function (syntax.learn x k) = gcons (gnum 3) (gcons (coded_name.code x) (coded_learnt.code k))
code_function (syntax.forget x) = gcons (gnum 4) (coded_name.code x)
code_function (syntax.default x f) = gcons (gnum 5) (gcons (coded_name.code x) (coded_fill.code f))
code_function (syntax.maybe x) = gcons (gnum 6) (coded_name.code x)
code_function (syntax.map x f) = gcons (gnum 7) (gcons (coded_name.code x) (coded_leaf.code f))
code_function (syntax.nest xs y) = gcons (gnum 8) (gcons (coded_names.code xs) (coded_name.code y))
code_function (syntax.unnest x) = gcons (gnum 9) (coded_name.code x)
code_function (syntax.wrap x) = gcons (gnum 10) (coded_name.code x)
code_function (syntax.unify x f g) = gcons (gnum 11) (gcons (coded_name.code x) (gcons (coded_leaf.code f) (coded_leaf.code g)))
code_function (syntax.retag x y) = gcons (gnum 12) (gcons (coded_name.code x) (coded_name.code y))
code_function (syntax.add_case x fs) = gcons (gnum 13) (gcons (coded_name.code x) (coded_field_list.code fs))

pub inj_function : (x y : FunctionSyntax) → code_function x ≡ code_function y → x ≡ y
inj_function (syntax.rename x y) (syntax.rename x' y') p = ap₂ syntax.rename (coded_name.inj x x' (ap one p)) (coded_name.inj y y' (ap other p))
inj_function (syntax.drop x) (syntax.drop x') p = ap syntax.drop (coded_name.inj x x' (ap tail p))
inj_function (syntax.add x f) (syntax.add x' f') p = ap₂ syntax.add (coded_name.inj x x' (ap one p)) (coded_fill.inj f f' (ap other p))
inj_function (syntax.learn x k) (syntax.learn x' k') p = ap₂ syntax.learn (coded_name.inj x x' (ap one p)) (coded_learnt.inj k k' (ap other p))
inj_function (syntax.forget x) (syntax.forget x') p = ap syntax.forget (coded_name.inj x x' (ap tail p))
inj_function (syntax.default x f) (syntax.default x' f') p = ap₂ syntax.default (coded_name.inj x x' (ap one p)) (coded_fill.inj f f' (ap other p))
inj_function (syntax.maybe x) (syntax.maybe x') p = ap syntax.maybe (coded_name.inj x x' (ap tail p))
inj_function (syntax.map x f) (syntax.map x' f') p = ap₂ syntax.map (coded_name.inj x x' (ap one p)) (coded_leaf.inj f f' (ap other p))
inj_function (syntax.nest xs y) (syntax.nest xs' y') p = ap₂ syntax.nest (coded_names.inj xs xs' (ap one p)) (coded_name.inj y y' (ap other p))
inj_function (syntax.unnest x) (syntax.unnest x') p = ap syntax.unnest (coded_name.inj x x' (ap tail p))
inj_function (syntax.wrap x) (syntax.wrap x') p = ap syntax.wrap (coded_name.inj x x' (ap tail p))
inj_function (syntax.unify x f g) (syntax.unify x' f' g') p =
    let same_name : x ≡ x' = coded_name.inj x x' (ap one p) in
    let same_left : f ≡ f' = coded_leaf.inj f f' (ap (λ g. head (other g)) p) in
    let same_right : g ≡ g' = coded_leaf.inj g g' (ap (λ g. tail (other g)) p) in
    cc
inj_function (syntax.retag x y) (syntax.retag x' y') p = ap₂ syntax.retag (coded_name.inj x x' (ap one p)) (coded_name.inj y y' (ap other p))
inj_function (syntax.add_case x fs) (syntax.add_case x' fs') p = ap₂ syntax.add_case (coded_name.inj x x' (ap one p)) (coded_field_list.inj fs fs' (ap other p))
inj_function x y p =
    let e : num (head (code_function x)) ≡ num (head (code_function y)) = ap (λ g. num (head g)) p in
    absurd (omega arith)

abbrev coded_function : Coded FunctionSyntax
coded_function = record { code = code_function; inj = inj_function }

abbrev mutual
  pub code_rule : RuleSyntax → Gv
  code_rule (syntax.seq rs) = gcons (gnum 0) (code_rules rs)
  code_rule (syntax.function x f) = gcons (gnum 1) (gcons (coded_case.code x) (coded_function.code f))
  code_rule syntax.nop = gcons (gnum 2) gnil
  code_rule (syntax.all r) = gcons (gnum 3) (code_rule r)
  code_rule (syntax.everywhere r) = gcons (gnum 4) (code_rule r)
  code_rule (syntax.on n r) = gcons (gnum 5) (gcons (coded_name.code n) (code_rule r))
  code_rule (syntax.at x r) = gcons (gnum 6) (gcons (coded_name.code x) (code_rule r))
  code_rule (syntax.or_else r s) = gcons (gnum 7) (gcons (code_rule r) (code_rule s))

  pub code_rules : RulesSyntax → Gv
  code_rules syntax.no_rule = gnil
  code_rules (syntax.rule r rs) = gcons (code_rule r) (code_rules rs)

mutual
  pub inj_rule : (x y : RuleSyntax) → code_rule x ≡ code_rule y → x ≡ y
  inj_rule (syntax.seq a) (syntax.seq b) p = ap syntax.seq (inj_rules a b (ap tail p))
  inj_rule (syntax.function x f) (syntax.function y g) p = ap₂ syntax.function (coded_case.inj x y (ap one p)) (coded_function.inj f g (ap other p))
  inj_rule syntax.nop syntax.nop p = refl
  inj_rule (syntax.all r) (syntax.all s) p = ap syntax.all (inj_rule r s (ap tail p))
  inj_rule (syntax.everywhere r) (syntax.everywhere s) p = ap syntax.everywhere (inj_rule r s (ap tail p))
  inj_rule (syntax.on n r) (syntax.on m s) p = ap₂ syntax.on (coded_name.inj n m (ap one p)) (inj_rule r s (ap other p))
  inj_rule (syntax.at n r) (syntax.at m s) p = ap₂ syntax.at (coded_name.inj n m (ap one p)) (inj_rule r s (ap other p))
  inj_rule (syntax.or_else r s) (syntax.or_else t u) p = ap₂ syntax.or_else (inj_rule r t (ap one p)) (inj_rule s u (ap other p))
  inj_rule x y p =
      let e : num (head (code_rule x)) ≡ num (head (code_rule y)) = ap (λ c. num (head c)) p in
      absurd (omega arith)

  pub inj_rules : (x y : RulesSyntax) → code_rules x ≡ code_rules y → x ≡ y
  inj_rules syntax.no_rule syntax.no_rule p = refl
  inj_rules (syntax.rule a rs) (syntax.rule b ss) p = ap₂ syntax.rule (inj_rule a b (ap head p)) (inj_rules rs ss (ap tail p))
  inj_rules _ _ p = cc

abbrev pub coded_rule : Coded RuleSyntax
coded_rule = record { code = code_rule; inj = inj_rule }

abbrev pub coded_rule_list : Coded (List RuleSyntax)
coded_rule_list = coded_list coded_rule
