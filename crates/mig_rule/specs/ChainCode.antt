-- Fixes and chains as stored values, so that a struct may have a chain as its value.
use Rattle.std.specs.Prelude.{ℕ, List, Option, ◌≡◌, refl}
use Rattle.std.specs.Coded.{Coded, code_by, coded_ℕ, coded_list, coded_option, coded×}
use Rattle.std.proofs.Common.{ap, arith}
use base.Stored.{Gv, gnil, num}
use Rattle.mig_model.specs.declared.form.Form.{Form}
use Rattle.mig_model.specs.Family.{Family}
use Rattle.mig_model.specs.Leaf.{LeafFn}
use Rattle.mig_model.specs.Stored.{head, tail, coded_name}
use Rattle.mig_model.specs.Template.{Template}
use Rattle.mig_template.specs.Code.{coded_template}
use Rattle.mig_schema.specs.Code.{coded_path, coded_family, coded_form}
use Rattle.mig_rule.specs.Rule as rule
use Rattle.mig_rule.specs.Rule.{PathStep, Fix}
use Rattle.mig_rule.specs.Chain.{ChainStep, Chain, Path, schema, fix}
use Rattle.mig_rule.specs.Code.{tagged, coded_leaf, coded_rule}

abbrev code_step : PathStep → Gv
code_step (rule.named x) = tagged 0 (coded_name.code x)
code_step rule.each = tagged 1 gnil
code_step rule.left = tagged 2 gnil
code_step rule.right = tagged 3 gnil
code_step (rule.in_case l) = tagged 4 (coded_name.code l)

pub inj_step : (x y : PathStep) → code_step x ≡ code_step y → x ≡ y
inj_step (rule.named a) (rule.named b) p = ap rule.named (coded_name.inj a b (ap tail p))
inj_step rule.each rule.each p = refl
inj_step rule.left rule.left p = refl
inj_step rule.right rule.right p = refl
inj_step (rule.in_case a) (rule.in_case b) p = ap rule.in_case (coded_name.inj a b (ap tail p))
inj_step x y p =
    let e : num (head (code_step x)) ≡ num (head (code_step y)) = ap (λ g. num (head g)) p in
    absurd (omega arith)

abbrev coded_steps : Coded (List PathStep)
coded_steps = coded_list (record { code = code_step; inj = inj_step })

abbrev steps_and_leaf : Coded (List PathStep × LeafFn)
steps_and_leaf = coded× coded_steps coded_leaf

abbrev name_and_template : Coded (List ℕ × Template)
name_and_template = coded× coded_name coded_template

abbrev code_fix : Fix → Gv
code_fix (rule.rule r) = tagged 0 (coded_rule.code r)
code_fix (rule.deep steps g) = tagged 1 (steps_and_leaf.code (steps, g))
code_fix (rule.new_type n V) = tagged 2 (name_and_template.code (n, V))
code_fix (rule.drop_type n) = tagged 3 (coded_name.code n)

pub inj_fix : (x y : Fix) → code_fix x ≡ code_fix y → x ≡ y
inj_fix (rule.rule a) (rule.rule b) p = ap rule.rule (coded_rule.inj a b (ap tail p))
inj_fix (rule.deep a b) (rule.deep c d) p = ap (λ q. rule.deep q.0 q.1) (steps_and_leaf.inj (a, b) (c, d) (ap tail p))
inj_fix (rule.new_type a b) (rule.new_type c d) p = ap (λ q. rule.new_type q.0 q.1) (name_and_template.inj (a, b) (c, d) (ap tail p))
inj_fix (rule.drop_type a) (rule.drop_type b) p = ap rule.drop_type (coded_name.inj a b (ap tail p))
inj_fix x y p =
    let e : num (head (code_fix x)) ≡ num (head (code_fix y)) = ap (λ g. num (head g)) p in
    absurd (omega arith)

abbrev number_and_family : Coded (ℕ × Option Family)
number_and_family = coded× coded_ℕ (coded_option coded_family)

abbrev number_and_fix : Coded (ℕ × Fix)
number_and_fix = coded× coded_ℕ (record { code = code_fix; inj = inj_fix })

abbrev code_chain_step : ChainStep → Gv
code_chain_step (schema v f) = tagged 0 (number_and_family.code (v, f))
code_chain_step (fix n x) = tagged 1 (number_and_fix.code (n, x))

pub inj_chain_step : (x y : ChainStep) → code_chain_step x ≡ code_chain_step y → x ≡ y
inj_chain_step (schema a b) (schema c d) p = ap (λ q. schema q.0 q.1) (number_and_family.inj (a, b) (c, d) (ap tail p))
inj_chain_step (fix a b) (fix c d) p = ap (λ q. fix q.0 q.1) (number_and_fix.inj (a, b) (c, d) (ap tail p))
inj_chain_step x y p =
    let e : num (head (code_chain_step x)) ≡ num (head (code_chain_step y)) = ap (λ g. num (head g)) p in
    absurd (omega arith)

abbrev coded_chain_steps : Coded (List ChainStep)
coded_chain_steps = coded_list (record { code = code_chain_step; inj = inj_chain_step })

abbrev chain_of : Form × (Path × (Option ℕ × List ChainStep)) → Chain
chain_of t = record { form = t.0; version = t.1.0; missing = t.1.1.0; steps = t.1.1.1 }

abbrev pub coded_chain : Coded Chain
coded_chain =
    code_by (Form × (Path × (Option ℕ × List ChainStep))) (coded× coded_form (coded× coded_path (coded× (coded_option coded_ℕ) coded_chain_steps)))
    (λ c. (c.form, (c.version, (c.missing, c.steps)))) chain_of (λ _. refl)
