-- A small chain by its parts.
use Rattle.std.proofs.Common.{◌≡◌, ◌∙◌, ℕ, List, [], ◌∷◌, true, false, Option, Some, None, refl, ap}
use Rattle.std.proofs.lemmas.Option.{same_Some}
use Rattle.mig_model.specs.Const.{Const}
use Rattle.mig_model.specs.Family.{Family}
use Rattle.mig_model.proofs.Bools.{split_and}
use Rattle.mig_model.proofs.Options.{some-there}
use Rattle.mig_field.specs.FieldFn.{Scope, common, constant, FieldOp, rename, add, FieldFn}
use Rattle.mig_rule.specs.Rule as rule
use Rattle.mig_rule.specs.Rule.{Rule}
use Rattle.mig_rule.specs.Chain.{ChainStep, schema, fix}
use Rattle.mig_lift.specs.Small.{Edits, rename_parts, add_parts, both_edits, rule_edits, is_small_rule, is_flat, are_small}

abbrev pub common_function : FieldOp → FieldFn
common_function op = record { scope = common; op = op }

abbrev pub rule_with : Edits → Rule
rule_with e = rule.seq (rule.function (common_function (rename e.0.0 e.0.1))) (rule.function (common_function (add e.1.0 (constant e.1.1))))

pub record Parts : Type 0 where
  -- the first schema's version and family
  pub first : ℕ
  pub before : Family
  pub number : ℕ
  pub edits : Edits
  -- the second schema's version, and the family that it gives
  pub second : ℕ
  pub given : Option Family

abbrev pub steps_of : Parts → List ChainStep
steps_of p = schema p.first (Some p.before) ∷ fix p.number (rule.rule (rule_with p.edits)) ∷ schema p.second p.given ∷ []

abbrev function_of : Scope → FieldOp → FieldFn
function_of s op = record { scope = s; op = op }

rename_is : (s : Scope) (op : FieldOp) (r : List ℕ × List ℕ) → rename_parts s op ≡ Some r → function_of s op ≡ common_function (rename r.0 r.1)
rename_is common (rename x y) r h = ap (λ (q : List ℕ × List ℕ). common_function (rename q.0 q.1)) (same_Some (x, y) r h)
rename_is s op r h = absurd (let k : None ≡ Some r = h in cc)

add_is : (s : Scope) (op : FieldOp) (a : List ℕ × Const) → add_parts s op ≡ Some a → function_of s op ≡ common_function (add a.0 (constant a.1))
add_is common (add x (constant c)) a h = ap (λ (q : List ℕ × Const). common_function (add q.0 (constant q.1))) (same_Some (x, c) a h)
add_is s op a h = absurd (let k : None ≡ Some a = h in cc)

rule_is : (r : Rule) (e : Edits) → rule_edits r ≡ Some e → r ≡ rule_with e
rule_is (rule.seq (rule.function f) (rule.function g)) e h = by (rename_parts f.scope f.op) (add_parts g.scope g.op) (rename_is f.scope f.op) (add_is g.scope g.op) h
  where
    by : (o : Option (List ℕ × List ℕ)) (p : Option (List ℕ × Const)) → ((r : List ℕ × List ℕ) → o ≡ Some r → f ≡ common_function (rename r.0 r.1))
        → ((a : List ℕ × Const) → p ≡ Some a → g ≡ common_function (add a.0 (constant a.1))) → both_edits o p ≡ Some e → rule.seq (rule.function f) (rule.function g) ≡ rule_with e
    by (Some r) (Some a) k l h = (λ i. rule.seq (rule.function (k r refl i)) (rule.function (l a refl i))) ∙ ap rule_with (same_Some (r, a) e h)
    by (Some r) None k l h = absurd cc
    by None p k l h = absurd cc
rule_is r e h = absurd (let k : None ≡ Some e = h in cc)

pub parts_of : (xs : List ChainStep) → are_small xs ≡ true → (p : Parts) × ((xs ≡ steps_of p) × (is_flat p.before ≡ true))
parts_of (schema v (Some f) ∷ (fix n (rule.rule r) ∷ (schema w g ∷ []))) e =
    let both = split_and (is_flat f) (is_small_rule r) e in
    let there = some-there (rule_edits r) both.1 in (
      record { first = v; before = f; number = n; edits = there.0; second = w; given = g },
      (ap (λ q. schema v (Some f) ∷ fix n (rule.rule q) ∷ schema w g ∷ []) (rule_is r there.0 there.1), both.0),
    )
parts_of xs e = absurd (let k : false ≡ true = e in cc)
