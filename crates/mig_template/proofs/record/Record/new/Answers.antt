use Rattle.std.proofs.Common.{rules, ◌≡◌, ◌∙◌, ◌∷◌, ℕ, List, false, length, map, refl, sym, ap, arith}
use Rattle.std.specs.Prelude.{◌==◌}
use Rattle.std.specs.Map.{keys_of}
use Rattle.std.proofs.lemmas.List.{length-map}
use Rattle.std.proofs.lemmas.Result.{err_from_is_err_and}
use Rattle.mig_model.specs.Names.{has_twice, is_among}
use Rattle.mig_model.specs.Template.{Field}
use Rattle.mig_model.specs.Record as parts
use Rattle.mig_model.specs.Record.{is_twice_in}
use Rattle.mig_template.specs.View.{field_of, case_of, given_case, given_choice}
use Rattle.mig_template.proofs.CaseLists.{tag_once, twice_in_parts, tag_twice, none_twice, fault_more, cases_counted}
use Rattle.mig_template.proofs.Sorted.{once_if_ascends}
use Rattle.mig_model.proofs.Bools.{both_false}
use Rattle.mig_template.proofs.record.Record.new.Goals as goal

pub invariant_of-result : goal.invariant_of-result
invariant_of-result c =
    (record { fields = c.in-Some.ensures.found.ascend; cases = tt; distinct = once_if_ascends c.in-Some.fields c.in-Some.ensures.found.ascend; some = refl }, (c.in-Some.ensures.keep, tt))

pub returns-then-has-clause-fault : goal.returns-then-has-clause-fault
returns-then-has-clause-fault c =
    let hs : List Field = c.in-Some.fields in
    let tag = c.in-Some-choice.tag in
    let gs : List parts.Case = map given_case c.in-Some-choice.given.items in
    tag_twice (map field_of c.args.fields.items) hs (given_choice c.args.choice) tag gs c.in-Some-choice.kept c.in-Some.ensures.found.same (search rules)
    (ap (is_among (keys_of hs)) (sym c.bytes.ensures) ∙ sym c.has.ensures ∙ c.if-has.true)

pub order_cases-requires : goal.order_cases-requires
order_cases-requires c =
    let hs : List Field = c.in-Some.fields in
    let tag = c.in-Some-choice.tag in
    tag_once hs tag (ap (is_among (keys_of hs)) (sym c.bytes.ensures) ∙ sym c.has.ensures ∙ c.if-has.false) (once_if_ascends hs c.in-Some.ensures.found.ascend)

pub returns-in_err-cases-clause-fault : goal.returns-in_err-cases-clause-fault
returns-in_err-cases-clause-fault c =
    let hs : List Field = c.in-Some.fields in
    let tag = c.in-Some-choice.tag in
    let gs : List parts.Case = map given_case c.in-Some-choice.given.items in
    let p = err_from_is_err_and c.from_residual.result c.from_residual.ensures.1 in
    rw (p.1, p.2) (fault_more (map field_of c.args.fields.items) hs (given_choice c.args.choice) tag gs c.in-Some-choice.kept c.in-Some.ensures.found.same (search rules)
    c.in_err-cases.field-0.0 c.in_err-cases.ensures.twice)

pub returns-then-is_empty-clause-fault : goal.returns-then-is_empty-clause-fault
returns-then-is_empty-clause-fault c =
    let hs : List Field = c.in-Some.fields in
    let tag = c.in-Some-choice.tag in
    let gs : List parts.Case = map given_case c.in-Some-choice.given.items in
    let free = tag_once hs tag (ap (is_among (keys_of hs)) (sym c.bytes.ensures) ∙ sym c.has.ensures ∙ c.if-has.false) (once_if_ascends hs c.in-Some.ensures.found.ascend) in
    let many : length (map case_of c.in_ok-cases.cases.items) ≡ c.in_ok-cases.cases.len = omega (arith, c.in_ok-cases.cases.ok.0, length-map c.in_ok-cases.cases.items case_of) in (
      none_twice (map field_of c.args.fields.items) hs (given_choice c.args.choice) tag gs c.in-Some-choice.kept c.in-Some.ensures.found.same (search rules) free c.in_ok-cases.ensures.once,
      cases_counted (map field_of c.args.fields.items) hs (given_choice c.args.choice) tag gs c.in-Some-choice.kept c.in-Some.ensures.found.same (search rules) (map case_of c.in_ok-cases.cases.items) c.in_ok-cases.cases.len c.in_ok-cases.ensures.ordered many ∙ sym c.is_empty.ensures ∙ c.if-is_empty.true,
    )

pub invariant_of-result-2 : goal.invariant_of-result-2
invariant_of-result-2 c =
    let hs : List Field = c.in-Some.fields in
    let tag = c.in-Some-choice.tag in
    let cs : List parts.Case = map case_of c.in_ok-cases.cases.items in
    let o = c.in_ok-cases.ensures.ordered in
    let free = tag_once hs tag (ap (is_among (keys_of hs)) (sym c.bytes.ensures) ∙ sym c.has.ensures ∙ c.if-has.false) (once_if_ascends hs c.in-Some.ensures.found.ascend) in
    let apart : is_twice_in (tag ∷ keys_of hs) cs ≡ false = sym (twice_in_parts (tag ∷ keys_of hs) (map given_case c.in-Some-choice.given.items) o.0 cs o.1.0 o.1.1.same) ∙ c.in_ok-cases.ensures.once in
    let many : length cs ≡ c.in_ok-cases.cases.len = omega (arith, c.in_ok-cases.cases.ok.0, length-map c.in_ok-cases.cases.items case_of) in (
      record {
        fields = c.in-Some.ensures.found.ascend;
        cases = (o.1.1.ascend, c.in_ok-cases.ensures.ascend);
        distinct = both_false (has_twice (tag ∷ keys_of hs)) (is_twice_in (tag ∷ keys_of hs) cs) free apart;
        some = ap (λ (n : ℕ). n == 0) many ∙ sym c.is_empty.ensures ∙ c.if-is_empty.false;
      },
      (c.in-Some.ensures.keep, c.in_ok-cases.ensures.kept),
    )

pub returns-clause-once : goal.returns-clause-once
returns-clause-once c =
    let hs : List Field = c.in-Some.fields in
    let tag = c.in-Some-choice.tag in
    let gs : List parts.Case = map given_case c.in-Some-choice.given.items in
    none_twice (map field_of c.args.fields.items) hs (given_choice c.args.choice) tag gs c.in-Some-choice.kept c.in-Some.ensures.found.same (search rules)
    (tag_once hs tag (ap (is_among (keys_of hs)) (sym c.bytes.ensures) ∙ sym c.has.ensures ∙ c.if-has.false) (once_if_ascends hs c.in-Some.ensures.found.ascend)) c.in_ok-cases.ensures.once

pub returns-clause-some : goal.returns-clause-some
returns-clause-some c =
    let hs : List Field = c.in-Some.fields in
    let tag = c.in-Some-choice.tag in
    let gs : List parts.Case = map given_case c.in-Some-choice.given.items in
    let many : length (map case_of c.in_ok-cases.cases.items) ≡ c.in_ok-cases.cases.len = omega (arith, c.in_ok-cases.cases.ok.0, length-map c.in_ok-cases.cases.items case_of) in
    cases_counted (map field_of c.args.fields.items) hs (given_choice c.args.choice) tag gs c.in-Some-choice.kept c.in-Some.ensures.found.same (search rules)
    (map case_of c.in_ok-cases.cases.items) c.in_ok-cases.cases.len c.in_ok-cases.ensures.ordered many ∙ sym c.is_empty.ensures ∙ c.if-is_empty.false
