use Rattle.std.proofs.Common.{◌≡◌, ◌∙◌, sym, ap, true, is_eq}
use Rattle.std.specs.Prelude.{option_map, Option}
use Rattle.std.specs.Option.{option_or}
use Rattle.mig_model.specs.Names.{under, same_name}
use Rattle.mig_rule.specs.Path.{Spot, step_to}
use Rattle.mig_rule.specs.Spot.{alone, spot_of}
use Rattle.mig_rule.specs.View.{step_of}
use Rattle.mig_rule.proofs.Paths.{at_field, named_alone, again_alone}
use Rattle.mig_rule.proofs.path.step_in_case.Goals as goal

pub returns-in-Some : goal.returns-in-Some
returns-in-Some c =
    let p = c.args.case.on.now in
    let x = c.in-Named.name in
    let gs = c.args.case.fields.now in
    let common = sym c.field_named.ensures ∙ ap (option_map spot_of) c.in-Some.is in
    let here = ap (λ fs. option_map at_field (under x fs)) c.fields.ensures in
    ap (λ (o : Option Spot). option_or o (option_map at_field (under x gs))) (sym common ∙ here)
    ∙ sym (named_alone x p c.args.case.tag.now c.args.case.literal.now gs)
    ∙ (λ i. step_to (step_of (sym c.in-Named.is i)) true (alone p c.args.case.tag.now c.args.case.literal.now gs).template)

pub returns-in-None : goal.returns-in-None
returns-in-None c =
    let p = c.args.case.on.now in
    let x = c.in-Named.name in
    let gs = c.args.case.fields.now in
    let common = sym c.field_named.ensures ∙ ap (option_map spot_of) c.in-None.is in
    let here = ap (λ fs. option_map at_field (under x fs)) c.fields.ensures in
    c.field_named-in-None.ensures
    ∙ ap (λ (o : Option Spot). option_or o (option_map at_field (under x gs))) (sym common ∙ here)
    ∙ sym (named_alone x p c.args.case.tag.now c.args.case.literal.now gs)
    ∙ (λ i. step_to (step_of (sym c.in-Named.is i)) true (alone p c.args.case.tag.now c.args.case.literal.now gs).template)

pub returns-then-is_eq : goal.returns-then-is_eq
returns-then-is_eq c =
    let p = c.args.case.on.now in
    let k = c.in-Case.literal in
    let l = c.args.case.literal.now in
    let equal : same_name k l ≡ true = (λ i. same_name (sym c.bytes.ensures i) (sym c.bytes-in-Case.ensures i)) ∙ sym (c.is_eq.ensures ∙ ap (λ o. is_eq o) c.cmp.ensures) ∙ c.if-is_eq.true in
    sym (again_alone k p c.args.case.tag.now l c.args.case.fields.now equal)
    ∙ (λ i. step_to (step_of (sym c.in-Case.is i)) true (alone p c.args.case.tag.now l c.args.case.fields.now).template)
