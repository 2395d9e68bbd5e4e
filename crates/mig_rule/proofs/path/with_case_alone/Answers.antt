use Rattle.std.proofs.Common.{◌≡◌, ◌∙◌, Some, sym, ap}
use Rattle.std.specs.Prelude.{option_map}
use Rattle.mig_model.specs.Record.{found_case}
use Rattle.mig_rule.specs.Spot.{alone, spot_of}
use Rattle.mig_rule.proofs.Paths.{case_alone}
use Rattle.mig_rule.proofs.path.with_case_alone.Goals as goal

pub returns-in_err-fields : goal.returns-in_err-fields
returns-in_err-fields c =
    let p = c.args.on.now in
    let l = c.args.literal.now in
    let choice = c.in_ok-choice.choice.now in
    let some : p.choice ≡ Some choice = sym c.choice.ensures ∙ ap (option_map (λ b. b.now)) c.in_ok-choice.was in
    let none = ap (λ n. found_case n p.choice) (sym c.bytes.ensures) ∙ sym c.case.ensures ∙ ap (option_map (λ b. b.now)) c.in_err-fields.was in
    ap (option_map spot_of) c.from_residual-in_err-fields.ensures
    ∙ sym (case_alone l p choice some ∙ ap (option_map (alone p choice.0 l)) none)

pub returns : goal.returns
returns c =
    let p = c.args.on.now in
    let l = c.args.literal.now in
    let choice = c.in_ok-choice.choice.now in
    let some : p.choice ≡ Some choice = sym c.choice.ensures ∙ ap (option_map (λ b. b.now)) c.in_ok-choice.was in
    let found = ap (λ n. found_case n p.choice) (sym c.bytes.ensures) ∙ sym c.case.ensures ∙ ap (option_map (λ b. b.now)) c.in_ok-fields.was in
    ap (λ tag. Some (alone p tag l c.in_ok-fields.fields.now)) c.tag.ensures
    ∙ sym (case_alone l p choice some ∙ ap (option_map (alone p choice.0 l)) found)
