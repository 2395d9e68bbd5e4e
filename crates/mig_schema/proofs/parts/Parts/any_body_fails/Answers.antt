use Rattle.std.proofs.Common.{rules, ◌≡◌, ◌||◌, ◌∙◌, false, true, List, map, sym, ap}
use Rattle.std.specs.List.{list_any}
use Rattle.mig_template.specs.declared.template.Template.{Template}
use Rattle.mig_template.specs.View.{template_of}
use Rattle.mig_schema.specs.Check.{body_fails}
use Rattle.mig_schema.proofs.Types.{test_at_first, test_of_bodies}
use Rattle.mig_schema.proofs.parts.Parts.any_body_fails.Goals as goal

pub returns-then-body_fails : goal.returns-then-body_fails
returns-then-body_fails c =
    let p = body_fails c.args.self.now c.args.fault in
    let fails : true ≡ p (template_of c.in-Some.body.now) = search rules in
    ap (λ b. b || list_any p (map template_of c.next.new.self)) fails ∙ sym (test_at_first p c.loop-body.body-iterator c.next.new.self c.in-Some.body.now c.in-Some.ensures.steps)
    ∙ c.loop-body.invariant ∙ test_of_bodies p c.args.self.now.types

pub loop-body-preserved : goal.loop-body-preserved
loop-body-preserved c =
    let p = body_fails c.args.self.now c.args.fault in
    let passes : false ≡ p (template_of c.in-Some.body.now) = search rules in
    ap (λ b. b || list_any p (map template_of c.next.new.self)) passes ∙ sym (test_at_first p c.loop-body.body-iterator c.next.new.self c.in-Some.body.now c.in-Some.ensures.steps)
    ∙ c.loop-body.invariant

pub returns : goal.returns
returns c =
    let p = body_fails c.args.self.now c.args.fault in
    ap (λ (l : List Template). list_any p (map template_of l)) (sym c.in-None.ensures.steps.0) ∙ c.loop-body.invariant ∙ test_of_bodies p c.args.self.now.types
