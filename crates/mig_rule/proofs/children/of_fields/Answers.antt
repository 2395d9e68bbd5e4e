use Rattle.std.proofs.Common.{◌≡◌, ◌∙◌, ◌+◌, refl, sym, ap, subst, [], ◌∷◌, ◌++◌, map, length, take, arith}
use Rattle.std.specs.Prelude.{IfOk, option_map}
use Rattle.std.proofs.lemmas.List.{map-append, take_all, length-append, length-map}
use Rattle.mig_model.specs.Template.{fields_of}
use Rattle.mig_template.specs.View.{template_of, field_of}
use Rattle.mig_template.proofs.Alike.{one_more}
use Rattle.mig_rule.specs.Children.{Child, field_children}
use Rattle.mig_rule.specs.Target.{changed}
use Rattle.mig_rule.specs.Step.{outcome_of, met_all, met_one, new_templates}
use Rattle.mig_rule.proofs.ChildLists.{child_at, children_are, met_more}
use Rattle.mig_rule.proofs.children.of_fields.Goals as goal

pub loop-field-init : goal.loop-field-init
loop-field-init g c = (ap length c.new-list.ensures.items, λ o h. (ap (map (option_map template_of)) c.new-list.ensures.items, refl))

pub loop-field-preserved : goal.loop-field-preserved
loop-field-preserved g c = (
  omega (arith, ap length c.in_ok-push.ensures.items, c.loop-field.invariant.0, length-append c.loop-field.list.items (c.noted.result ∷ [])),
  λ o h.
      let xs = c.as_slice-field-items.result.now in
      let i = c.loop-field.field-index in
      let item = c.field-item.result in
      let so_far = map child_at (take i xs) in
      let answer : IfOk c.step.result (λ x. outcome_of x ≡ o (child_at item)) = h _ c.step.result c.step.ensures in
      let same : outcome_of c.in_ok-outcome.outcome ≡ o (child_at item) = subst (λ r. IfOk r (λ x. outcome_of x ≡ o (child_at item))) c.in_ok-outcome.was answer in
      let children : map child_at (take (i + 1) xs) ≡ so_far ++ child_at item ∷ [] = one_more child_at xs i item (omega arith) c.field-item.is in (
        ap (map (option_map template_of)) c.in_ok-push.ensures.items
            ∙ map-append (option_map template_of) c.loop-field.list.items (c.noted.result ∷ [])
            ∙ (λ j. (c.loop-field.invariant.1 o h).0 j ++ (c.noted.ensures.template ∙ ap changed same) j ∷ [])
            ∙ sym (map-append (λ (k : Child). changed (o k)) so_far (child_at item ∷ []))
            ∙ ap (new_templates o) (sym children),
        c.noted.ensures.met
            ∙ (λ j. met_one (same j) ((c.loop-field.invariant.1 o h).1 j))
            ∙ sym (met_more o so_far (child_at item) c.args.met.now)
            ∙ ap (λ ks. met_all o ks c.args.met.now) (sym children),
      ),
)

pub returns-clause-length : goal.returns-clause-length
returns-clause-length g c =
    let xs = c.as_slice-field-items.result.now in
    omega (arith, length-map c.loop-field.list.items (option_map template_of), c.loop-field.invariant.0, c.loop-field-test.false, c.loop-field.auto.field-index-end, length-map xs field_of, ap length c.as_slice-field-items.ensures.fields)

pub returns-clause-list : goal.returns-clause-list
returns-clause-list g c = λ o h.
    let xs = c.as_slice-field-items.result.now in
    (c.loop-field.invariant.1 o h).0 ∙ ap (λ l. new_templates o (map child_at l)) (take_all c.loop-field.field-index xs c.loop-field-test.false)
    ∙ ap (new_templates o) (sym (children_are xs) ∙ ap (λ fs. field_children (fields_of fs)) c.as_slice-field-items.ensures.fields)

pub returns-clause-met : goal.returns-clause-met
returns-clause-met g c = λ o h.
    let xs = c.as_slice-field-items.result.now in
    (c.loop-field.invariant.1 o h).1 ∙ ap (λ l. met_all o (map child_at l) c.args.met.now) (take_all c.loop-field.field-index xs c.loop-field-test.false)
    ∙ ap (λ ks. met_all o ks c.args.met.now) (sym (children_are xs) ∙ ap (λ fs. field_children (fields_of fs)) c.as_slice-field-items.ensures.fields)
