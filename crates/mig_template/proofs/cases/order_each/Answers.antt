use Rattle.std.proofs.Common.{rules, ◌≡◌, ◌∙◌, ◌∷◌, ◌++◌, [], List, map, length, subst, sym, ap}
use Rattle.std.proofs.lemmas.List.{map-append}
use Rattle.std.specs.List.{list_any}
use Rattle.std.specs.Map.{keys_of}
use Rattle.std.proofs.lemmas.Iterator.Adapters.{YieldsList-from_vec}
use Rattle.std.proofs.lemmas.Iterator.Consumers.{YieldsList-turn}
use Rattle.mig_model.specs.Record.{Case, FieldsOrdered, has_twice_in}
use Rattle.mig_template.specs.View.{field_of, case_of, given_case}
use Rattle.mig_template.proofs.Alike.{any_at}
use Rattle.mig_template.proofs.CaseLists.{ordered_more, none_more}
use Rattle.mig_template.proofs.cases.order_each.Goals as goal

pub loop-literal-preserved : goal.loop-literal-preserved
loop-literal-preserved c =
    let others = c.args.tag.now ∷ keys_of c.args.common.now in
    let g : Case = (c.in-Some.literal, map field_of c.in-Some.fields.items) in
    let d : Case = case_of c.in-Some-order_case.case in
    let gs : List Case = map given_case c.loop-literal.yielded in
    let ds : List Case = map case_of c.loop-literal.cases.items in
    let more : map given_case (c.loop-literal.yielded ++ (c.in-Some.literal, c.in-Some.fields) ∷ []) ≡ gs ++ g ∷ [] = map-append given_case c.loop-literal.yielded ((c.in-Some.literal, c.in-Some.fields) ∷ []) in
    let made : map case_of c.push.new.self.items ≡ ds ++ d ∷ [] =
    ap (map case_of) c.in_ok-push-in-Some-order_case.ensures.items ∙ map-append case_of c.loop-literal.cases.items (c.in-Some-order_case.case ∷ []) in (
      subst (λ (l : List Case). FieldsOrdered l (map case_of c.push.new.self.items)) (sym more)
          (subst (λ (l : List Case). FieldsOrdered (gs ++ g ∷ []) l) (sym made) (ordered_more gs ds g d c.loop-literal.invariant.0 c.in-Some-order_case.ensures.literal c.in-Some-order_case.ensures.fields)),
      ap (list_any (has_twice_in others)) more ∙ none_more (has_twice_in others) gs g c.loop-literal.invariant.1 c.in-Some-order_case.ensures.once,
    )

pub returns-in-None-order_case-clause-twice : goal.returns-in-None-order_case-clause-twice
returns-in-None-order_case-clause-twice c =
    let others = c.args.tag.now ∷ keys_of c.args.common.now in
    let gives = c.into_iter-literal-iterator.ensures.into_iter_gives in
    let turn = YieldsList-turn (YieldsList-from_vec {s = c.into_iter-literal-iterator.result} c.args.given.items gives.0 (search rules)) c.loop-literal.yielded c.loop-literal.literal-iterator c.loop-literal.yielded_by c.next.result c.next.new.self (c.in-Some.literal, c.in-Some.fields) c.in-Some.is c.next.ensures.steps in
    any_at given_case (has_twice_in others) c.args.given.items (length c.loop-literal.yielded) (c.in-Some.literal, c.in-Some.fields) turn.0 turn.1 c.in-None-order_case.ensures.twice
