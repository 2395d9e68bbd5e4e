use Rattle.std.proofs.Common.{rules, ◌≡◌, ◌∙◌, ℕ, List, length, take, true, false, nat_eq, sym, ap}
use Rattle.std.specs.Cmp.Lexicographic.{pointwise}
use Rattle.std.specs.Map.{keys_of, lookup}
use Rattle.std.proofs.lemmas.List.{map-id}
use Rattle.std.proofs.lemmas.Iterator.Adapters.{YieldsList-from_vec}
use Rattle.std.proofs.lemmas.Iterator.Consumers.{YieldsList-turn, YieldsList-so_far, YieldsList-end}
use Rattle.mig_model.specs.Names.{has_twice}
use Rattle.mig_template.specs.declared.template.Template.{Template}
use Rattle.mig_schema.specs.Types.{named_all}
use Rattle.mig_schema.proofs.Types.{once_if_unique, twice_at}
use Rattle.mig_schema.proofs.named.NamedTypes.new.Goals as goal

pub returns-then-not-branch-clause-only : goal.returns-then-not-branch-clause-only
returns-then-not-branch-clause-only c =
    let all = c.args.list.items in
    let s = c.into_iter-name-iterator.result in
    let gives = c.into_iter-name-iterator.ensures.into_iter_gives in
    let chain = YieldsList-from_vec {s = s} all gives.0 (search rules) in
    let turn = YieldsList-turn chain c.loop-name.yielded c.loop-name.name-iterator c.loop-name.yielded_by c.next.result c.next.new.self (c.in-Some.name, c.in-Some.template) c.in-Some.is c.next.ensures.steps in
    let before : c.loop-name.yielded ≡ take (length c.loop-name.yielded) all = sym (map-id c.loop-name.yielded) ∙ YieldsList-so_far chain c.loop-name.yielded c.loop-name.name-iterator c.loop-name.yielded_by in
    twice_at all c.loop-name.yielded (length c.loop-name.yielded) (c.in-Some.name, c.in-Some.template) turn.0 turn.1 before
    (λ none.
    let new : c.in_ok-add.field-0 ≡ true = c.in_ok-add.ensures.new.1 (ap (lookup (pointwise nat_eq c.in-Some.name)) c.loop-name.invariant.0 ∙ none) in
    let old : c.in_ok-add.field-0 ≡ false = search rules in
    absurd cc)

pub returns-clause-once : goal.returns-clause-once
returns-clause-once c =
    let all = c.args.list.items in
    let s = c.into_iter-name-iterator.result in
    let gives = c.into_iter-name-iterator.ensures.into_iter_gives in
    let end = YieldsList-end (YieldsList-from_vec {s = s} all gives.0 (search rules)) c.loop-name.yielded c.loop-name.name-iterator c.loop-name.yielded_by c.next.result c.next.new.self c.in-None.is c.next.ensures.steps in
    let filled : c.loop-name.map.entries ≡ all = c.loop-name.invariant.0 ∙ sym (map-id c.loop-name.yielded) ∙ end.0 in
    ap (λ (ts : List (List ℕ × Template)). has_twice (keys_of (named_all ts))) (sym filled) ∙ once_if_unique c.loop-name.map.entries c.loop-name.invariant.1.0
