use Rattle.std.proofs.Common.{◌≡◌, ◌∙◌, [], ◌∷◌, length, map, sym, subst, ap, arith}
use Rattle.std.proofs.lemmas.List.{map-append}
use Rattle.mig_schema.specs.Reach.{lists_of, AreEmpty}
use Rattle.mig_schema.proofs.Users.{nothing_empty, one_more_empty}
use Rattle.mig_schema.proofs.reach.empty_lists.Goals as goal

pub loop-list-init : goal.loop-list-init
loop-list-init c = nothing_empty (lists_of c.in_ok-lists.lists) (ap (λ is. map (λ l. l.items) is) c.in_ok-lists.ensures.items)

pub loop-list-preserved : goal.loop-list-preserved
loop-list-preserved c =
    one_more_empty c.loop-list._list (lists_of c.loop-list.lists) (lists_of c.push.new.self) c.new.result.items
    (ap (λ is. map (λ l. l.items) is) c.in_ok-push.ensures.items ∙ map-append (λ l. l.items) c.loop-list.lists.items (c.new.result ∷ [])) c.new.ensures.items c.loop-list.invariant

pub returns : goal.returns
returns c = let all : c.loop-list._list ≡ c.args.count = omega arith in subst (λ n. AreEmpty n (lists_of c.loop-list.lists)) all c.loop-list.invariant
