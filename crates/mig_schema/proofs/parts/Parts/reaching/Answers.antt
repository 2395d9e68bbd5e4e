use Rattle.std.proofs.Common.{◌≡◌, ◌∙◌, ◌<◌, ◌≤◌, [], ℕ, List, nat_eq, length, get_or, sym, ap, subst, arith}
use Rattle.std.proofs.lemmas.List.{length-map, get_or-map}
use Rattle.std.proofs.lemmas.List.Elements.{Contains-get_or}
use Rattle.indexmap.specs.IndexSet.{insert_all}
use Rattle.mig_schema.specs.Reach.{places, lists_of, Uses, AreUsers}
use Rattle.mig_schema.specs.Types.{Named}
use Rattle.mig_schema.proofs.Reached.{are_reaching, place_below, user_below, users_at}
use Rattle.mig_schema.proofs.Searched.{searched_start, searched_more, found_below, found_at_most}
use Rattle.mig_schema.proofs.parts.Parts.reaching.Goals as goal

pub loop-at-init : goal.loop-at-init
loop-at-init c =
    let ts = c.args.self.now.types in
    let ns = c.args.names.now in
    searched_start (λ q p. Uses ts p q) (places ts ns) c.add_places_of.new.found.keys
    (c.in_ok-add_places_of.ensures ∙ (λ i. insert_all nat_eq (c.new-found.ensures.empty i) (places (c.types-types.ensures i) ns)))

pub loop-at-smaller : goal.loop-at-smaller
loop-at-smaller c =
    let ts = c.args.self.now.types in
    let fewer = found_at_most (λ q p. Uses ts p q) (places ts c.args.names.now) c.loop-at.found.keys c.loop-at.at c.loop-at.invariant (length ts) (place_below ts c.args.names.now) (λ p q. user_below ts q p) c.len.ensures.unique in
    omega (arith, fewer, c.len.ensures.len, c.loop-at-test.true)

pub returns : goal.returns
returns c =
    let all : length c.loop-at.found.keys ≤ c.loop-at.at = omega (arith, c.len.ensures.len, c.loop-at-test.false) in
    are_reaching c.args.self.now c.keeps.ensures.once c.args.names.now c.loop-at.found.keys c.loop-at.at c.loop-at.invariant all

pub index-requires : goal.index-requires
index-requires c =
    let ts = c.args.self.now.types in
    let found = c.loop-at.found.keys in
    let at = c.loop-at.at in
    let inside : at < length found = omega (arith, c.len.ensures.len, c.loop-at-test.true) in
    let below : get_or found at 0 < length ts = found_below (λ q p. Uses ts p q) (places ts c.args.names.now) found at c.loop-at.invariant (length ts) (place_below ts c.args.names.now) (λ p q. user_below ts q p) (get_or found at 0) (Contains-get_or found at 0 inside) in
    let same : get_or c.as_slice.result.now at 0 ≡ get_or found at 0 = ap (λ (ks : List ℕ). get_or ks at 0) c.as_slice.ensures.keys in
    omega (arith, below, same, c.in_ok-users.ensures.as_many, ap length c.types-types.ensures, length-map c.in_ok-users.users.items (λ l. l.items), c.in_ok-users.users.ok.0)

pub loop-at-preserved : goal.loop-at-preserved
loop-at-preserved c =
    let ts = c.args.self.now.types in
    let found = c.loop-at.found.keys in
    let at = c.loop-at.at in
    let p = get_or found at 0 in
    let us = c.in_ok-users.users.items in
    let lists = lists_of c.in_ok-users.users in
    let inside : at < length found = omega (arith, c.len.ensures.len, c.loop-at-test.true) in
    let are : AreUsers ts (length ts) lists = subst (λ (ts : List Named). AreUsers ts (length ts) lists) c.types-types.ensures c.in_ok-users.ensures in
    let below : p < length ts = found_below (λ q p. Uses ts p q) (places ts c.args.names.now) found at c.loop-at.invariant (length ts) (place_below ts c.args.names.now) (λ p q. user_below ts q p) p (Contains-get_or found at 0 inside) in
    let within : p < length us = omega (arith, below, are.as_many, length-map us (λ l. l.items)) in
    let same : get_or c.as_slice.result.now at 0 ≡ p = ap (λ (ks : List ℕ). get_or ks at 0) c.as_slice.ensures.keys in
    let listed : get_or lists p [] ≡ c.index.result.now.items
    = get_or-map (λ l. l.items) us p c.index.result.now [] within ∙ ap (λ l. l.items) (ap (λ (k : ℕ). get_or us k c.index.result.now) (sym same) ∙ sym c.index.ensures) in
    searched_more (λ q p. Uses ts p q) (places ts c.args.names.now) found at c.loop-at.invariant (get_or lists p []) c.add_all.new.found.keys inside (λ q. users_at ts lists are p q)
    (c.in_ok-add_all.ensures ∙ ap (insert_all nat_eq found) (c.deref.ensures.value ∙ sym listed))
