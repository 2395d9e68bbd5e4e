use Rattle.std.proofs.Common.{◌≡◌, ◌<◌, ◌∙◌, ◌++◌, ◌∷◌, [], ℕ, List, take, length, map, get_or, sym, subst, ap, arith}
use Rattle.std.proofs.Math.ListN.{set}
use Rattle.std.proofs.lemmas.List.{length-map, take_more, take_all, map-set, get_or-map}
use Rattle.std.proofs.lemmas.List.Elements.{Contains-get_or}
use Rattle.mig_schema.specs.Reach.{lists_of, IsAddedToEach}
use Rattle.mig_schema.proofs.Users.{none_added, one_added}
use Rattle.mig_schema.proofs.reach.add_to_each.Goals as goal

pub loop-list-init : goal.loop-list-init
loop-list-init c = none_added c.args.place (lists_of c.args.users.now)

pub index_mut-requires : goal.index_mut-requires
index_mut-requires c =
    let lists = c.args.lists.now in
    let i = c.loop-list.list-index in
    let below : get_or lists i 0 < length c.args.users.now.items = c.requires (get_or lists i 0) (Contains-get_or lists i 0 c.loop-list-test.true) in
    omega (arith, below, c.loop-list.invariant.as_many, length-map c.args.users.now.items (λ l. l.items), length-map c.loop-list.users.items (λ l. l.items), c.loop-list.users.ok.0)

pub loop-list-preserved : goal.loop-list-preserved
loop-list-preserved c =
    let lists = c.args.lists.now in
    let i = c.loop-list.list-index in
    let list = get_or lists i 0 in
    let users = c.loop-list.users.items in
    let now = lists_of c.loop-list.users in
    let below : list < length c.args.users.now.items = c.requires list (Contains-get_or lists i 0 c.loop-list-test.true) in
    let there : list < length now = omega (arith, below, c.loop-list.invariant.as_many, length-map c.args.users.now.items (λ l. l.items)) in
    let within : list < length users = omega (arith, there, length-map users (λ l. l.items)) in
    let at : get_or now list [] ≡ c.index_mut.result.now.items = get_or-map (λ l. l.items) users list c.index_mut.result.now [] within ∙ ap (λ l. l.items) (sym c.index_mut.ensures.value) in
    let put : map (λ l. l.items) (set users list c.push.new.self) ≡ set now list (get_or now list [] ++ c.args.place ∷ [])
    = map-set (λ l. l.items) users list c.push.new.self ∙ ap (set now list) (c.in_ok-push.ensures.items ∙ ap (λ (l : List ℕ). l ++ c.args.place ∷ []) (sym at)) in
    subst (λ (l : List ℕ). IsAddedToEach l c.args.place (lists_of c.args.users.now) (map (λ l. l.items) (set users list c.push.new.self))) (sym (take_more lists i 0 c.loop-list-test.true))
    (one_added (take i lists) list c.args.place (lists_of c.args.users.now) now c.loop-list.invariant there (map (λ l. l.items) (set users list c.push.new.self)) put)

pub returns : goal.returns
returns c =
    let lists = c.args.lists.now in
    subst (λ (l : List ℕ). IsAddedToEach l c.args.place (lists_of c.args.users.now) (lists_of c.loop-list.users)) (take_all c.loop-list.list-index lists c.loop-list-test.false) c.loop-list.invariant
