use Rattle.std.proofs.Common.{◌≡◌, ◌<◌, ◌∙◌, [], nat_eq, length, subst, ap, arith}
use Rattle.std.proofs.lemmas.List.{length-map}
use Rattle.indexmap.specs.IndexSet.{insert_all}
use Rattle.mig_template.specs.View.{template_of}
use Rattle.mig_schema.specs.Reach.{points, places, lists_of, AreUsers}
use Rattle.mig_schema.proofs.Reached.{place_below}
use Rattle.mig_schema.proofs.Users.{no_users, used_here, users_more}
use Rattle.mig_schema.proofs.named.NamedTypes.users.Goals as goal

pub loop-place-init : goal.loop-place-init
loop-place-init c = no_users c.args.self.now (lists_of c.in_ok-users.users) (c.in_ok-users.ensures.0 ∙ c.len.ensures.len, c.in_ok-users.ensures.1)

pub add_to_each-requires : goal.add_to_each-requires
add_to_each-requires c q h =
    let ts = c.args.self.now in
    let V = template_of c.body_at.result.now in
    let used = c.as_slice.ensures.keys ∙ c.in_ok-add_places.ensures ∙ ap (λ ks. insert_all nat_eq ks (places ts (points V))) c.new-used.ensures.empty in
    let below : q < length ts = place_below ts (points V) q ((used_here ts c.loop-place.place V c.body_at.ensures c.as_slice.result.now used q).0 h) in
    omega (arith, below, c.loop-place.invariant.as_many, length-map c.loop-place.users.items (λ l. l.items))

pub loop-place-preserved : goal.loop-place-preserved
loop-place-preserved c =
    let ts = c.args.self.now in
    let V = template_of c.body_at.result.now in
    let used = c.as_slice.ensures.keys ∙ c.in_ok-add_places.ensures ∙ ap (λ ks. insert_all nat_eq ks (places ts (points V))) c.new-used.ensures.empty in
    users_more ts c.loop-place.place V c.body_at.ensures c.as_slice.result.now used (lists_of c.loop-place.users) (lists_of c.add_to_each.new.users) c.loop-place.invariant c.in_ok-add_to_each.ensures

pub returns : goal.returns
returns c =
    let all : c.loop-place.place ≡ length c.args.self.now = omega (arith, c.len-place-end.ensures.len, c.loop-place-test.false, c.loop-place.auto.place-end) in
    subst (λ n. AreUsers c.args.self.now n (lists_of c.loop-place.users)) all c.loop-place.invariant
