use Rattle.std.proofs.Common.{◌≡◌, ◌+◌, ◌-◌, ◌<◌, ◌++◌, ◌∷◌, [], ℕ, suc, List, subst, sym, rules, arith}
use Rattle.mig_value.specs.declared.value.Value.{Value}
use Rattle.mig_typed_optic.proofs.Thens.{Front, front_step}
use Rattle.mig_typed_optic.proofs.lists.take_front.Goals as goal

pub loop-preserved : goal.loop-preserved
loop-preserved c =
    let pushed : c.push.new.self.items ≡ c.loop.list.items ++ c.in-Some.value ∷ [] = search rules in
    let last : c.loop.reversed.items ≡ c.pop.new.self.items ++ c.in-Some.value ∷ [] = search rules in
    let lt : c.loop.counter < c.args.count = search rules in
    let e : c.args.count - c.loop.counter ≡ suc (c.args.count - (c.loop.counter + 1)) = omega (arith, lt) in
    subst (λ (l : List Value). Front l c.pop.new.self.items (c.args.count - (c.loop.counter + 1)) c.args.count c.args.reversed.now.items) (sym pushed)
    (front_step c.loop.list.items c.loop.reversed.items c.pop.new.self.items c.in-Some.value (c.args.count - (c.loop.counter + 1)) c.args.count c.args.reversed.now.items
    (subst (λ (k : ℕ). Front c.loop.list.items c.loop.reversed.items k c.args.count c.args.reversed.now.items) e c.loop.invariant) last)
