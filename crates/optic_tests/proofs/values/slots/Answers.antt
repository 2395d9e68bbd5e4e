use Rattle.std.proofs.Common.{◌≡◌, ◌∷◌, [], rules}
use Rattle.optic_tests.proofs.Samples.{one_name}
use Rattle.optic_tests.proofs.values.slots.Goals as goal

pub new-requires : goal.new-requires
new-requires g c =
    let made : c.expect-list.result.items ≡ c.slot.result ∷ [] = search rules in
    one_name c.expect-list.result.items c.slot.result made
