use Rattle.std.proofs.Common.{arith, ap}
use Rattle.mig_value.specs.Places.{place_in}
use Rattle.mig_slots.proofs.Filtered.{place_is}
use Rattle.mig_slots.proofs.nesting.is_other.Goals as goal

pub returns : goal.returns
returns c =
    let fs = c.args.fields.now in
    grind (arith, c.is_none.ensures, c.place.ensures, ap (λ n. place_in n fs) c.bytes.ensures, place_is c.args.slot.now.name fs)
