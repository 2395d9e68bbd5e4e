use Rattle.std.proofs.Common.{◌≡◌, ◌∙◌, length, sym, ap, arith}
use Rattle.std.specs.Prelude.{option_map}
use Rattle.mig_rule.specs.Chain.{fixes, versions}
use Rattle.mig_lift.specs.View.{numbered_of}
use Rattle.mig_lift.proofs.Counted.{small_is, three_steps}
use Rattle.mig_lift.proofs.small.is_small.Goals as goal

pub returns : goal.returns
returns c =
    let chain = c.args.chain.now in
    let two : length (versions chain.steps) ≡ 2 = omega (arith, c.schemas.ensures, c.if-schemas-ne2.false) in
    let one : length (fixes chain.steps) ≡ 1 = omega (arith, c.fixes.ensures, c.if-fixes-ne1.false) in
    let three = three_steps chain.form chain.version chain.steps c.keeps.ensures.accepted two one in
    c.is_flat.ensures
    ∙ small_is chain.steps three c.in_ok-family.family c.in_ok-family.ensures (numbered_of c.in-Some._edits) (ap (λ o. option_map numbered_of o) (sym c.in-Some.is) ∙ c.small_fix.ensures)
