use Rattle.std.proofs.Common.{◌≡◌, length, arith}
use borrow.Author.Tests.{eqb-true}
use Rattle.mig_schema.proofs.Within.{same_if_within, within_if_same, as_many_if_same}
use Rattle.mig_schema.proofs.named.NamedTypes.same.Goals as goal

pub returns-then-len : goal.returns-then-len
returns-then-len c =
    let ts = c.args.self.now in
    let us = c.args.other.now in
    let as_many : length ts ≡ length us = omega (arith, c.len.ensures.len, c.len-2.ensures.len) in
    (λ h. same_if_within ts us as_many c.len.ensures.once (c.is_within.ensures.0 h), λ e. c.is_within.ensures.1 (within_if_same ts us e))

pub returns-else-len : goal.returns-else-len
returns-else-len c =
    let ts = c.args.self.now in
    let us = c.args.other.now in (
      λ h. absurd (c.if-len.false (eqb-true c.len.result c.len-2.result h)),
      λ e. absurd (c.if-len.false (omega (arith, as_many_if_same ts us c.len.ensures.once c.len-2.ensures.once e, c.len.ensures.len, c.len-2.ensures.len))),
    )
