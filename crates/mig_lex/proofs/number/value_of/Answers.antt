use Rattle.std.proofs.Common.{arith}
use Rattle.mig_lex.proofs.Decimals.{value_step, small_step}
use Rattle.mig_lex.proofs.number.value_of.Goals as goal

pub loop-digit-preserved : goal.loop-digit-preserved
loop-digit-preserved c =
    let digit = c.requires.digits c.loop-digit.digit-index c.loop-digit-test.true in
    record {
      value = value_step c.args.digits.now c.loop-digit.digit-index c.loop-digit.value c.from.result c.loop-digit-test.true digit c.loop-digit.invariant.value c.from.ensures;
      small = small_step c.loop-digit.value c.from.result c.loop-digit.digit-index c.loop-digit.invariant.small (omega (arith, digit, c.from.ensures));
    }
