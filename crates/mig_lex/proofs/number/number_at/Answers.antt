use Rattle.std.proofs.Common.{◌≡◌, pos, to_z, arith}
use Rattle.std.specs.Int.{w128}
use Rattle.std.proofs.lemmas.Int.{ints}
use Rattle.std.proofs.lemmas.List.{take_rest}
use Rattle.mig_lex.proofs.Numbers.{zero_at, negative_at, no_number_at, positive_read}
use Rattle.mig_lex.proofs.number.number_at.Goals as goal

pub returns-in-48 : goal.returns-in-48
returns-in-48 c = zero_at c.args.bytes.now _ c.in-48.len_at_least (take_rest c.args.bytes.now 1) (omega arith)

pub returns-then-not-begins_decimal : goal.returns-then-not-begins_decimal
returns-then-not-begins_decimal c =
    no_number_at c.args.bytes.now _ c.in-45.len_at_least (take_rest c.args.bytes.now 1) (omega arith) (λ d. let t = c.begins_decimal.ensures.1 d in let f = c.if-not-begins_decimal.true in absurd cc)

pub returns-else-not-begins_decimal : goal.returns-else-not-begins_decimal
returns-else-not-begins_decimal c =
    let small = c.decimal_at-number.ensures.small in
    negative_at c.args.bytes.now _ c.in-45.len_at_least (take_rest c.args.bytes.now 1) (omega arith) c.decimal_at-number.result.0 c.decimal_at-number.result.1.now _ (c.begins_decimal.ensures.0 c.if-not-begins_decimal.false) c.decimal_at-number.ensures (omega (arith, ints))

pub returns-in_default : goal.returns-in_default
returns-in_default c =
    let small = c.decimal_at-number-in_default.ensures.small in
    let is : to_z w128 c.decimal_at-number-in_default.result.0 ≡ pos c.decimal_at-number-in_default.result.0 = omega (arith, ints) in
    rw is (positive_read c.args.bytes.now c.decimal_at-number-in_default.result.1.now c.decimal_at-number-in_default.result.0 c.decimal_at-number-in_default.ensures)
