use Rattle.mig_lex.proofs.Numbers.{decimal_read}
use Rattle.mig_lex.proofs.number.decimal_at.Goals as goal

pub returns : goal.returns
returns c =
    decimal_read c.args.bytes.now c.split_at.result.0.now c.split_at.result.1.now c.digits_len.result c.value_of.result c.digits_len.ensures c.requires c.split_at.ensures.front c.split_at.ensures.back
    c.value_of.ensures.value c.value_of.ensures.small
