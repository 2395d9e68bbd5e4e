use Rattle.std.proofs.Common.{◌≡◌, sym, arith}
use Rattle.mig_model.specs.Record.{musts_in}
use Rattle.mig_row.specs.Row.{musts_among}
use Rattle.mig_row.proofs.Musts.{none_missing}
use Rattle.mig_row.proofs.row.first_missing.Goals as goal

pub returns-then-musts_among-musts : goal.returns-then-musts_among-musts
returns-then-musts_among-musts c =
    let all : musts_among c.args.fields.now c.args.entries.now ≡ musts_in c.args.fields.now = omega (arith, c.musts_among.ensures, c.musts.ensures, c.if-musts_among-musts.true) in
    sym (none_missing c.args.fields.now c.args.entries.now c.as_slice-pairs.ensures.keep.0 all)
