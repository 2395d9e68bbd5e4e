use Rattle.std.proofs.Common.{◌∙◌, arith}
use Rattle.mig_template.specs.View.{case_of}
use Rattle.mig_func.proofs.Offers.{all_but}
use Rattle.mig_func.proofs.records.cases_but.Goals as goal

pub returns : goal.returns
returns c =
    let items = c.cases-case-items in
    c.loop-case.invariant ∙ all_but case_of c.args.literal.now items.result.now c.loop-case.case-index c.args.choice.now.1 (omega arith) items.ensures c.requires
