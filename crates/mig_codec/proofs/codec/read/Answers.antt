use Rattle.std.proofs.Common.{sym}
use Rattle.mig_template.specs.View.{template_of}
use Rattle.mig_tree.specs.View.{plain_of}
use Rattle.mig_value.specs.View.{typed_of}
use Rattle.mig_codec.specs.Reading.{wrong_part}
use Rattle.mig_codec.proofs.PartsOf.{body_part}
use Rattle.mig_codec.proofs.Whole.{body_fits, body_counted, body_inhabits, body_unfit}
use Rattle.mig_codec.proofs.codec.read.Goals as goal

pub read_part-requires-clause-part : goal.read_part-requires-clause-part
read_part-requires-clause-part c = (body_part c.args.family.now c.keeps.ensures.formed c.args.name.now (template_of c.in-Some.body.now) (sym c.in-Some.ensures)).0

pub returns-in-Ok-clause-fits : goal.returns-in-Ok-clause-fits
returns-in-Ok-clause-fits c =
    body_fits c.args.family.now c.keeps.ensures.formed c.args.name.now (template_of c.in-Some.body.now) (sym c.in-Some.ensures) (plain_of c.args.tree) (typed_of c.in-Ok.value) c.in-Ok.ensures

pub returns-in-Ok-clause-inhabits : goal.returns-in-Ok-clause-inhabits
returns-in-Ok-clause-inhabits c =
    body_inhabits c.args.family.now c.keeps.ensures.formed c.args.name.now (template_of c.in-Some.body.now) (sym c.in-Some.ensures) (plain_of c.args.tree) (typed_of c.in-Ok.value) c.in-Ok.ensures

pub returns-in-Ok-clause-nodes : goal.returns-in-Ok-clause-nodes
returns-in-Ok-clause-nodes c =
    body_counted c.args.family.now c.keeps.ensures.formed c.args.name.now (template_of c.in-Some.body.now) (sym c.in-Some.ensures) (plain_of c.args.tree) (typed_of c.in-Ok.value) c.in-Ok.ensures

pub returns-in-Err-clause-unfit : goal.returns-in-Err-clause-unfit
returns-in-Err-clause-unfit c =
    let f = c.args.family.now in
    let V = template_of c.in-Some.body.now in
    let t = plain_of c.args.tree in
    body_unfit f c.keeps.ensures.formed c.args.name.now V (sym c.in-Some.ensures) t c.fault_of.result (c.fault_of.ensures (wrong_part f V t) c.in-Err.ensures)
