use Rattle.mig_template.specs.View.{template_of}
use Rattle.mig_field.proofs.Same.{told}
use Rattle.mig_func.proofs.fill.is_same.Goals as goal

pub returns : goal.returns
returns c = told c.same.result (template_of c.args.one.now) (template_of c.args.other.now) c.same.ensures
