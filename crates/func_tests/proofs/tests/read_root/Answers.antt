use Rattle.std.proofs.Common.{◌≡◌, ◌∙◌, ap, subst}
use Rattle.std.specs.Prelude.{IfOk}
use Rattle.mig_model.specs.Family.{body}
use Rattle.mig_model.specs.Record.{record_of}
use Rattle.mig_value.specs.Fit.{FitAsRead}
use Rattle.mig_value.specs.View.{typed_of}
use Rattle.func_tests.proofs.Shapes.{read_shape}
use Rattle.func_tests.proofs.tests.read_root.Goals as goal

-- what was read has the shape of the root's record
pub returns : goal.returns
returns g c =
    let f = c.args.family.now in
    let n = c.root.result.now in
    let at : body f n ≡ record_of c.root_record-record.result.now = ap (body f) c.root.ensures ∙ c.root_record-record.ensures in
    let fits = subst (λ r. IfOk r (λ v. FitAsRead f.form (body f) n (typed_of v))) c.expect-value.ensures c.read.ensures.fits in
    read_shape f n (record_of c.root_record-record.result.now) (typed_of c.expect-value.result) at fits
