use Rattle.std.proofs.Common.{◌≡◌, true, sym, subst}
use Rattle.mig_model.specs.declared.form.Form.{Form}
use Rattle.mig_model.specs.declared.form.Form.TheVariants as F
use Rattle.mig_model.specs.Inhabits.{is_in_form}
use Rattle.mig_model.specs.Plain.{Plain}
use Rattle.mig_tree.specs.View.{plain_of}
use Rattle.mig_lift.proofs.InForm.{in_form}
use Rattle.typed_times.specs.Parts.{IsSave}
use Rattle.typed_times.proofs.typed.Goals as goal

pub read-requires-clause-form : goal.read-requires-clause-form
read-requires-clause-form c =
    let t = plain_of c.in_ok-name.tree in
    subst (λ (f : Form). is_in_form f t ≡ true) (sym (c.is_nbt.ensures c.if-not-is_nbt.false)) (in_form F.Nbt t c.in_ok-name.ensures.spelled)

pub returns-in-Ok : goal.returns-in-Ok
returns-in-Ok c = subst (λ (t : Plain). IsSave c.args.bytes.now c.in_ok-name.name t) (sym c.in-Ok.ensures.tree) c.in_ok-name.ensures
