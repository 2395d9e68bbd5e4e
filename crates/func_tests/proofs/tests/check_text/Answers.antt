use Rattle.std.proofs.Common.{◌≡◌, ◌∙◌, ap, subst}
use Rattle.std.specs.Prelude.{IfOk}
use Rattle.mig_model.specs.declared.form.Form.TheVariants as F
use Rattle.mig_model.specs.Inhabits.{is_in_form}
use Rattle.mig_json.specs.Kinds.{IsJson}
use Rattle.mig_tree.specs.View.{plain_of}
use Rattle.mig_lift.proofs.InForm.{in_form}
use Rattle.func_tests.proofs.tests.check_text.Goals as goal

-- the family is of JSON, and the tree that of a JSON text
pub outcome-found-requires-clause-form : goal.outcome-found-requires-clause-form
outcome-found-requires-clause-form g c =
    let tree = plain_of c.expect-tree.result in
    let json : IsJson tree = subst (λ r. IfOk r (λ t. IsJson (plain_of t))) c.expect-tree.ensures c.tree.ensures.json in
    ap (λ form. is_in_form form tree) c.check_family.ensures.form ∙ in_form F.Json tree json
