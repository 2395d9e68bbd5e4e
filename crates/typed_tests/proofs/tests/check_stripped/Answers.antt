use Rattle.std.proofs.Common.{◌≡◌, ◌∙◌, subst, rules}
use Rattle.std.specs.Prelude.{IfOk}
use Rattle.mig_model.specs.declared.form.Form.TheVariants as F
use Rattle.mig_model.specs.Inhabits.{is_in_form}
use Rattle.mig_json.specs.Kinds.{IsJson}
use Rattle.mig_tree.specs.View.{plain_of}
use Rattle.mig_laws.proofs.Versions.{strip_of_form}
use Rattle.typed_tests.proofs.JsonForm.{json_form}
use Rattle.typed_tests.proofs.tests.check_stripped.Goals as goal

-- the family is of JSON, and a tree of JSON stays one without its version
pub wrong_place-found-requires-clause-form : goal.wrong_place-found-requires-clause-form
wrong_place-found-requires-clause-form g c =
    let tree = plain_of c.expect-tree.result in
    let json : IsJson tree = subst (λ r. IfOk r (λ t. IsJson (plain_of t))) c.expect-tree.ensures c.tree.ensures.json in
    (λ i. is_in_form (c.check_family.ensures.form i) (c.strip.ensures.rest i)) ∙ strip_of_form F.Json c.version_path.result.now tree (json_form tree json)
