use Rattle.std.proofs.Common.{◌≡◌, ◌∙◌, Some, sym, ap}
use Rattle.std.specs.Prelude.{option_map, unwrap_or}
use Rattle.mig_model.specs.Template.{any}
use Rattle.mig_model.specs.Family.{find_type}
use Rattle.mig_template.specs.View.{template_of}
use Rattle.func_tests.proofs.tests.root_record.Goals as goal

-- the body that was found is the root's
pub returns-in-Some-Rec : goal.returns-in-Some-Rec
returns-in-Some-Rec g c =
    ap (λ o. unwrap_or o any)
    (ap (λ n. find_type n c.args.family.now.types) (sym c.root.ensures)
    ∙ (sym c.body.ensures ∙ (ap (option_map (λ t. template_of t.now)) c.in-Some-Rec.is ∙ ap (λ t. Some (template_of t)) c.in-Some-Rec.field-0-is)))
