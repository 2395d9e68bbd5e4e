use Rattle.std.proofs.Common.{◌≡◌, length, map, take}
use Rattle.mig_template.specs.View.{given_templates}
use Rattle.mig_rule.specs.Children as model
use Rattle.mig_rule.specs.Target as target
use Rattle.mig_rule.specs.Step.{Answers, met_all, new_templates}
use Rattle.mig_rule.proofs.ChildLists.{child_at}
use Rattle.mig_rule.proofs.children.of_fields.Given as goal

abbrev pub invariant-loop-field : goal.invariant-loop-field
invariant-loop-field g l =
    (length l.list.items ≡ l.field-index)
    × ((o : model.Child → target.Outcome) → Answers (goal.F-post g l.step) o
    → (given_templates l.list ≡ new_templates o (map child_at (take l.field-index l.field-items))) × (l.met ≡ met_all o (map child_at (take l.field-index l.field-items)) l.fn.met))
