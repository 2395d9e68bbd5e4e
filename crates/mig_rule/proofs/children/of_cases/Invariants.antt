use Rattle.std.proofs.Common.{◌≡◌, map, take}
use Rattle.mig_model.specs.Template.{cases_of}
use Rattle.mig_template.specs.Retyped.{HavePlaces}
use Rattle.mig_template.specs.View.{case_of, given_templates}
use Rattle.mig_rule.specs.Children as model
use Rattle.mig_rule.specs.Children.{case_children}
use Rattle.mig_rule.specs.Target as target
use Rattle.mig_rule.specs.Step.{Answers, met_all, case_templates}
use Rattle.mig_rule.proofs.children.of_cases.Given as goal

abbrev pub invariant-loop-case : goal.invariant-loop-case
invariant-loop-case g l =
    HavePlaces (map given_templates l.list.items) (map case_of (take l.case-index l.cases))
    × ((o : model.Child → target.Outcome) → Answers (goal.F-post g l.step) o
    → (map given_templates l.list.items ≡ case_templates o (map case_of (take l.case-index l.cases)))
    × (l.met ≡ met_all o (case_children (cases_of (map case_of (take l.case-index l.cases)))) l.fn.met))
