use Rattle.std.proofs.Common.{◌≡◌, map, length}
use Rattle.mig_model.specs.Template.{cases_of}
use Rattle.mig_model.specs.TemplateKept.{CasesKept}
use Rattle.mig_template.specs.Retyped.{cases_with}
use Rattle.mig_template.specs.View.{case_of, given_templates}
use Rattle.mig_template.proofs.record.Choice.with_templates.Given as goal

abbrev pub invariant-loop-list : goal.invariant-loop-list
invariant-loop-list l = (length l.cases.items ≡ length l.yielded) × (map case_of l.cases.items ≡ cases_with (map given_templates l.yielded) (map case_of l.given)) × CasesKept (cases_of (map case_of l.cases.items))
