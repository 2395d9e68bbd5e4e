use Rattle.std.proofs.Common.{sym, subst}
use Rattle.mig_model.specs.TemplateKept.{TemplateKept}
use Rattle.mig_template.specs.View.{template_of}
use Rattle.mig_template.specs.declared.template.Template.{Template}
use Rattle.mig_template.proofs.Views.{record_kept}
use Rattle.mig_template.proofs.template.Template.keeps.Goals as goal

pub returns-in-Rec : goal.returns-in-Rec
returns-in-Rec c = subst (λ (t : Template). TemplateKept (template_of t)) (sym c.in-Rec.is) (record_kept c.in-Rec.record c.keeps.ensures)
