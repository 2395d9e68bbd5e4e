use Rattle.std.proofs.Common.{sym, subst}
use Rattle.mig_value.specs.Kept.{ValueKept}
use Rattle.mig_value.specs.View.{typed_of}
use Rattle.mig_value.specs.declared.value.Value.{Value}
use Rattle.mig_value.proofs.Views.{record_kept}
use Rattle.mig_value.proofs.value.Value.keeps.Goals as goal

pub returns-in-Rec : goal.returns-in-Rec
returns-in-Rec c = subst (λ (v : Value). ValueKept (typed_of v)) (sym c.in-Rec.is) (record_kept c.in-Rec.record c.keeps-in-Rec.ensures)
