-- Laws about values of named types.
use Rattle.std.specs.Prelude.{◌↔◌, ℕ, List}
use Rattle.mig_model.specs.declared.form.Form.{Form}
use Rattle.mig_model.specs.Template.{Template}
use Rattle.mig_value.specs.Typed.{Typed}
use Rattle.mig_value.specs.Fit.{ValueFits, Fit, FitAsRead, IsOfForm}

-- a value is one of a named type where it is one of its body, and the bodies of its nodes are ones of theirs
abbrev pub FitUnfolds : Type 0
FitUnfolds = (form : Form) (body : List ℕ → Template) (n : List ℕ) (v : Typed) → Fit form body n v ↔ ValueFits (IsOfForm form) (Fit form body) (body n) v

-- what reading gives is a value of the type
abbrev pub ReadFits : Type 0
ReadFits = (form : Form) (body : List ℕ → Template) (n : List ℕ) (v : Typed) → FitAsRead form body n v → Fit form body n v
