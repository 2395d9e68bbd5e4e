-- Trees that can be written in a form.
use Rattle.mig_model.specs.declared.form.Form.{Form}
use Rattle.mig_model.specs.declared.form.Form.TheVariants as F
use Rattle.mig_model.specs.Plain.{Plain}
use Rattle.mig_json.specs.Kinds.{IsJson}
use Rattle.mig_nbt.specs.Writing.{IsSpelled}

abbrev pub IsWritable : Form → Plain → Type 0
IsWritable F.Nbt t = IsSpelled t
IsWritable F.Json t = IsJson t
