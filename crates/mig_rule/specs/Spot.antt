-- Where a path stands, as it lies in memory.
use Rattle.std.specs.Prelude.{ℕ, List, true, false}
use Rattle.mig_model.specs.Template as template
use Rattle.mig_model.specs.Template.{Field, fields_of}
use Rattle.mig_model.specs.Record.{RecordParts}
use Rattle.mig_template.specs.View.{template_of}
use Rattle.mig_rule.specs.Path as model
use Rattle.mig_rule.specs.declared.path.Spot.{Spot}
use Rattle.mig_rule.specs.declared.path.Spot.TheVariants as S

-- the record with one case alone
abbrev pub alone : RecordParts → List ℕ → List ℕ → List Field → model.Spot
alone p tag l fs = record { template = template.rec (fields_of p.fields) (template.choice tag (template.case l (fields_of fs) template.no_case) false) p.rest; chosen = true }

abbrev pub spot_of : Spot → model.Spot
spot_of (S.Whole t) = model.whole (template_of t.now)
spot_of (S.Case c) = alone c.on.now c.tag.now c.literal.now c.fields.now
