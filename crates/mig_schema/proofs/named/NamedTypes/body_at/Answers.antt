use Rattle.std.proofs.Common.{length, sym, ap, option_map, ◌∙◌, arith}
use Rattle.std.specs.List.{slice_get}
use Rattle.std.specs.Map.{values_of}
use Rattle.std.proofs.lemmas.List.{length-map}
use Rattle.mig_template.specs.View.{template_of}
use Rattle.mig_schema.specs.Types.{named_of}
use Rattle.mig_schema.proofs.Types.{body_at_is}
use Rattle.mig_schema.proofs.named.NamedTypes.body_at.Goals as goal

pub index-requires : goal.index-requires
index-requires c = omega (arith, ap length c.self.view_is, length-map c.self.inside.map.entries named_of)

pub returns : goal.returns
returns c = ap (λ ts. slice_get (values_of ts) c.args.place) (sym c.self.view_is) ∙ body_at_is c.self.inside.map.entries c.args.place ∙ ap (option_map template_of) c.index.ensures
