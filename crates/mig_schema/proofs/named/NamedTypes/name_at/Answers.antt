use Rattle.std.proofs.Common.{ℕ, List, ap, option_map, ◌∙◌}
use Rattle.std.specs.List.{slice_get}
use Rattle.std.specs.Map.{keys_of}
use Rattle.mig_template.specs.declared.template.Template.{Template}
use Rattle.mig_schema.proofs.Types.{name_at_is}
use Rattle.mig_schema.proofs.named.NamedTypes.name_at.Goals as goal

pub returns-in-Some : goal.returns-in-Some
returns-in-Some c =
    ap (option_map (λ (t : List ℕ × Template). t.0)) c.in-Some.ensures.entry ∙ name_at_is c.self.inside.map.entries c.args.place ∙ ap (λ ts. slice_get (keys_of ts) c.args.place) c.self.view_is

pub returns-in-None : goal.returns-in-None
returns-in-None c =
    ap (option_map (λ (t : List ℕ × Template). t.0)) c.in-None.ensures.entry ∙ name_at_is c.self.inside.map.entries c.args.place ∙ ap (λ ts. slice_get (keys_of ts) c.args.place) c.self.view_is
