use Rattle.std.proofs.Common.{sym, ap, ◌∙◌}
use Rattle.std.specs.Map.{keys_of}
use Rattle.mig_model.specs.Names.{has_twice}
use Rattle.mig_schema.proofs.Types.{once_if_unique}
use Rattle.mig_schema.proofs.named.NamedTypes.len.Goals as goal

pub returns-clause-once : goal.returns-clause-once
returns-clause-once c = sym (ap (λ ts. has_twice (keys_of ts)) c.self.view_is) ∙ once_if_unique c.self.inside.map.entries c.len.ensures.unique
