use Rattle.std.proofs.Common.{◌≡◌, ◌++◌}
use Rattle.mig_schema.specs.Types.{named_all}
use Rattle.mig_schema.proofs.named.NamedTypes.copy.Given as goal

abbrev pub invariant-loop-name : goal.invariant-loop-name
invariant-loop-name l = named_all l.map.entries ++ named_all l.name-iterator ≡ l.self
