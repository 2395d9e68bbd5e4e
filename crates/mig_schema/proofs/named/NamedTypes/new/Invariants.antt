use Rattle.std.proofs.Common.{◌≡◌, nat_eq}
use Rattle.std.specs.Cmp.Lexicographic.{pointwise}
use Rattle.indexmap.specs.IndexMap.{IsUnique}
use Rattle.mig_schema.specs.Types.{named_all, AllKept}
use Rattle.mig_schema.proofs.named.NamedTypes.new.Given as goal

abbrev pub invariant-loop-name : goal.invariant-loop-name
invariant-loop-name l = (l.map.entries ≡ l.yielded) × (IsUnique (pointwise nat_eq) l.map × AllKept (named_all l.yielded))
