use Rattle.mig_schema.specs.Types.{named_all, IsWithin}
use Rattle.mig_schema.proofs.named.NamedTypes.is_within.Given as goal

-- if those that are left are within the other, all are
abbrev pub invariant-loop-name : goal.invariant-loop-name
invariant-loop-name l = IsWithin (named_all l.name-iterator) l.other → IsWithin l.self l.other
