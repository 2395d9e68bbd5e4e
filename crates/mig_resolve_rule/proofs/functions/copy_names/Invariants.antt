use Rattle.std.proofs.Common.{◌≡◌, take}
use Rattle.mig_resolve_rule.proofs.functions.copy_names.Given as goal

abbrev pub invariant-loop-name : goal.invariant-loop-name
invariant-loop-name l = l.list.items ≡ take l.name-index l.names
