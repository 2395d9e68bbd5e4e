use Rattle.std.proofs.Common.{map, take}
use Rattle.mig_value.specs.Typed.{items_of}
use Rattle.mig_value.specs.Kept.{ItemsKept}
use Rattle.mig_value.specs.View.{typed_of}
use Rattle.mig_value.proofs.keeping.are_kept.Given as goal

abbrev pub invariant-loop-value : goal.invariant-loop-value
invariant-loop-value l = ItemsKept (items_of (map typed_of (take l.value-index l.list)))
