-- What the faults of a record mean.
use Rattle.std.specs.Prelude.{◌≡◌, Bool, true, false}
use Rattle.mig_template.specs.declared.fault.RecordFault.{RecordFault}
use Rattle.mig_template.specs.declared.fault.RecordFault.TheVariants.{TwiceNamed, NoCase, Memory}

-- the first of the two that holds; want of memory says nothing
abbrev pub IsRecordFault : RecordFault → Bool → Bool → Type 0
IsRecordFault TwiceNamed twice none = twice ≡ true
IsRecordFault NoCase twice none = (twice ≡ false) × (none ≡ true)
IsRecordFault Memory twice none = Unit {0}
