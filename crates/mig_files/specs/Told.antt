-- What an answer of a call says.
use Rattle.std.specs.Prelude.{◌≡◌, ℕ, ◌≤◌, ◌<◌, List, ◌++◌, length, Option, Some, None, Result, Ok, Err, IsErrOf, Vec}
use Rattle.mig_files.specs.declared.faults.FileFault.{FileFault}
use Rattle.mig_files.specs.declared.faults.FileFault.TheVariants as file
use Rattle.mig_files.specs.declared.faults.SinkFault.{SinkFault}
use Rattle.mig_files.specs.declared.faults.SinkFault.TheVariants as sink
use Rattle.mig_files.specs.Held.{Key, Held, assign, next, Rose, Counts, NoneFell}

-- each refusal has its cause
pub record HasCause {T : Type 0} (before now : Counts) (result : Result T FileFault) : Type 0 where
  pub later : NoneFell before now
  pub failed : IsErrOf result file.Failed → Rose before.faults now.faults
  pub absent : IsErrOf result file.Absent → Rose before.absent now.absent
  pub long : IsErrOf result file.Long → Rose before.long now.long

-- each refusal but want of memory raises its own count by one, and nothing else does
abbrev pub Tallies : {T : Type 0} → Counts → Counts → Result T FileFault → Type 0
Tallies before now (Ok value) = now ≡ before
Tallies before now (Err file.Failed) = now ≡ record before { faults = next before.faults }
Tallies before now (Err file.Absent) = now ≡ record before { absent = next before.absent }
Tallies before now (Err file.Long) = now ≡ record before { long = next before.long }
Tallies before now (Err file.Memory) = now ≡ before

-- neither of the answers that a read alone gives
pub record IsNoReading {T : Type 0} (result : Result T FileFault) : Type 0 where
  pub absent : IsErrOf result file.Absent → ⊥
  pub long : IsErrOf result file.Long → ⊥

-- what a read of these bytes answers
abbrev pub AnswersRead : {A : Type 0} → Option (List ℕ) → ℕ → Result (Vec ℕ A) FileFault → Type 0
AnswersRead here limit (Ok bytes) = here ≡ Some bytes.items
AnswersRead here limit (Err file.Absent) = here ≡ None
AnswersRead here limit (Err file.Long) = (bytes : List ℕ) × (here ≡ Some bytes) × (limit < length bytes)
AnswersRead here limit (Err file.Failed) = Unit {0}
AnswersRead here limit (Err file.Memory) = Unit {0}

-- what a write leaves: after a failure its key is free
abbrev pub Writes : Held → Key → List ℕ → Option Held → Result (Unit {0}) FileFault → Type 0
Writes old key bytes new (Ok done) = new ≡ Some (assign old key (Some bytes))
Writes old key bytes new (Err file.Failed) = (left : Option (List ℕ)) × (new ≡ Some (assign old key left))
Writes old key bytes new (Err file.Memory) = new ≡ Some old
Writes old key bytes new (Err file.Absent) = ⊥
Writes old key bytes new (Err file.Long) = ⊥

pub record PutHasCause {T : Type 0} (before now : ℕ) (result : Result T SinkFault) : Type 0 where
  pub later : before ≤ now
  pub failed : IsErrOf result sink.Failed → Rose before now

-- a failed put raises the count by one, and nothing else does
abbrev pub PutTallies : {T : Type 0} → ℕ → ℕ → Result T SinkFault → Type 0
PutTallies before now (Ok value) = now ≡ before
PutTallies before now (Err sink.Failed) = now ≡ next before
PutTallies before now (Err sink.Memory) = now ≡ before

-- what a put leaves: after a failure some first part of the bytes
abbrev pub Puts : List ℕ → List ℕ → Option (List ℕ) → Result (Unit {0}) SinkFault → Type 0
Puts old bytes new (Ok done) = new ≡ Some (old ++ bytes)
Puts old bytes new (Err sink.Failed) = (front : List ℕ) × (rest : List ℕ) × (bytes ≡ front ++ rest) × (new ≡ Some (old ++ front))
Puts old bytes new (Err sink.Memory) = new ≡ Some old
