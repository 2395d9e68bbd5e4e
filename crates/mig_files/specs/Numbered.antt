-- Files and sinks in memory number their calls from 1, and fail at the numbers that are listed.
use Rattle.std.specs.Prelude.{◌≡◌, ℕ, ◌/◌, ◌==◌, Bool, IsTrue, IsFalse, List, ◌++◌, length, take, Result, Ok, Err}
use Rattle.std.specs.List.{list_any}
use Rattle.std.specs.Map.{lookup}
use Rattle.mig_files.specs.declared.faults.FileFault.{FileFault}
use Rattle.mig_files.specs.declared.faults.FileFault.TheVariants as file
use Rattle.mig_files.specs.declared.faults.SinkFault.{SinkFault}
use Rattle.mig_files.specs.declared.faults.SinkFault.TheVariants as sink
use Rattle.mig_files.specs.Held.{Key, Held, same_key, next, Counts}

abbrev pub is_listed : List ℕ → ℕ → Bool
is_listed failing call = list_any (λ listed. listed == call) failing

-- what a failed write or put leaves of its bytes
abbrev pub first_half : List ℕ → List ℕ
first_half bytes = take (length bytes / 2) bytes

-- all that a sink in memory is
pub record Sunk : Type 0 where
  pub bytes : List ℕ
  pub calls : ℕ
  pub failing : List ℕ
  pub faults : ℕ

-- the next put is to fail
abbrev pub is_put_due : Sunk → Bool
is_put_due s = is_listed s.failing (next s.calls)

-- a put fails exactly where its number is listed; want of memory changes nothing
abbrev pub PutsNumbered : Sunk → List ℕ → Sunk → Result (Unit {0}) SinkFault → Type 0
PutsNumbered old bytes new (Ok done) = IsFalse (is_put_due old) × (new ≡ record old { bytes = old.bytes ++ bytes; calls = next old.calls })
PutsNumbered old bytes new (Err sink.Failed) = IsTrue (is_put_due old)
    × (new ≡ record old { bytes = old.bytes ++ first_half bytes; calls = next old.calls; faults = next old.faults })
PutsNumbered old bytes new (Err sink.Memory) = new ≡ old

-- all that files in memory are
pub record Stored : Type 0 where
  pub entries : List (Key × List ℕ)
  pub calls : ℕ
  pub failing : List ℕ
  pub counts : Counts

abbrev pub held_by : List (Key × List ℕ) → Held
held_by entries key = lookup (same_key key) entries

abbrev pub holds : Stored → Held
holds s = held_by s.entries

-- the next call is to fail
abbrev pub is_due : Stored → Bool
is_due s = is_listed s.failing (next s.calls)

-- a call fails exactly where its number is listed, and one count rises with each refusal; want of memory changes nothing
abbrev pub Numbers : {T : Type 0} → Stored → Stored → Result T FileFault → Type 0
Numbers old new (Ok value) = IsFalse (is_due old) × (new ≡ record old { calls = next old.calls })
Numbers old new (Err file.Failed) = IsTrue (is_due old)
    × (new ≡ record old { calls = next old.calls; counts = record old.counts { faults = next old.counts.faults } })
Numbers old new (Err file.Absent) = IsFalse (is_due old)
    × (new ≡ record old { calls = next old.calls; counts = record old.counts { absent = next old.counts.absent } })
Numbers old new (Err file.Long) = IsFalse (is_due old)
    × (new ≡ record old { calls = next old.calls; counts = record old.counts { long = next old.counts.long } })
Numbers old new (Err file.Memory) = new ≡ old
