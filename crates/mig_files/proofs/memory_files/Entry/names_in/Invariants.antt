use Rattle.std.proofs.Common.{◌≡◌, map, take, string_bytes}
use Rattle.mig_files.specs.Entries.{entry_of, names_in}
use Rattle.mig_files.proofs.memory_files.Entry.names_in.Given as goal

abbrev pub invariant-loop-entry : goal.invariant-loop-entry
invariant-loop-entry l = map string_bytes l.names.items ≡ names_in l.folder (map entry_of (take l.entry-index l.entries))
