use Rattle.std.proofs.Common.{◌/◌, ◌++◌, ◌∙◌, sym, ap, Some, take, drop, length, take-append-drop}
use Rattle.mig_files.specs.Numbered.{Sunk}
use Rattle.mig_files.proofs.memory_sink.MemorySinkSink.put.Goals as goal

-- the first half and the rest are all of the bytes
pub returns-then-lists-clause-written : goal.returns-then-lists-clause-written
returns-then-lists-clause-written c = (
  take (length c.args.bytes.now / 2) c.args.bytes.now,
  drop (length c.args.bytes.now / 2) c.args.bytes.now,
  sym (take-append-drop (length c.args.bytes.now / 2) c.args.bytes.now),
  ap (λ l. Some l) (c.in_ok-extend_from_slice.ensures.items ∙ ap (λ (s : Sunk). s.bytes ++ take (length c.args.bytes.now / 2) c.args.bytes.now) c.self.view_is),
)
