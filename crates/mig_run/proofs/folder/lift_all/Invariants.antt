use Rattle.std.proofs.Common.{◌≡◌, ◌≤◌, Some, Ok, take, map}
use Rattle.std.specs.Prelude.{string_bytes}
use Rattle.mig_files.specs.Held.{Held, NoneFell}
use Rattle.mig_run.specs.Causes.{PutsSaves}
use Rattle.mig_run.specs.Folder.{AreThere, after, Grows, lines, any_refused}
use Rattle.mig_run.specs.View.{job_at}
use Rattle.mig_run.proofs.folder.lift_all.Given as goal

-- where the files tell what they hold: the saves so far are done
abbrev pub invariant-loop-name : goal.invariant-loop-name
invariant-loop-name g l =
    ((held : Held) → g.F.Files.held l.fn.files ≡ Some held → AreThere held l.folders.from.now (map string_bytes l.names) →
    (g.F.Files.held l.files ≡ Some (after (job_at l.migrator l.folders.from.now l.folders.to.now held) (take l.name-index (map string_bytes l.names))))
    × Grows (g.S.Sink.written l.fn.report) (g.S.Sink.written l.report) (lines (job_at l.migrator l.folders.from.now l.folders.to.now held) (take l.name-index (map string_bytes l.names)))
    × (l.refused ≡ any_refused (job_at l.migrator l.folders.from.now l.folders.to.now held) (take l.name-index (map string_bytes l.names))))
    × PutsSaves l.migrator.target (g.F.Files.counts l.fn.files) (g.F.Files.counts l.files) (g.S.Sink.written l.fn.report) (g.S.Sink.written l.report) (Ok l.refused)
    × NoneFell (g.F.Files.counts l.fn.files) (g.F.Files.counts l.files)
    × (g.S.Sink.faults l.fn.report ≤ g.S.Sink.faults l.report)
    × (l.steps ≡ l.fn.steps)
