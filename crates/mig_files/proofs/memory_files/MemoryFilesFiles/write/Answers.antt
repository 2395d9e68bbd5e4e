use Rattle.std.proofs.Common.{◌/◌, take, length, Some, ap, ◌∙◌}
use Rattle.mig_files.specs.Held.{assign}
use Rattle.mig_files.specs.Numbered.{holds, Stored}
use Rattle.mig_files.proofs.memory_files.MemoryFilesFiles.write.Goals as goal

-- a failed write leaves the first half
pub returns-then-lists-clause-written : goal.returns-then-lists-clause-written
returns-then-lists-clause-written c =
    let half = take (length c.args.bytes.now / 2) c.args.bytes.now in
    (Some half, ap (λ m. Some m) (c.in_ok-store.ensures.ok ∙ ap (λ (s : Stored). assign (holds s) (c.args.folder.now, c.args.name.now) (Some half)) c.self.view_is))
