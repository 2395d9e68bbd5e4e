use Rattle.std.proofs.Common.{◌≡◌}
use Rattle.std.specs.Prelude.{string_bytes, filter}
use Rattle.mig_run.specs.Folder.{is_save}
use Rattle.mig_run.proofs.folder.list_saves.Given as goal

abbrev pub invariant-loop-name : goal.invariant-loop-name
invariant-loop-name g l = l.saves.items ≡ filter (λ s. is_save l.form (string_bytes s)) l.yielded
