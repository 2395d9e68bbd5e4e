use Rattle.std.proofs.Common.{map, string_bytes, subst, sym, ap, ◌∙◌}
use Rattle.mig_files.specs.Held.{Lists}
use Rattle.mig_files.specs.Numbered.{holds, held_by, Stored}
use Rattle.mig_files.specs.Entries.{entry_of, names_in}
use Rattle.mig_files.proofs.Lists.{lists_names}
use Rattle.mig_files.proofs.memory_files.MemoryFilesFiles.list.Goals as goal

pub returns-clause-names : goal.returns-clause-names
returns-clause-names c =
    let es = map entry_of c.self.inside.entries.items in
    let folder = c.args.folder.now in
    subst (λ (s : Stored). Lists (holds s) folder (map string_bytes c.in_ok-names.names.items)) c.self.view_is
    (subst (Lists (held_by es) folder) (sym (c.in_ok-names.ensures ∙ ap (λ xs. names_in folder (map entry_of xs)) c.deref-2.ensures.value)) (lists_names folder es c.self.invariant))
